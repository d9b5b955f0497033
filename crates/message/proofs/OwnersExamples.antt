-- Labels and pointers of the owner names of two messages' answers, by computation.
use Rattle.std.proofs.Common.{Err, ℕ, ◌*◌, ◌≡◌, refl, List, [], ◌∷◌, ◌++◌}
use Rattle.names.specs.Bounds.{most_labels}
use Rattle.names.specs.RecordNameWalk.{turn_at, record_name_from}
use Rattle.names.proofs.DepthExamples.{labelled, chained}
use Rattle.message.specs.Header.{header_of}
use Rattle.message.specs.Records.{record_at, walk_from, records_from}
use Rattle.message.specs.Owners.{answers_from, owner_labels, owner_pointers}

-- a header with an ANCOUNT
abbrev header : ℕ → List ℕ
header ancount = 0 ∷ 0 ∷ 0x80 ∷ 0 ∷ 0 ∷ 1 ∷ 0 ∷ ancount ∷ 0 ∷ 0 ∷ 0 ∷ 0 ∷ []

-- type A and class IN
abbrev typed : List ℕ
typed = 0 ∷ 1 ∷ 0 ∷ 1 ∷ []

-- a record whose owner is a pointer to an offset below 256, with at most 255 octets of data
abbrev pointed : ℕ → ℕ → List ℕ → List ℕ
pointed to len octets = 0xC0 ∷ to ∷ (typed ++ (0 ∷ 0 ∷ 0 ∷ 30 ∷ 0 ∷ len ∷ octets))

-- a question about a name of 127 labels, which ends at 271, and two answers about it
abbrev wide : List ℕ
wide = header 2 ++ labelled 127 (0 ∷ (typed ++ pointed 12 4 (192 ∷ 0 ∷ 2 ∷ 17 ∷ []) ++ pointed 12 4 (192 ∷ 0 ∷ 2 ∷ 18 ∷ [])))

-- A question about x, which ends at 19; an answer at 19 whose data, from 31 on, are 15 pointers, the last at 59; one at 61 whose owner points there;
-- and of a third, at 73, the first octet only.
abbrev deep : List ℕ
deep = header 3 ++ (1 ∷ 120 ∷ 0 ∷ (typed ++ pointed 12 30 (chained 15 12 31) ++ pointed 59 0 [] ++ (0xC0 ∷ [])))

pub record Sums : Type 0 where
  -- twice 127 labels are reached
  pub wide_labels : owner_labels (answers_from wide 271) ≡ 2 * most_labels
  pub wide_pointers : owner_pointers (answers_from wide 271) ≡ 2
  -- the two records before the bad one: 1 pointer and 16
  pub deep_stops : walk_from 3 deep 19 ≡ Err 73
  pub deep_labels : owner_labels (answers_from deep 19) ≡ 2
  pub deep_pointers : owner_pointers (answers_from deep 19) ≡ 17

pub sums : Sums
unfolding header_of walk_from records_from record_at record_name_from turn_at
sums = record { wide_labels = refl; wide_pointers = refl; deep_stops = refl; deep_labels = refl; deep_pointers = refl }
