-- The bounds on deep names are reached, by computation.
use Rattle.std.proofs.Common.{Some, ℕ, suc, zero, ◌+◌, ◌/◌, ◌%◌, ◌≡◌, refl, List, [], ◌∷◌}
use Rattle.names.specs.Bounds.{longest_name, most_labels, most_pointers}
use Rattle.names.specs.NameWalk.{name_from, name_at}
use Rattle.names.specs.RecordNameWalk.{turn_at, record_name_from, walk_at, turns, record_name_at}
use Rattle.names.specs.Depth.{turns_from, most_turns}

-- n times the label x, then what follows
abbrev pub labelled : ℕ → List ℕ → List ℕ
labelled zero rest = rest
labelled (suc n) rest = 1 ∷ 120 ∷ labelled n rest

-- n pointers from offset `from` on: the first to offset `to`, each other to the one before it
abbrev pub chained : ℕ → ℕ → ℕ → List ℕ
chained zero to from = []
chained (suc n) to from = (0xC0 + to / 256) ∷ to % 256 ∷ chained n from (from + 2)

-- twelve octets of header, at 12 a name of 127 labels, from 267 on 16 pointers, the last of which stands at 297
abbrev message : List ℕ
message = 0 ∷ 0 ∷ 0 ∷ 0 ∷ 0 ∷ 0 ∷ 0 ∷ 0 ∷ 0 ∷ 0 ∷ 0 ∷ 0 ∷ labelled 127 (0 ∷ chained 16 12 267)

pub record Reached : Type 0 where
  -- 127 labels, without pointers, for both readers
  pub name : name_at message 12 ≡ Some (record { len = longest_name; labels = most_labels })
  pub labels : record_name_at message 12 ≡ Some (record { next = 267; len = 255; pointers = 0; labels = most_labels })
  -- 127 labels behind 16 pointers, in 144 turns
  pub deepest : record_name_at message 297 ≡ Some (record { next = 299; len = 255; pointers = most_pointers; labels = most_labels })
  pub turns_taken : turns_from turns message (walk_at 297) ≡ most_turns

pub reached : Reached
unfolding name_from record_name_from turn_at turns_from
reached = record { name = refl; labels = refl; deepest = refl; turns_taken = refl }
