-- The labels and pointers of the owner names of a message's answers, added up.
use Rattle.std.specs.Prelude.{ℕ, ◌+◌, ◌*◌, ◌≤◌, List, [], ◌∷◌}
use Rattle.names.specs.Bounds.{most_labels, most_pointers}
use Rattle.message.specs.declared.ResourceRecord.{ResourceRecord}
use Rattle.message.specs.Header.{header_of}
use Rattle.message.specs.Records.{records_from}

-- the answers of a message from an offset on, where its question ends: as many as ANCOUNT tells, or those before the first bad one
abbrev pub answers_from : List ℕ → ℕ → List ResourceRecord
answers_from s at = records_from (header_of s).answers s at

abbrev pub owner_labels : List ResourceRecord → ℕ
owner_labels [] = 0
owner_labels (r ∷ rs) = r.owner.labels + owner_labels rs

abbrev pub owner_pointers : List ResourceRecord → ℕ
owner_pointers [] = 0
owner_pointers (r ∷ rs) = r.owner.pointers + owner_pointers rs

-- the owner names of some records are no deeper than k names can be
pub record NoDeeper (k : ℕ) (rs : List ResourceRecord) : Type 0 where
  pub labels : owner_labels rs ≤ k * most_labels
  pub pointers : owner_pointers rs ≤ k * most_pointers
