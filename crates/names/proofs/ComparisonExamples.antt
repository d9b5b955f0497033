-- Equality of names in records, by computation: two small messages, each with 12 octets of header.
use Rattle.std.proofs.Common.{ℕ, ◌≡◌, refl, List, [], ◌∷◌, ◌++◌, Bool, true, false}
use Rattle.octets.specs.Octets.{part_of}
use Rattle.names.specs.Folding.{folded, same_name}
use Rattle.names.specs.RecordNameWalk.{turn_at, record_name_from, expanded_from, expanded_at}
use Rattle.names.specs.Comparison.{same_record_name}

abbrev header : List ℕ
header = 0 ∷ 0 ∷ 0 ∷ 0 ∷ 0 ∷ 0 ∷ 0 ∷ 0 ∷ 0 ∷ 0 ∷ 0 ∷ 0 ∷ []

-- at 12 the name ab.c, at 18 a pointer to it, at 20 the label AB and a pointer to c, at 25 a pointer to 20
abbrev message : List ℕ
message = header ++ (2 ∷ 97 ∷ 98 ∷ 1 ∷ 99 ∷ 0 ∷ 0xC0 ∷ 12 ∷ 2 ∷ 65 ∷ 66 ∷ 0xC0 ∷ 15 ∷ 0xC0 ∷ 20 ∷ [])

-- at 12 the name ab.d, at 18 a pointer to it, at 20 a pointer to itself, at 22 the name ab, at 26 the name a
abbrev other : List ℕ
other = header ++ (2 ∷ 97 ∷ 98 ∷ 1 ∷ 100 ∷ 0 ∷ 0xC0 ∷ 12 ∷ 0xC0 ∷ 20 ∷ 2 ∷ 97 ∷ 98 ∷ 0 ∷ 1 ∷ 97 ∷ 0 ∷ [])

-- what is said of the names at two offsets
abbrev AreSame : List ℕ → ℕ → List ℕ → ℕ → Bool → Type 0
AreSame s p t q r = same_record_name s p t q ≡ r

pub record Examples : Type 0 where
  pub pointer_and_name : AreSame message 12 message 18 true
  pub two_targets : AreSame message 18 message 25 true
  -- one target in two messages
  pub one_target : AreSame message 18 other 18 false
  pub fewer_labels : AreSame message 12 other 22 false
  pub more_labels : AreSame other 22 message 12 false
  pub shorter_label : AreSame other 22 other 26 false
  pub longer_label : AreSame other 26 other 22 false
  pub endless_itself : AreSame other 20 other 20 false
  -- past the end
  pub none_itself : AreSame other 29 other 29 false

pub examples : Examples
unfolding same_record_name expanded_at record_name_from expanded_from turn_at same_name folded part_of
examples =
    record {
      pointer_and_name = refl;
      two_targets = refl;
      one_target = refl;
      fewer_labels = refl;
      more_labels = refl;
      shorter_label = refl;
      longer_label = refl;
      endless_itself = refl;
      none_itself = refl;
    }
