-- Equality of the names of two records, each with or without pointers, in one message or two. A name that cannot be read equals nothing, not
-- even itself. Two that can be read are equal if their expanded names are.
use Rattle.std.specs.Prelude.{ℕ, ◌+◌, ◌≡◌, List, Bool, true, false, eqb, None, Option, Some}
use Rattle.octets.specs.Tests.{◌and◌}
use Rattle.names.specs.Folding.{folded_name, same_name}
use Rattle.names.specs.Readings.{labels, ReadingAt}
use Rattle.names.specs.declared.Walk.{Walk}
use Rattle.names.specs.declared.Turn.{Turn}
use Rattle.names.specs.declared.Turn.TheVariants.{More, End, Wrong}
use Rattle.names.specs.declared.RecordName.{RecordName}
use Rattle.names.specs.RecordNameWalk.{record_name_from, turns, record_name_at, expanded_at}

-- the reader has found a name
abbrev pub is_good : Option RecordName → Bool
is_good (Some r) = true
is_good None = false

-- the name at p of s equals the name at q of t
unfoldable pub same_record_name : List ℕ → ℕ → List ℕ → ℕ → Bool
same_record_name s p t q =
    is_good (record_name_at s p) and is_good (record_name_at t q) and same_name (expanded_at s p) (expanded_at t q)

-- The same in plain words: both names have a reading, and the labels of the two readings are the same once folded.
pub record SameNames (s : List ℕ) (p : ℕ) (t : List ℕ) (q : ℕ) : Type 0 where
  pub one : RecordName
  pub other : RecordName
  pub reading : ReadingAt s p one
  pub other_reading : ReadingAt t q other
  pub same : folded_name (labels reading.steps) ≡ folded_name (labels other_reading.steps)

-- How a comparison that has found no difference ends: the one name is at its zero octet,
abbrev pub is_end : Turn → Bool
is_end (More v) = false
is_end (End r) = true
is_end Wrong = false

-- and of the other one octet is left, after so many.
abbrev pub one_more : Option RecordName → ℕ → Bool
one_more (Some r) n = eqb r.len (n + 1)
one_more None n = false

abbrev pub ends_from : List ℕ → Walk → Bool
ends_from s w = one_more (record_name_from turns s w) w.len
