-- How deep a name can be: its labels, its pointers, and the turns that its reading takes.
use Rattle.std.specs.Prelude.{ℕ, zero, suc, ◌+◌, ◌*◌, ◌≤◌, List}
use Rattle.names.specs.Bounds.{longest_name, most_labels, most_pointers}
use Rattle.names.specs.declared.Walk.{Walk}
use Rattle.names.specs.declared.Turn.{Turn}
use Rattle.names.specs.declared.Turn.TheVariants.{More, End, Wrong}
use Rattle.names.specs.declared.RecordName.{RecordName}
use Rattle.names.specs.RecordNameWalk.{turn_at}

-- a name's octets are two or more for each label, and one, and at most 255; so its labels are at most 127
pub record NameDepth (len count : ℕ) : Type 0 where
  pub octets : 2 * count + 1 ≤ len
  pub short : len ≤ longest_name
  pub few : count ≤ most_labels

-- a record's name is no deeper, and has at most 16 pointers
pub record Depth (r : RecordName) : Type 0 where
  pub name : NameDepth r.len r.labels
  pub few_pointers : r.pointers ≤ most_pointers

-- The turns of a reading: those after a turn,
abbrev pub turns_after : Turn → (Walk → ℕ) → ℕ
turns_after (More v) rest = rest v
turns_after (End r) rest = 0
turns_after Wrong rest = 0

-- those from w on, at most k, with the one at which it ends or goes wrong,
unfoldable pub turns_from : ℕ → List ℕ → Walk → ℕ
turns_from zero s w = 0
turns_from (suc k) s w = 1 + turns_after (turn_at s w) (turns_from k s)

-- and the most that there can be: one for each label and each pointer, and the last one
abbrev pub most_turns : ℕ
most_turns = most_labels + most_pointers + 1
