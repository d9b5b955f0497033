-- The reading of a record's name, turn by turn, to be computed. What it means: specs/Readings.antt.
use Rattle.std.specs.Prelude.{ℕ, zero, suc, ◌+◌, ◌-◌, ◌*◌, List, [], ◌∷◌, ◌++◌, cond, length, ltb, leb, eqb, None, Option, Some}
use Rattle.octets.specs.Octets.{octet_at, part_of}
use Rattle.octets.specs.Words.{big_at}
use Rattle.names.specs.Bounds.{longest_label, longest_name, most_pointers, least_target, pointer_mark}
use Rattle.names.specs.declared.Walk.{Walk}
use Rattle.names.specs.declared.Turn.{Turn}
use Rattle.names.specs.declared.Turn.TheVariants.{More, End, Wrong}
use Rattle.names.specs.declared.RecordName.{RecordName}

-- the target of the pointer at p
abbrev pub target : List ℕ → ℕ → ℕ
target s p = big_at s p - pointer_mark * 256

-- where reading goes on after the name: after its first pointer, else at p
abbrev pub goes_on : Walk → ℕ → ℕ
goes_on w p = cond (eqb w.pointers 0) p w.next

-- the root is no label
abbrev pub at_root : Walk → RecordName
at_root w = record { next = goes_on w (w.at + 1); len = w.len + 1; pointers = w.pointers; labels = 0 }

abbrev pub past_label : Walk → ℕ → Walk
past_label w c =
    record { at = w.at + 1 + c; run = w.run; pointers = w.pointers; len = w.len + 1 + c; next = w.next }

abbrev pub followed : Walk → ℕ → Walk
followed w to =
    record { at = to; run = to; pointers = w.pointers + 1; len = w.len; next = goes_on w (w.at + 2) }

abbrev pub label_turn : Walk → ℕ → Turn
label_turn w c = cond (leb longest_name (w.len + 1 + c)) Wrong (More (past_label w c))

abbrev pub pointer_turn : List ℕ → Walk → Turn
pointer_turn s w =
    cond (leb (length s) (w.at + 1)) Wrong
    (cond (ltb (target s w.at) least_target) Wrong
    (cond (leb w.run (target s w.at)) Wrong
    (cond (leb most_pointers w.pointers) Wrong
    (More (followed w (target s w.at))))))

-- one turn: a zero octet, a label, a pointer, or none of these
unfoldable pub turn_at : List ℕ → Walk → Turn
turn_at s w =
    cond (leb (length s) w.at) Wrong
    (cond (eqb (octet_at s w.at) 0) (End (at_root w))
    (cond (leb (octet_at s w.at) longest_label) (label_turn w (octet_at s w.at))
    (cond (ltb (octet_at s w.at) pointer_mark) Wrong
    (pointer_turn s w))))

-- a reading with so many labels more
abbrev pub more_labels : ℕ → Option RecordName → Option RecordName
more_labels m (Some r) = Some (record { next = r.next; len = r.len; pointers = r.pointers; labels = m + r.labels })
more_labels m None = None

-- a turn from w to v takes a label if it follows no pointer
abbrev pub labels_taken : Walk → Walk → ℕ
labels_taken w v = cond (eqb v.pointers w.pointers) 1 0

abbrev pub on_turn : Walk → Turn → (Walk → Option RecordName) → Option RecordName
on_turn w (More v) rest = more_labels (labels_taken w v) (rest v)
on_turn w (End r) rest = Some r
on_turn w Wrong rest = None

-- at most k turns; the labels are those from w on
unfoldable pub record_name_from : ℕ → List ℕ → Walk → Option RecordName
record_name_from zero s w = None
record_name_from (suc k) s w = on_turn w (turn_at s w) (record_name_from k s)

abbrev pub walk_at : ℕ → Walk
walk_at at = record { at = at; run = at; pointers = 0; len = 0; next = 0 }

-- each turn takes an octet of the name or a pointer, so these never run out
abbrev pub turns : ℕ
turns = longest_name + most_pointers

-- the record's name at an offset
abbrev pub record_name_at : List ℕ → ℕ → Option RecordName
record_name_at s at = record_name_from turns s (walk_at at)

-- the octets that a turn adds to the expanded name: those of its label, none for a pointer
abbrev pub on_expand : List ℕ → Walk → Turn → (Walk → List ℕ) → List ℕ
on_expand s w (More v) rest = part_of s w.at (w.at + (v.len - w.len)) ++ rest v
on_expand s w (End r) rest = 0 ∷ []
on_expand s w Wrong rest = []

unfoldable pub expanded_from : ℕ → List ℕ → Walk → List ℕ
expanded_from zero s w = []
expanded_from (suc k) s w = on_expand s w (turn_at s w) (expanded_from k s)

abbrev pub if_good : Option RecordName → List ℕ → List ℕ
if_good (Some r) xs = xs
if_good None xs = []

-- the octets of the expanded name at an offset; none if it is not readable
unfoldable pub expanded_at : List ℕ → ℕ → List ℕ
expanded_at s at = if_good (record_name_at s at) (expanded_from turns s (walk_at at))
