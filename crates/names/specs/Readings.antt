-- The name in a record, in plain words. Reading it takes steps, each a label or a pointer, and ends at the root's zero octet. A
-- pointer is two octets, the top two bits set and the other 14 its target; the target is at least 12 and below the offset where the
-- current run of labels began, which is the name's own offset or the last target. At most 16 are followed, and the expanded name,
-- the labels joined, has at most 255 octets.
use Rattle.std.specs.Prelude.{ℕ, ◌+◌, ◌<◌, ◌≤◌, ◌≡◌, List, [], ◌∷◌, length}
use Rattle.octets.specs.Words.{big_at}
use Rattle.names.specs.Names.{IsLabel, Labels, encode, Stand}
use Rattle.names.specs.declared.RecordName.{RecordName}

pub data Step : Type 0 where
  label : List ℕ → Step
  pointer : ℕ → Step

-- a pointer stands in s at an offset, in a run of labels that began at `run`
pub record IsPointer (s : List ℕ) (at run to : ℕ) : Type 0 where
  pub inside : at + 1 < length s
  pub word : big_at s at ≡ 0xC000 + to
  pub after_header : 12 ≤ to
  pub backwards : to < run

-- the steps are those met from an offset on
abbrev pub Reads : List ℕ → ℕ → ℕ → List Step → Type 0
Reads s at run [] = Stand s at (0 ∷ [])
Reads s at run (label l ∷ r) = IsLabel l × Stand s at (length l ∷ l) × Reads s (at + 1 + length l) run r
Reads s at run (pointer to ∷ r) = IsPointer s at run to × Reads s to to r

abbrev pub labels : List Step → Labels
labels [] = []
labels (label l ∷ r) = l ∷ labels r
labels (pointer to ∷ r) = labels r

-- the label steps, and the pointers
abbrev pub label_steps : List Step → ℕ
label_steps [] = 0
label_steps (label l ∷ r) = 1 + label_steps r
label_steps (pointer to ∷ r) = label_steps r

abbrev pub pointers : List Step → ℕ
pointers [] = 0
pointers (label l ∷ r) = pointers r
pointers (pointer to ∷ r) = 1 + pointers r

-- the offset after the name: after its first pointer, or after its zero octet
abbrev pub after : ℕ → List Step → ℕ
after at [] = at + 1
after at (label l ∷ r) = after (at + 1 + length l) r
after at (pointer to ∷ r) = at + 2

-- a record's name stands in s at an offset, and r tells the offset after it, its expanded length, its pointers and its label steps
pub record ReadingAt (s : List ℕ) (at : ℕ) (r : RecordName) : Type 0 where
  pub steps : List Step
  pub reads : Reads s at at steps
  pub next_is : r.next ≡ after at steps
  pub len_is : r.len ≡ length (encode (labels steps))
  pub pointers_are : r.pointers ≡ pointers steps
  pub labels_are : r.labels ≡ label_steps steps
  pub short : r.len ≤ 255
  pub few : r.pointers ≤ 16
