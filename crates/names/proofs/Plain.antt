-- A name without pointers, read as the name of a record: the two readers agree.
use Rattle.std.proofs.Common.{Some, ℕ, suc, ◌+◌, ◌≤◌, ◌≡◌, refl, sym, ap, ◌∙◌, List, [], ◌∷◌, ◌++◌, append_assoc, map, arith, length, take, drop, length-append, take_at}
use Rattle.octets.specs.Octets.{Octets}
use Rattle.names.specs.Bounds.{longest_name}
use Rattle.names.specs.Names.{Labels, AreLabels, encode, NameAt}
use Rattle.names.specs.Readings.{label, Reads, labels, pointers, after, ReadingAt}
use Rattle.names.specs.RecordNameWalk.{record_name_at}
use Rattle.names.proofs.Lists.{stand_drop, behind, past}
use Rattle.names.proofs.Readings.{label_steps_lem, reads_a_reading}

-- a name's labels, each a step
plain_steps : (n : Labels) (s : List ℕ) (p run : ℕ) (rest : List ℕ) → AreLabels n → drop p s ≡ encode n ++ rest → Reads s p run (map label n)
plain_steps [] s p run rest a e = ap (take 1) e
plain_steps (l ∷ n) s p run rest a e =
    let q : drop p s ≡ length l ∷ (l ++ (encode n ++ rest)) =
    e ∙ ap (λ (t : List ℕ). length l ∷ t) (append_assoc l (encode n) rest) in
    let st : take (suc (length l)) (drop p s) ≡ length l ∷ l =
    ap (take (suc (length l))) q ∙ ap (λ (t : List ℕ). length l ∷ t) (take_at l (encode n ++ rest) (length l) refl) in
    let b : drop (p + 1) s ≡ l ++ (encode n ++ rest) = behind s p (length l) (l ++ (encode n ++ rest)) q in
    (a.0, st, plain_steps n s (p + 1 + length l) run rest a.1 (past s (p + 1) l (encode n ++ rest) b))

plain_labels : (n : Labels) → labels (map label n) ≡ n
plain_labels [] = refl
plain_labels (l ∷ n) = ap (λ (t : Labels). l ∷ t) (plain_labels n)

plain_pointers : (n : Labels) → pointers (map label n) ≡ 0
plain_pointers [] = refl
plain_pointers (l ∷ n) = plain_pointers n

plain_after : (n : Labels) (p : ℕ) → after p (map label n) ≡ p + length (encode n)
plain_after [] p = refl
plain_after (l ∷ n) p = plain_after n (p + 1 + length l) ∙ omega (arith, length-append l (encode n))

module _ (s : List ℕ) (at len : ℕ) (f : NameAt s at len) where
  -- A name without pointers is a reading with none,
  pub plain_reading : ReadingAt s at (record { next = at + len; len = len; pointers = 0; labels = length f.name })
  plain_reading =
      let n : Labels = f.name in
      let h : len ≤ longest_name = omega (arith, f.len_is, f.is_name.short) in
      record {
        steps = map label n;
        reads = plain_steps n s at at (drop (length (encode n)) (drop at s)) f.is_name.labels (stand_drop s at (encode n) f.octets);
        next_is = omega (arith, plain_after n at, f.len_is);
        len_is = f.len_is ∙ ap (λ (m : Labels). length (encode m)) (sym (plain_labels n));
        pointers_are = sym (plain_pointers n);
        labels_are = sym (label_steps_lem (map label n) ∙ ap length (plain_labels n));
        short = h;
        few = omega arith;
      }

  -- whose labels are the name's.
  pub reading_labels : labels plain_reading.steps ≡ f.name
  unfolding plain_reading
  reading_labels = plain_labels f.name

-- So the reader of a record's name finds a name without pointers.
pub plain_is_packed : (s : List ℕ) (at len : ℕ) → Octets s → (f : NameAt s at len)
    → record_name_at s at ≡ Some (record { next = at + len; len = len; pointers = 0; labels = length f.name })
plain_is_packed s at len o f = (reads_a_reading s at _ o).1 (plain_reading s at len f)
