-- What the reader of a record's name means, in the plain words of specs/Readings.antt.
use Rattle.std.proofs.Common.{None, Option, Some, ℕ, suc, zero, ◌+◌, ◌-◌, ◌<◌, ◌≤◌, ◌≡◌, refl, sym, ap, ◌∙◌, subst, List, [], ◌∷◌, ◌↔◌, ◌⊎◌, inl, inr, arith, length, take, drop, length-append, length-drop, length-take-le, ne_eqb}
use Rattle.octets.specs.Octets.{Octets, octet_at, part_of}
use Rattle.octets.proofs.Octets.{octets_drop, octets_take, octet_at_lem, part_in}
use Rattle.octets.proofs.Readers.{finds_none}
use Rattle.names.specs.Bounds.{longest_label, longest_name, most_pointers, least_target, pointer_mark}
use Rattle.names.specs.Names.{AreLabels, encode, IsName, Stand}
use Rattle.names.specs.Readings.{Step, label, pointer, IsPointer, Reads, labels, label_steps, pointers, after, ReadingAt}
use Rattle.names.specs.declared.Walk.{Walk}
use Rattle.names.specs.declared.Turn.TheVariants.{More}
use Rattle.names.specs.declared.RecordName.{RecordName}
use Rattle.names.specs.RecordNameWalk.{target, goes_on, at_root, past_label, followed, turn_at, more_labels, labels_taken, record_name_from, walk_at, turns, record_name_at, expanded_from, expanded_at}
use Rattle.names.proofs.Lists.{stand_drop, from_here, there, here}
use Rattle.names.proofs.Turns.{Met, root, one, jump, wrong, met, turn_root, turn_label, turn_jump, takes_one, takes_none, more_none, Without, after_turn}
use Rattle.names.proofs.RecordNameWalk.{Within, within_start, no_part}
use Rattle.names.proofs.Expansion.{expands_good}
use Rattle.names.proofs.Names.{encode_some, encode_labels}

-- a reading from a walk on
record From (s : List ℕ) (w : Walk) (r : RecordName) : Type 0 where
  steps : List Step
  reads : Reads s w.at w.run steps
  next_is : r.next ≡ goes_on w (after w.at steps)
  len_is : r.len ≡ w.len + length (encode (labels steps))
  pointers_are : r.pointers ≡ w.pointers + pointers steps
  labels_are : r.labels ≡ label_steps steps
  short : r.len ≤ longest_name
  few : r.pointers ≤ most_pointers

from_root : (s : List ℕ) (w : Walk) → Within w → w.at < length s → octet_at s w.at ≡ 0 → From s w (at_root w)
from_root s w b h g =
    record {
      steps = [];
      reads = ap (take 1) (from_here s w.at h) ∙ ap (λ (c : ℕ). c ∷ []) g;
      next_is = refl;
      len_is = refl;
      pointers_are = omega arith;
      labels_are = refl;
      short = omega (arith, b.short);
      few = b.few;
    }

-- where a reading goes on there is an octet
reads_inside : (s : List ℕ) (p run : ℕ) (r : List Step) → Reads s p run r → p < length s
reads_inside s p run [] a = there s p 0 _ (stand_drop s p (0 ∷ []) a)
reads_inside s p run (label l ∷ r) a = there s p (length l) _ (stand_drop s p (length l ∷ l) a.1)
reads_inside s p run (pointer to ∷ r) a = let h : p + 1 < length s = a.0.inside in omega arith

module _ (s : List ℕ) (w : Walk) (r : RecordName) {x : Option RecordName} (o : Octets s) where
  from_label : w.at < length s → 1 ≤ octet_at s w.at → octet_at s w.at ≤ longest_label
      → (q : Without (labels_taken w (past_label w (octet_at s w.at))) x r) → From s (past_label w (octet_at s w.at)) q.fewer → From s w r
  from_label h g i q f =
      let p : ℕ = w.at in
      let c : ℕ = octet_at s p in
      let d : List ℕ = drop (p + 1) s in
      let l : List ℕ = take c d in
      let in_s : p + 1 + c < length s = reads_inside s (p + 1 + c) w.run f.steps f.reads in
      let fits : c ≤ length d = omega (arith, length-drop (p + 1) s) in
      let is : length l ≡ c = length-take-le c d fits in
      let some : 1 ≤ length l = omega arith in
      let few : length l ≤ longest_label = omega arith in
      let st : Stand s p (length l ∷ l) =
      ap (take (suc (length l))) (from_here s p h) ∙ ap (λ (k : ℕ). c ∷ take k d) is ∙ ap (λ (k : ℕ). k ∷ l) (sym is) in
      record {
        steps = label l ∷ f.steps;
        reads = (
          record { some = some; short = few; octets = octets_take c d (octets_drop (p + 1) s o) },
          st,
          subst (λ (k : ℕ). Reads s (p + 1 + k) w.run f.steps) (sym is) f.reads,
        );
        next_is = q.next_is ∙ f.next_is ∙ ap (λ (k : ℕ). goes_on w (after (p + 1 + k) f.steps)) (sym is);
        len_is = omega (arith, q.len_is, f.len_is, length-append l (encode (labels f.steps)));
        pointers_are = q.pointers_are ∙ f.pointers_are;
        labels_are = omega (arith, q.labels_are, takes_one w c, f.labels_are);
        short = omega (arith, q.len_is, f.short);
        few = omega (arith, q.pointers_are, f.few);
      }

  from_jump : w.at + 1 < length s → pointer_mark ≤ octet_at s w.at → least_target ≤ target s w.at → target s w.at < w.run
      → (q : Without (labels_taken w (followed w (target s w.at))) x r) → From s (followed w (target s w.at)) q.fewer → From s w r
  from_jump h g i j q f =
      let z : w.pointers + 1 ≡ 0 → ⊥ = omega arith in
      record {
        steps = pointer (target s w.at) ∷ f.steps;
        reads = (record { inside = h; word = omega arith; after_header = i; backwards = j }, f.reads);
        next_is = q.next_is ∙ f.next_is ∙ rw (ne_eqb _ _ z);
        len_is = q.len_is ∙ f.len_is;
        pointers_are = omega (arith, q.pointers_are, f.pointers_are);
        labels_are = omega (arith, q.labels_are, takes_none w (target s w.at), f.labels_are);
        short = omega (arith, q.len_is, f.short);
        few = omega (arith, q.pointers_are, f.few);
      }

sound : (k : ℕ) (s : List ℕ) (w : Walk) (r : RecordName) → Octets s → Within w → record_name_from k s w ≡ Some r → From s w r
unfolding record_name_from
sound zero s w r o b e = absurd (let z : ◌≡◌ {A = ℕ} 0 1 = cc in omega arith)
sound (suc k) s w r o b e = go (met s w) (λ v q. sound k s v q o)
  where
    go : Met s w → ((v : Walk) (q : RecordName) → Within v → record_name_from k s v ≡ Some q → From s v q) → From s w r
    go (wrong q) i = absurd (let z : ◌≡◌ {A = ℕ} 0 1 = cc in omega arith)
    go (root h g) i =
        let f : Some (at_root w) ≡ Some r = rw (turn_root s w h g) at e in
        let q : at_root w ≡ r = cc in
        subst (λ (x : RecordName). From s w x) q (from_root s w b h g)
    go (one h g u v) i =
        let q = after_turn k s w _ r e (turn_label s w h g u v) in
        from_label s w r o h g u q (i (past_label w (octet_at s w.at)) q.fewer (record { short = v; few = b.few }) q.is)
    go (jump h g u v m) i =
        let q = after_turn k s w _ r e (turn_jump s w h g u v m) in
        from_jump s w r o h g u v q (i (followed w (target s w.at)) q.fewer (record { short = b.short; few = omega arith }) q.is)

-- the first octet of each kind of step
first_root : (s : List ℕ) (p : ℕ) → Stand s p (0 ∷ []) → octet_at s p ≡ 0
first_root s p a = here s p 0 _ (stand_drop s p (0 ∷ []) a)

first_label : (s : List ℕ) (p : ℕ) (l : List ℕ) → Stand s p (length l ∷ l) → octet_at s p ≡ length l
first_label s p l a = here s p (length l) _ (stand_drop s p (length l ∷ l) a)

first_pointer : (s : List ℕ) (p run to : ℕ) → Octets s → IsPointer s p run to → pointer_mark ≤ octet_at s p
first_pointer s p run to o a = omega (arith, a.word, octet_at_lem s (p + 1) o)

-- a reading is what the reader tells of it
abbrev read_as : Walk → List Step → Option RecordName
read_as w r =
    Some
    (record {
      next = goes_on w (after w.at r);
      len = w.len + length (encode (labels r));
      pointers = w.pointers + pointers r;
      labels = label_steps r;
    })

-- what the reader needs to read the steps from w on to their end
record Readable (k : ℕ) (s : List ℕ) (w : Walk) (r : List Step) : Type 0 where
  reads : Reads s w.at w.run r
  room : w.len + length (encode (labels r)) ≤ longest_name
  few : w.pointers + pointers r ≤ most_pointers
  fuel : length r < k

-- a label or a pointer first: the turn, and the rest
record LabelFirst (k : ℕ) (s : List ℕ) (w : Walk) (l : List ℕ) (r : List Step) : Type 0 where
  is : octet_at s w.at ≡ length l
  turn : turn_at s w ≡ More (past_label w (octet_at s w.at))
  rest : Readable k s (past_label w (octet_at s w.at)) r

label_first : (k : ℕ) (s : List ℕ) (w : Walk) (l : List ℕ) (r : List Step) → Readable (suc k) s w (label l ∷ r) → LabelFirst k s w l r
label_first k s w l r a =
    let p : ℕ = w.at in
    let c : ℕ = octet_at s p in
    let is : c ≡ length l = first_label s p l a.reads.1 in
    let q : length (encode (l ∷ labels r)) ≡ 1 + length l + length (encode (labels r)) =
    omega (arith, length-append l (encode (labels r))) in
    let some : 1 ≤ c = omega (arith, a.reads.0.some) in
    let short : c ≤ longest_label = omega (arith, a.reads.0.short) in
    let room : w.len + 1 + c < longest_name = omega (arith, encode_some (labels r), a.room) in
    record {
      is = is;
      turn = turn_label s w (reads_inside s p w.run (label l ∷ r) a.reads) some short room;
      rest = record {
        reads = subst (λ (m : ℕ). Reads s (p + 1 + m) w.run r) (sym is) a.reads.2;
        room = omega (arith, a.room);
        few = a.few;
        fuel = omega (arith, a.fuel);
      };
    }

record PointerFirst (k : ℕ) (s : List ℕ) (w : Walk) (to : ℕ) (r : List Step) : Type 0 where
  is : target s w.at ≡ to
  turn : turn_at s w ≡ More (followed w (target s w.at))
  rest : Readable k s (followed w (target s w.at)) r

pointer_first : (k : ℕ) (s : List ℕ) (w : Walk) (to : ℕ) (r : List Step) → Octets s → Readable (suc k) s w (pointer to ∷ r)
    → PointerFirst k s w to r
pointer_first k s w to r o a =
    let p : ℕ = w.at in
    let b = a.reads.0 in
    let high : pointer_mark ≤ octet_at s p = first_pointer s p w.run to o b in
    let is : target s p ≡ to = omega (arith, b.word) in
    let least : least_target ≤ target s p = omega (arith, b.after_header) in
    let back : target s p < w.run = omega (arith, b.backwards) in
    let room : w.pointers < most_pointers = omega (arith, a.few) in
    record {
      is = is;
      turn = turn_jump s w b.inside high least back room;
      rest = record {
        reads = subst (λ (m : ℕ). Reads s m m r) (sym is) a.reads.1;
        room = a.room;
        few = omega (arith, a.few);
        fuel = omega (arith, a.fuel);
      };
    }

complete : (k : ℕ) (s : List ℕ) (w : Walk) (r : List Step) → Octets s → Readable k s w r → record_name_from k s w ≡ read_as w r
unfolding record_name_from
complete zero s w r o a = absurd (omega (arith, a.fuel))
complete (suc k) s w [] o a =
    let t = turn_root s w (reads_inside s w.at w.run [] a.reads) (first_root s w.at a.reads) in
    let z : w.pointers ≡ w.pointers + 0 = omega arith in
    rw t (ap (λ (c : ℕ). Some (record { next = goes_on w (w.at + 1); len = w.len + 1; pointers = c; labels = 0 })) z)
complete (suc k) s w (label l ∷ r) o a =
    let f = label_first k s w l r a in
    let p : ℕ = w.at in
    let c : ℕ = octet_at s p in
    let n : ℕ = w.pointers + pointers r in
    let e : c ≡ length l = f.is in
    let z : w.len + 1 + c + length (encode (labels r)) ≡ w.len + length (encode (l ∷ labels r)) =
    omega (arith, length-append l (encode (labels r))) in
    rw (f.turn, takes_one w c)
    (ap (more_labels 1) (complete k s (past_label w c) r o f.rest)
    ∙ ap (λ (m : ℕ). Some (record { next = goes_on w (after (p + 1 + m) r); len = w.len + 1 + c + length (encode (labels r)); pointers = n; labels = 1 + label_steps r })) e
    ∙ ap (λ (m : ℕ). Some (record { next = goes_on w (after (p + 1 + length l) r); len = m; pointers = n; labels = 1 + label_steps r })) z)
complete (suc k) s w (pointer to ∷ r) o a =
    let f = pointer_first k s w to r o a in
    let nz : w.pointers + 1 ≡ 0 → ⊥ = omega arith in
    let z : w.pointers + 1 + pointers r ≡ w.pointers + (1 + pointers r) = omega arith in
    rw (f.turn, takes_none w (target s w.at), more_none (record_name_from k s (followed w (target s w.at))))
    (complete k s (followed w (target s w.at)) r o f.rest
    ∙ rw (ne_eqb _ _ nz)
    (ap (λ (m : ℕ). Some (record { next = goes_on w (w.at + 2); len = w.len + length (encode (labels r)); pointers = m; labels = label_steps r })) z))

-- the labels of a reading are labels, and its steps are its labels and pointers
reads_labels : (s : List ℕ) (p run : ℕ) (r : List Step) → Reads s p run r → AreLabels (labels r)
reads_labels s p run [] a = tt
reads_labels s p run (label l ∷ r) a = (a.0, reads_labels s (p + 1 + length l) run r a.2)
reads_labels s p run (pointer to ∷ r) a = reads_labels s to to r a.1

steps_count : (r : List Step) → length r ≡ label_steps r + pointers r
steps_count [] = omega arith
steps_count (label l ∷ r) = omega (arith, steps_count r)
steps_count (pointer to ∷ r) = omega (arith, steps_count r)

-- The label steps of a reading are as many as the labels of its name.
pub label_steps_lem : (r : List Step) → label_steps r ≡ length (labels r)
label_steps_lem [] = refl
label_steps_lem (label l ∷ r) = omega (arith, label_steps_lem r)
label_steps_lem (pointer to ∷ r) = label_steps_lem r

-- a reading is in reach of the walk's turns
readable : (s : List ℕ) (at : ℕ) (r : RecordName) (f : ReadingAt s at r) → Readable turns s (walk_at at) f.steps
readable s at r f =
    record {
      reads = f.reads;
      room = omega (arith, f.short, f.len_is);
      few = omega (arith, f.few, f.pointers_are);
      fuel = omega
          (arith, f.short, f.len_is, f.few, f.pointers_are, steps_count f.steps, label_steps_lem f.steps, encode_labels (labels f.steps) (reads_labels s at at f.steps f.reads));
    }

-- The reader tells of a record's name exactly what its reading is.
pub reads_a_reading : (s : List ℕ) (at : ℕ) (r : RecordName) → Octets s → (record_name_at s at ≡ Some r) ↔ ReadingAt s at r
reads_a_reading s at r o = (to_reading, from_reading)
  where
    to_reading : record_name_at s at ≡ Some r → ReadingAt s at r
    to_reading e =
        let f = sound turns s (walk_at at) r o (within_start at) e in
        record {
          steps = f.steps;
          reads = f.reads;
          next_is = f.next_is;
          len_is = omega (arith, f.len_is);
          pointers_are = omega (arith, f.pointers_are);
          labels_are = f.labels_are;
          short = f.short;
          few = f.few;
        }

    from_reading : ReadingAt s at r → record_name_at s at ≡ Some r
    from_reading f =
        let m : List Step = f.steps in
        let x : 0 + length (encode (labels m)) ≡ r.len = omega (arith, f.len_is) in
        let y : 0 + pointers m ≡ r.pointers = omega (arith, f.pointers_are) in
        complete turns s (walk_at at) m o (readable s at r f)
        ∙ ap (λ (n : ℕ). Some (record { next = n; len = 0 + length (encode (labels m)); pointers = 0 + pointers m; labels = label_steps m })) (sym f.next_is)
        ∙ ap (λ (n : ℕ). Some (record { next = r.next; len = n; pointers = 0 + pointers m; labels = label_steps m })) x
        ∙ ap (λ (n : ℕ). Some (record { next = r.next; len = r.len; pointers = n; labels = label_steps m })) y
        ∙ ap (λ (n : ℕ). Some (record { next = r.next; len = r.len; pointers = r.pointers; labels = n })) (sym f.labels_are)

-- The reader gives up exactly if there is no reading: its turns never run out.
pub reads_no_reading : (s : List ℕ) (at : ℕ) → Octets s → (record_name_at s at ≡ None) ↔ ((r : RecordName) → ReadingAt s at r → ⊥)
reads_no_reading s at o = finds_none (λ r. reads_a_reading s at r o) (λ r e. let z : ◌≡◌ {A = ℕ} 0 1 = cc in omega arith) (either (record_name_at s at))
  where
    either : (x : Option RecordName) → ((r : RecordName) × (x ≡ Some r)) ⊎ (x ≡ None)
    either (Some r) = inl (r, refl)
    either None = inr refl

one_reading : (s : List ℕ) (p run : ℕ) (a b : List Step) → Octets s → Reads s p run a → Reads s p run b → a ≡ b
one_reading s p run [] [] o x y = refl
one_reading s p run [] (label l ∷ b) o x y = absurd (omega (arith, first_root s p x, first_label s p l y.1, y.0.some))
one_reading s p run [] (pointer t ∷ b) o x y = absurd (omega (arith, first_root s p x, first_pointer s p run t o y.0))
one_reading s p run (label l ∷ a) [] o x y = absurd (omega (arith, first_root s p y, first_label s p l x.1, x.0.some))
one_reading s p run (label l ∷ a) (label m ∷ b) o x y =
    let e : length l ≡ length m = sym (first_label s p l x.1) ∙ first_label s p m y.1 in
    let f : length l ∷ l ≡ length m ∷ m = sym x.1 ∙ ap (λ (k : ℕ). take (suc k) (drop p s)) e ∙ y.1 in
    let g : l ≡ m = cc in
    let r : a ≡ b =
    one_reading s (p + 1 + length l) run a b o x.2 (subst (λ (k : ℕ). Reads s (p + 1 + k) run b) (sym e) y.2) in
    cc
one_reading s p run (label l ∷ a) (pointer t ∷ b) o x y =
    absurd (omega (arith, first_label s p l x.1, x.0.short, first_pointer s p run t o y.0))
one_reading s p run (pointer t ∷ a) [] o x y = absurd (omega (arith, first_root s p y, first_pointer s p run t o x.0))
one_reading s p run (pointer t ∷ a) (label l ∷ b) o x y =
    absurd (omega (arith, first_label s p l y.1, y.0.short, first_pointer s p run t o x.0))
one_reading s p run (pointer t ∷ a) (pointer u ∷ b) o x y =
    let e : t ≡ u = omega (arith, x.0.word, y.0.word) in
    let r : a ≡ b = one_reading s t t a b o x.1 (subst (λ (k : ℕ). Reads s k k b) (sym e) y.1) in
    cc

-- A record's name at an offset has at most one reading.
pub one_reading_at : (s : List ℕ) (at : ℕ) (q r : RecordName) → Octets s → (a : ReadingAt s at q) (b : ReadingAt s at r)
    → a.steps ≡ b.steps
one_reading_at s at q r o a b = one_reading s at at a.steps b.steps o a.reads b.reads

-- The labels of a reading are a name.
pub reading_is_name : (s : List ℕ) (at : ℕ) (r : RecordName) (f : ReadingAt s at r) → IsName (labels f.steps)
reading_is_name s at r f =
    record { labels = reads_labels s at at f.steps f.reads; short = omega (arith, f.short, f.len_is) }

-- the octets that a label adds: its own with their length
label_part : (s : List ℕ) (w : Walk) (l : List ℕ) (c : ℕ) → Stand s w.at (length l ∷ l) → c ≡ length l → w.at + 1 + c ≤ length s
    → part_of s w.at (w.at + (w.len + 1 + c - w.len)) ≡ length l ∷ l
label_part s w l c st is h =
    let a : w.at ≤ w.at + (w.len + 1 + c - w.len) = omega arith in
    let b : w.at + (w.len + 1 + c - w.len) ≤ length s = omega arith in
    let z : w.at + (w.len + 1 + c - w.len) - w.at ≡ suc (length l) = omega arith in
    part_in s w.at (w.at + (w.len + 1 + c - w.len)) a b ∙ ap (λ (n : ℕ). take n (drop w.at s)) z ∙ st

expand_complete : (k : ℕ) (s : List ℕ) (w : Walk) (r : List Step) → Octets s → Readable k s w r
    → expanded_from k s w ≡ encode (labels r)
unfolding expanded_from
expand_complete zero s w r o a = absurd (omega (arith, a.fuel))
expand_complete (suc k) s w [] o a =
    rw (turn_root s w (reads_inside s w.at w.run [] a.reads) (first_root s w.at a.reads))
expand_complete (suc k) s w (label l ∷ r) o a =
    let f = label_first k s w l r a in
    let c : ℕ = octet_at s w.at in
    let e : c ≡ length l = f.is in
    let h : w.at + 1 + c < length s = reads_inside s (w.at + 1 + c) w.run r f.rest.reads in
    let x : expanded_from k s (past_label w c) ≡ encode (labels r) = expand_complete k s (past_label w c) r o f.rest in
    rw (f.turn, label_part s w l c a.reads.1 e (omega arith), x)
expand_complete (suc k) s w (pointer to ∷ r) o a =
    let f = pointer_first k s w to r o a in
    let h : w.at < length s = reads_inside s w.at w.run (pointer to ∷ r) a.reads in
    rw (f.turn, no_part s w h) (expand_complete k s (followed w (target s w.at)) r o f.rest)

-- A record's name is expanded to the octets of its labels, joined.
pub expands : (s : List ℕ) (at : ℕ) (r : RecordName) → Octets s → (f : ReadingAt s at r) → expanded_at s at ≡ encode (labels f.steps)
expands s at r o f =
    expands_good s at r ((reads_a_reading s at r o).1 f)
    ∙ expand_complete turns s (walk_at at) f.steps o (readable s at r f)
