-- Laws of one turn over a record's name: what it meets, and the labels that it takes.
use Rattle.std.proofs.Common.{None, Option, Some, ℕ, suc, ◌+◌, ◌<◌, ◌≤◌, ◌≡◌, refl, sym, ap, List, arith, ltb, leb, eqb, length, eq-eqb, ne_eqb, le-ltb, le-leb, eqb-true, ltb-false, leb-true, leb-false}
use Rattle.std.proofs.lemmas.Bool.{lt-leb, eqb-false}
use Rattle.octets.specs.Octets.{octet_at}
use Rattle.octets.proofs.Tests.{split}
use Rattle.names.specs.Bounds.{longest_label, longest_name, most_pointers, least_target, pointer_mark}
use Rattle.names.specs.declared.Walk.{Walk}
use Rattle.names.specs.declared.Turn.TheVariants.{More, End, Wrong}
use Rattle.names.specs.declared.RecordName.{RecordName}
use Rattle.names.specs.RecordNameWalk.{target, at_root, past_label, followed, turn_at, more_labels, labels_taken, record_name_from}

-- what a turn meets
pub data Met (s : List ℕ) (w : Walk) : Type 0 where
  root : w.at < length s → octet_at s w.at ≡ 0 → Met s w
  one : w.at < length s → 1 ≤ octet_at s w.at → octet_at s w.at ≤ longest_label → w.len + 1 + octet_at s w.at < longest_name → Met s w
  jump : w.at + 1 < length s → pointer_mark ≤ octet_at s w.at → least_target ≤ target s w.at → target s w.at < w.run → w.pointers < most_pointers → Met s w
  wrong : turn_at s w ≡ Wrong → Met s w

pub met : (s : List ℕ) (w : Walk) → Met s w
unfolding turn_at
met s w =
    split (leb (length s) w.at) (λ e. wrong (rw e)) λ e.
    let h : w.at < length s = leb-false _ _ e in
    split (eqb (octet_at s w.at) 0) (λ f. root h (eqb-true _ _ f)) λ f.
    let z : octet_at s w.at ≡ 0 → ⊥ = eqb-false _ _ f in
    split
    (leb (octet_at s w.at) longest_label)
    (λ g.
    split
    (leb longest_name (w.len + 1 + octet_at s w.at))
    (λ i. wrong (rw (e, f, g, i)))
    (λ i. one h (omega arith) (leb-true _ _ g) (leb-false _ _ i))) λ g.
    split (ltb (octet_at s w.at) pointer_mark) (λ i. wrong (rw (e, f, g, i))) λ i.
    split (leb (length s) (w.at + 1)) (λ j. wrong (rw (e, f, g, i, j))) λ j.
    split (ltb (target s w.at) least_target) (λ k. wrong (rw (e, f, g, i, j, k))) λ k.
    split (leb w.run (target s w.at)) (λ l. wrong (rw (e, f, g, i, j, k, l))) λ l.
    split (leb most_pointers w.pointers) (λ m. wrong (rw (e, f, g, i, j, k, l, m))) λ m.
    jump (leb-false _ _ j) (ltb-false _ _ i) (ltb-false _ _ k) (leb-false _ _ l) (leb-false _ _ m)

-- the turn at each
module _ (s : List ℕ) (w : Walk) where
  pub turn_root : w.at < length s → octet_at s w.at ≡ 0 → turn_at s w ≡ End (at_root w)
  unfolding turn_at
  turn_root h g = rw (lt-leb _ _ h, eq-eqb _ _ g)

  pub turn_label : w.at < length s → 1 ≤ octet_at s w.at → octet_at s w.at ≤ longest_label
      → w.len + 1 + octet_at s w.at < longest_name → turn_at s w ≡ More (past_label w (octet_at s w.at))
  unfolding turn_at
  turn_label h g i j =
      let z : octet_at s w.at ≡ 0 → ⊥ = omega arith in
      rw (lt-leb _ _ h, ne_eqb _ _ z, le-leb _ _ i, lt-leb _ _ j)

  pub turn_jump : w.at + 1 < length s → pointer_mark ≤ octet_at s w.at → least_target ≤ target s w.at
      → target s w.at < w.run → w.pointers < most_pointers → turn_at s w ≡ More (followed w (target s w.at))
  unfolding turn_at
  turn_jump h g i j k =
      let z : octet_at s w.at ≡ 0 → ⊥ = omega arith in
      let h0 : w.at < length s = omega arith in
      let y : longest_label < octet_at s w.at = omega arith in
      rw (lt-leb _ _ h0, ne_eqb _ _ z, lt-leb _ _ y, le-ltb _ _ g, lt-leb _ _ h, le-ltb _ _ i, lt-leb _ _ j, lt-leb _ _ k)

-- A label turn takes one label, a pointer none.
pub takes_one : (w : Walk) (c : ℕ) → labels_taken w (past_label w c) ≡ 1
takes_one w c = rw (eq-eqb w.pointers w.pointers refl)

pub takes_none : (w : Walk) (to : ℕ) → labels_taken w (followed w to) ≡ 0
takes_none w to =
    let z : w.pointers + 1 ≡ w.pointers → ⊥ = omega arith in
    rw (ne_eqb _ _ z)

-- and the end none
pub root_none : (s : List ℕ) (w : Walk) (r : RecordName) → turn_at s w ≡ End r → r.labels ≡ 0
root_none s w r e = go (met s w)
  where
    go : Met s w → r.labels ≡ 0
    go (wrong q) = absurd (let z : ◌≡◌ {A = ℕ} 0 1 = cc in omega arith)
    go (root h g) = let f : at_root w ≡ r = cc (turn_root s w h g) in sym (ap (λ (x : RecordName). x.labels) f)
    go (one h g i j) = absurd (let z : ◌≡◌ {A = ℕ} 0 1 = cc (turn_label s w h g i j) in omega arith)
    go (jump h g i j m) = absurd (let z : ◌≡◌ {A = ℕ} 0 1 = cc (turn_jump s w h g i j m) in omega arith)

-- labels more, and more again
pub more_none : (x : Option RecordName) → more_labels 0 x ≡ x
more_none (Some r) =
    let z : 0 + r.labels ≡ r.labels = omega arith in
    ap (λ (k : ℕ). Some (record { next = r.next; len = r.len; pointers = r.pointers; labels = k })) z
more_none None = refl

pub more_again : (l m : ℕ) (x : Option RecordName) → more_labels l (more_labels m x) ≡ more_labels (l + m) x
more_again l m (Some r) =
    let z : l + (m + r.labels) ≡ l + m + r.labels = omega arith in
    ap (λ (k : ℕ). Some (record { next = r.next; len = r.len; pointers = r.pointers; labels = k })) z
more_again l m None = refl

-- a name that is read with m labels more is read without them
pub record Without (m : ℕ) (x : Option RecordName) (r : RecordName) : Type 0 where
  pub fewer : RecordName
  pub is : x ≡ Some fewer
  pub next_is : r.next ≡ fewer.next
  pub len_is : r.len ≡ fewer.len
  pub pointers_are : r.pointers ≡ fewer.pointers
  pub labels_are : r.labels ≡ m + fewer.labels

without : (m : ℕ) (x : Option RecordName) (r : RecordName) → more_labels m x ≡ Some r → Without m x r
without m (Some q) r e =
    let f : ◌≡◌ {A = RecordName} (record { next = q.next; len = q.len; pointers = q.pointers; labels = m + q.labels }) r = cc in
    record {
      fewer = q;
      is = refl;
      next_is = sym (ap (λ (n : RecordName). n.next) f);
      len_is = sym (ap (λ (n : RecordName). n.len) f);
      pointers_are = sym (ap (λ (n : RecordName). n.pointers) f);
      labels_are = sym (ap (λ (n : RecordName). n.labels) f);
    }
without m None r e = absurd (let z : ◌≡◌ {A = ℕ} 0 1 = cc in omega arith)

-- so it is with a name that is read, after a turn that goes on
pub after_turn : (k : ℕ) (s : List ℕ) (w v : Walk) (r : RecordName) → record_name_from (suc k) s w ≡ Some r → turn_at s w ≡ More v
    → Without (labels_taken w v) (record_name_from k s v) r
unfolding record_name_from
after_turn k s w v r e t = without (labels_taken w v) (record_name_from k s v) r (rw t at e)
