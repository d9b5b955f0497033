-- Laws of the walk over a name without pointers: a turn for each thing that can stand at an offset, and its fuel.
use Rattle.std.proofs.Common.{None, Option, Some, ℕ, suc, zero, ◌+◌, ◌-◌, ◌<◌, ◌≤◌, ◌≡◌, refl, sym, ap, ◌∙◌, List, arith, ltb, leb, eqb, length, eq-eqb, ne_eqb, lt-ltb, le-ltb, le-leb, eqb-true, ltb-true, ltb-false, leb-true, leb-false}
use Rattle.std.proofs.lemmas.Bool.{lt-leb, eqb-false}
use Rattle.octets.specs.Octets.{octet_at}
use Rattle.octets.proofs.Tests.{split}
use Rattle.names.specs.Bounds.{longest_label, longest_name}
use Rattle.names.specs.declared.Name.{Name}
use Rattle.names.specs.NameWalk.{more_labels, name_turn, name_from, name_at}

-- labels more, and more again
pub more_none : (x : Option Name) → more_labels 0 x ≡ x
more_none (Some r) =
    let z : 0 + r.labels ≡ r.labels = omega arith in
    ap (λ (k : ℕ). Some (record { len = r.len; labels = k })) z
more_none None = refl

more_again : (l m : ℕ) (x : Option Name) → more_labels l (more_labels m x) ≡ more_labels (l + m) x
more_again l m (Some r) =
    let z : l + (m + r.labels) ≡ l + m + r.labels = omega arith in
    ap (λ (k : ℕ). Some (record { len = r.len; labels = k })) z
more_again l m None = refl

-- a name that is read with m labels more is read without them
pub record Without (m : ℕ) (x : Option Name) (r : Name) : Type 0 where
  pub fewer : Name
  pub is : x ≡ Some fewer
  pub len_is : r.len ≡ fewer.len
  pub labels_are : r.labels ≡ m + fewer.labels

pub without : (m : ℕ) (x : Option Name) (r : Name) → more_labels m x ≡ Some r → Without m x r
without m (Some q) r e =
    let f : ◌≡◌ {A = Name} (record { len = q.len; labels = m + q.labels }) r = cc in
    record { fewer = q; is = refl; len_is = sym (ap (λ (n : Name). n.len) f); labels_are = sym (ap (λ (n : Name). n.labels) f) }
without m None r e = absurd (let z : ◌≡◌ {A = ℕ} 0 1 = cc in omega arith)

-- what stands at p, after n octets of the name
pub data Place (s : List ℕ) (p n : ℕ) : Type 0 where
  over : length s ≤ p → Place s p n
  root : p < length s → octet_at s p ≡ 0 → Place s p n
  label : p < length s → 1 ≤ octet_at s p → octet_at s p ≤ longest_label → n + 1 + octet_at s p < longest_name → Place s p n
  none : p < length s → longest_label < octet_at s p → Place s p n
  long : p < length s → 1 ≤ octet_at s p → octet_at s p ≤ longest_label → longest_name ≤ n + 1 + octet_at s p → Place s p n

pub place : (s : List ℕ) (p n : ℕ) → Place s p n
place s p n =
    split (leb (length s) p) (λ e. over (leb-true _ _ e)) λ e.
    split (eqb (octet_at s p) 0) (λ f. root (leb-false _ _ e) (eqb-true _ _ f)) λ f.
    let g : octet_at s p ≡ 0 → ⊥ = eqb-false _ _ f in
    split (ltb longest_label (octet_at s p)) (λ h. none (leb-false _ _ e) (ltb-true _ _ h)) λ h.
    split
    (leb longest_name (n + 1 + octet_at s p))
    (λ i. long (leb-false _ _ e) (omega arith) (ltb-false _ _ h) (leb-true _ _ i))
    (λ i. label (leb-false _ _ e) (omega arith) (ltb-false _ _ h) (leb-false _ _ i))

-- the turn at each
module _ (k : ℕ) (s : List ℕ) (p n : ℕ) where
  pub at_over : length s ≤ p → name_from (suc k) s p n ≡ None
  unfolding name_from
  at_over h = rw (le-leb _ _ h)

  pub at_root_lem : p < length s → octet_at s p ≡ 0 → name_from (suc k) s p n ≡ Some (record { len = n + 1; labels = 0 })
  unfolding name_from
  at_root_lem h g = rw (lt-leb _ _ h, eq-eqb _ _ g)

  pub at_none : p < length s → longest_label < octet_at s p → name_from (suc k) s p n ≡ None
  unfolding name_from
  at_none h g =
      let z : octet_at s p ≡ 0 → ⊥ = omega arith in
      rw (lt-leb _ _ h, ne_eqb _ _ z, lt-ltb _ _ g)

  pub at_long : p < length s → 1 ≤ octet_at s p → octet_at s p ≤ longest_label → longest_name ≤ n + 1 + octet_at s p
      → name_from (suc k) s p n ≡ None
  unfolding name_from
  at_long h g i j =
      let z : octet_at s p ≡ 0 → ⊥ = omega arith in
      rw (lt-leb _ _ h, ne_eqb _ _ z, le-ltb _ _ i, le-leb _ _ j)

  pub at_label : p < length s → 1 ≤ octet_at s p → octet_at s p ≤ longest_label → n + 1 + octet_at s p < longest_name
      → name_from (suc k) s p n ≡ more_labels 1 (name_from k s (p + 1 + octet_at s p) (n + 1 + octet_at s p))
  unfolding name_from
  at_label h g i j =
      let z : octet_at s p ≡ 0 → ⊥ = omega arith in
      rw (lt-leb _ _ h, ne_eqb _ _ z, le-ltb _ _ i, lt-leb _ _ j)

-- Fuel for what is left of 255 octets, two for each label, is enough: any more gives the same.
pub name_fuel : (j k : ℕ) (s : List ℕ) (p n : ℕ) → n < longest_name → longest_name ≤ n + j + j → longest_name ≤ n + k + k
    → name_from j s p n ≡ name_from k s p n
name_fuel zero k s p n h a b = absurd (omega arith)
name_fuel (suc j) zero s p n h a b = absurd (omega arith)
name_fuel (suc j) (suc k) s p n h a b =
    go (place s p n) (name_fuel j k s (p + 1 + octet_at s p) (n + 1 + octet_at s p))
  where
    go : Place s p n
        → (n + 1 + octet_at s p < longest_name
        → longest_name ≤ n + 1 + octet_at s p + j + j
        → longest_name ≤ n + 1 + octet_at s p + k + k
        → name_from j s (p + 1 + octet_at s p) (n + 1 + octet_at s p) ≡ name_from k s (p + 1 + octet_at s p) (n + 1 + octet_at s p))
        → name_from (suc j) s p n ≡ name_from (suc k) s p n
    go (over e) r = at_over j s p n e ∙ sym (at_over k s p n e)
    go (root e f) r = at_root_lem j s p n e f ∙ sym (at_root_lem k s p n e f)
    go (none e f) r = at_none j s p n e f ∙ sym (at_none k s p n e f)
    go (long e f g i) r = at_long j s p n e f g i ∙ sym (at_long k s p n e f g i)
    go (label e f g i) r =
        at_label j s p n e f g i ∙ ap (more_labels 1) (r i (omega arith) (omega arith)) ∙ sym (at_label k s p n e f g i)

-- the walk after n octets, with just enough fuel
abbrev pub name_here : List ℕ → ℕ → ℕ → Option Name
name_here s p n = name_from (longest_name - n) s p n

-- its turn
pub name_turn_lem : (s : List ℕ) (p n : ℕ) → n < longest_name
    → name_here s p n ≡ name_turn s p n (name_from (longest_name - n - 1) s)
unfolding name_from
name_turn_lem s p n h = go (longest_name - n - 1) (omega arith)
  where
    go : (m : ℕ) → longest_name - n ≡ suc m → name_from (longest_name - n) s p n ≡ name_turn s p n (name_from m s)
    go m e = rw e

-- The end of s stops a walk that has read l labels,
pub name_over : (x : Option Name) (s : List ℕ) (p n l : ℕ) → n < longest_name → x ≡ more_labels l (name_here s p n) → length s ≤ p → None ≡ x
name_over x s p n l h e f = sym (e ∙ ap (more_labels l) (name_turn_lem s p n h) ∙ rw (le-leb _ _ f))

module _ (x : Option Name) (s : List ℕ) (p n l : ℕ) (h : n < longest_name) (e : x ≡ more_labels l (name_here s p n)) (f : p < length s) where
  -- the root ends it and is no label,
  pub name_ends : octet_at s p ≡ 0 → Some (record { len = n + 1; labels = l }) ≡ x
  name_ends z =
      let k : l + 0 ≡ l = omega arith in
      sym (e ∙ ap (more_labels l) (name_turn_lem s p n h) ∙ rw (lt-leb _ _ f, eq-eqb _ _ z, k))

  -- an octet that begins no label stops it, as does a label for which there is no room,
  pub name_no_label : longest_label < octet_at s p → None ≡ x
  name_no_label g =
      let z : octet_at s p ≡ 0 → ⊥ = omega arith in
      sym (e ∙ ap (more_labels l) (name_turn_lem s p n h) ∙ rw (lt-leb _ _ f, ne_eqb _ _ z, lt-ltb _ _ g))

  pub name_no_room : 1 ≤ octet_at s p → octet_at s p ≤ longest_label → longest_name ≤ n + 1 + octet_at s p → None ≡ x
  name_no_room g i j =
      let z : octet_at s p ≡ 0 → ⊥ = omega arith in
      sym (e ∙ ap (more_labels l) (name_turn_lem s p n h) ∙ rw (lt-leb _ _ f, ne_eqb _ _ z, le-ltb _ _ i, le-leb _ _ j))

  -- and a label is one more.
  pub name_counts : (q m : ℕ) → 1 ≤ octet_at s p → octet_at s p ≤ longest_label → n + 1 + octet_at s p < longest_name
      → q ≡ p + 1 + octet_at s p → m ≡ n + 1 + octet_at s p → x ≡ more_labels (l + 1) (name_here s q m)
  name_counts q m g i j u v =
      let z : octet_at s p ≡ 0 → ⊥ = omega arith in
      let t : name_here s p n ≡ more_labels 1 (name_here s (p + 1 + octet_at s p) (n + 1 + octet_at s p)) =
      name_turn_lem s p n h
      ∙ rw (lt-leb _ _ f, ne_eqb _ _ z, le-ltb _ _ i, lt-leb _ _ j)
      (ap (more_labels 1) (name_fuel (longest_name - n - 1) (longest_name - (n + 1 + octet_at s p)) s (p + 1 + octet_at s p) (n + 1 + octet_at s p) j (omega arith) (omega arith))) in
      rw (u, v) (e ∙ ap (more_labels l) t ∙ more_again l 1 _)

pub ruleset name_turns = (name_over, name_ends, name_no_label, name_no_room, name_counts)

-- What a name that is read says of the walk after n octets: at most 255 octets in all, which stand in s; two or more for each label, and one.
record Fits (s : List ℕ) (p n : ℕ) (r : Name) : Type 0 where
  short : r.len ≤ longest_name
  inside : p + r.len ≤ length s + n
  counted : n + (r.labels + r.labels + 1) ≤ r.len

from_fits : (k : ℕ) (s : List ℕ) (p n : ℕ) (r : Name) → n < longest_name → name_from k s p n ≡ Some r → Fits s p n r
unfolding name_from
from_fits zero s p n r h e = absurd (let z : ◌≡◌ {A = ℕ} 0 1 = cc in omega arith)
from_fits (suc k) s p n r h e = go (place s p n) (from_fits k s (p + 1 + octet_at s p) (n + 1 + octet_at s p))
  where
    go : Place s p n
        → ((q : Name)
        → n + 1 + octet_at s p < longest_name
        → name_from k s (p + 1 + octet_at s p) (n + 1 + octet_at s p) ≡ Some q
        → Fits s (p + 1 + octet_at s p) (n + 1 + octet_at s p) q)
        → Fits s p n r
    go (over f) i = absurd (let z : ◌≡◌ {A = ℕ} 0 1 = cc (at_over k s p n f) in omega arith)
    go (none f g) i = absurd (let z : ◌≡◌ {A = ℕ} 0 1 = cc (at_none k s p n f g) in omega arith)
    go (long f g u v) i = absurd (let z : ◌≡◌ {A = ℕ} 0 1 = cc (at_long k s p n f g u v) in omega arith)
    go (root f g) i =
        let q : ◌≡◌ {A = Name} (record { len = n + 1; labels = 0 }) r = cc (at_root_lem k s p n f g) in
        let l : n + 1 ≡ r.len = ap (λ (x : Name). x.len) q in
        let m : 0 ≡ r.labels = ap (λ (x : Name). x.labels) q in
        record { short = omega arith; inside = omega arith; counted = omega arith }
    go (label f g u v) i =
        let w = without 1 _ r (sym (at_label k s p n f g u v) ∙ e) in
        let j = i w.fewer v w.is in
        record {
          short = omega (arith, j.short, w.len_is);
          inside = omega (arith, j.inside, w.len_is);
          counted = omega (arith, j.counted, w.len_is, w.labels_are);
        }

-- a name that is read has at most 255 octets, and they stand in s
pub name_fits : (s : List ℕ) (at : ℕ) (r : Name) → name_at s at ≡ Some r → (r.len ≤ longest_name) × (at + r.len ≤ length s)
name_fits s at r e =
    let f = from_fits longest_name s at 0 r (omega arith) e in
    (f.short, omega (arith, f.inside))

-- two of them or more for each label, and one
pub name_counted : (s : List ℕ) (at : ℕ) (r : Name) → name_at s at ≡ Some r → r.labels + r.labels + 1 ≤ r.len
name_counted s at r e = omega (arith, (from_fits longest_name s at 0 r (omega arith) e).counted)
