-- Laws of lists of octets and of their parts.
use Rattle.std.proofs.Common.{ℕ, suc, zero, ◌+◌, ◌-◌, ◌<◌, ◌≤◌, ◌≡◌, sym, ap, ◌∙◌, List, [], ◌∷◌, ◌++◌, Bool, true, false, ◌↔◌, arith, ltb, length, get_or, take, drop, length-drop, drop_of_length-le, length-take-le, take_all, lt-ltb, le-ltb, ltb-true, ltb-false}
use Rattle.octets.proofs.Tests.{split}
use Rattle.octets.specs.Octets.{Octets, runs_past, part_of}

-- what an answer of runs_past says
module _ (size at n : ℕ) (r : Bool) (e : r ≡ runs_past size at n) where
  pub past : r ≡ true → size < at + n
  past t = let u : runs_past size at n ≡ true = sym e ∙ t in omega (arith, ltb-true)

  pub not_past : r ≡ false → at + n ≤ size
  not_past t = let u : runs_past size at n ≡ false = sym e ∙ t in omega (arith, ltb-false)

-- two lists with a first are equal where the firsts and the rests are
pub joined : {c d : ℕ} {x y : List ℕ} → ((c ≡ d) × (x ≡ y)) ↔ (c ∷ x ≡ d ∷ y)
joined = (λ t. let p = t.0 in let q = t.1 in cc, λ e. (cc, cc))

-- octets dropped, taken, joined
pub octets_drop : (n : ℕ) (s : List ℕ) → Octets s → Octets (drop n s)
octets_drop zero s o = o
octets_drop (suc n) [] o = tt
octets_drop (suc n) (c ∷ s) o = octets_drop n s o.1

pub octets_take : (n : ℕ) (s : List ℕ) → Octets s → Octets (take n s)
octets_take zero s o = tt
octets_take (suc n) [] o = tt
octets_take (suc n) (c ∷ s) o = (o.0, octets_take n s o.1)

pub octets_append : (s t : List ℕ) → Octets s → Octets t → Octets (s ++ t)
octets_append [] t o q = q
octets_append (c ∷ s) t o q = (o.0, octets_append s t o.1 q)

-- the octet at an offset, past the end too
pub octet_at_lem : (s : List ℕ) (i : ℕ) → Octets s → get_or s i 0 < 256
octet_at_lem [] zero o = omega arith
octet_at_lem [] (suc i) o = omega arith
octet_at_lem (c ∷ s) zero o = o.0
octet_at_lem (c ∷ s) (suc i) o = octet_at_lem s i o.1

-- from what is known of a slice: whatever stands at an offset is an octet
pub octets_all : (s : List ℕ) → ((i : ℕ) → get_or s i 0 < 256) → Octets s
octets_all [] h = tt
octets_all (c ∷ s) h = (h 0, octets_all s (λ i. h (suc i)))

-- a part whose bounds are in order and inside
module _ (s : List ℕ) (a e : ℕ) where
  pub part_in : a ≤ e → e ≤ length s → part_of s a e ≡ take (e - a) (drop a s)
  unfolding part_of
  part_in h k = rw (le-ltb _ _ h, le-ltb _ _ k)

  pub length_part : a ≤ e → e ≤ length s → length (part_of s a e) ≡ e - a
  length_part h k =
      let l : e - a ≤ length (drop a s) = rw length-drop (omega arith) in
      ap length (part_in h k) ∙ length-take-le (e - a) (drop a s) l

  -- any other is empty
  pub part_crossed : e < a → part_of s a e ≡ []
  unfolding part_of
  part_crossed h = rw (lt-ltb _ _ h)

  pub part_past : length s < e → part_of s a e ≡ []
  unfolding part_of
  part_past h = split (ltb e a) (λ t. rw t) (λ t. rw (t, lt-ltb _ _ h))

  pub octets_part : Octets s → Octets (part_of s a e)
  unfolding part_of
  octets_part o =
      split
      (ltb e a)
      (λ t. rw t tt)
      (λ t. split (ltb (length s) e) (λ u. rw (t, u) tt) (λ u. rw (t, u) (octets_take (e - a) (drop a s) (octets_drop a s o))))

-- the part from an offset to the end
pub part_rest : (s : List ℕ) (at : ℕ) → part_of s at (length s) ≡ drop at s
part_rest s at =
    split (ltb (length s) at)
    (λ e. let l : length s < at = ltb-true _ _ e in
    let h : length s ≤ at = omega arith in
    part_crossed s at (length s) l ∙ sym (drop_of_length-le s h))
    (λ e. let h : length (drop at s) ≤ length s - at = omega (arith, length-drop at s) in
    part_in s at (length s) (ltb-false _ _ e) (omega arith) ∙ take_all (length s - at) (drop at s) h)
