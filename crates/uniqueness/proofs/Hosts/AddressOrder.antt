-- Addresses as numbers: the order of octets, the first octet first, is that of the numbers, and equal numbers are equal addresses.
use Rattle.std.proofs.Common.{◌≡◌, refl, sym, ap, ⊎_elim, true, false, List, [], ◌∷◌, ℕ, zero, suc, ◌+◌, ◌*◌, ◌≤◌, ◌<◌, arith, suc-mul, mul-le-mul_right, length, length-take}
use Rattle.octets.specs.Octets.{Octets}
use Rattle.octets.specs.declared.Address.{Address}
use Rattle.octets.specs.Addresses.{used_by, used_octets, below_octets, same_address, below_address}
use Rattle.octets.proofs.Octets.{octets_take}
use Rattle.octets.proofs.Tests.{never}
use Rattle.octets.proofs.Addresses.{same_address_lem, below_first, below_octets_lem, below_address_lem, addresses_ordered}

weight : ℕ → ℕ
weight zero = 1
weight (suc n) = 256 * weight n

-- octets as a number
rank : List ℕ → ℕ
rank [] = 0
rank (c ∷ x) = c * weight (length x) + rank x

more : (x y w : ℕ) → x < y → x * w + w ≤ y * w
more x y w l = let e = suc-mul x w in let m = mul-le-mul_right w l in omega (arith, e, m)

rank_under : (x : List ℕ) → Octets x → rank x < weight (length x)
unfolding rank weight
rank_under [] o = omega arith
rank_under (c ∷ x) (f, o) =
    let h = rank_under x o in
    let m = more c 256 (weight (length x)) f in
    omega (arith, h, m)

below_rank : (x y : List ℕ) → Octets x → Octets y → length x ≡ length y → below_octets x y ≡ true → rank x < rank y
unfolding rank below_octets
below_rank [] y o p l e = never e refl
below_rank (c ∷ x) [] o p l e = absurd (omega arith)
below_rank (c ∷ x) (d ∷ y) (f, o) (g, p) l e =
    let k : length x ≡ length y = omega arith in
    let w : weight (length x) ≡ weight (length y) = ap weight k in
    ⊎_elim
    (λ h.
    let m = more c d (weight (length x)) h in
    let u = rank_under x o in
    let v = ap (λ (z : ℕ). d * z) w in
    omega (arith, m, u, v))
    (λ t.
    let h = below_rank x y o p k t.1 in
    let q = ap (λ (z : ℕ). z * weight (length x)) t.0 in
    let v = ap (λ (z : ℕ). d * z) w in
    omega (arith, h, q, v))
    ((below_first c d x y).0 e)

-- an address, by the octets that its family uses
pub rank_of : Address → ℕ
rank_of a = rank (used_octets a)

used_long : (a b : Address) → a.family ≡ b.family → length a.octets ≡ length b.octets → length (used_octets a) ≡ length (used_octets b)
used_long a b e l = rw (length-take, length-take, l, e)

module _ (a b : Address) (e : a.family ≡ b.family) (l : length a.octets ≡ length b.octets) (oa : Octets a.octets)
    (ob : Octets b.octets) where
  pub below_lt : below_address a b ≡ true → rank_of a < rank_of b
  unfolding rank_of
  below_lt p =
      below_rank (used_octets a) (used_octets b) (octets_take (used_by a.family) a.octets oa) (octets_take (used_by b.family) b.octets ob)
      (used_long a b e l)
      ((below_octets_lem (used_octets a) (used_octets b)).1 ((below_address_lem a b).0 p).1)

  same_rank : same_address a b ≡ true → rank_of a ≡ rank_of b
  unfolding rank_of
  same_rank p = ap rank ((same_address_lem a b).0 p).1

module _ (a b : Address) (e : a.family ≡ b.family) (l : length a.octets ≡ length b.octets) (oa : Octets a.octets)
    (ob : Octets b.octets) where
  pub not_below_le : below_address a b ≡ false → rank_of b ≤ rank_of a
  not_below_le p =
      ⊎_elim
      (λ q. let r = same_rank a b e l oa ob q in omega (arith, r))
      (⊎_elim (λ q. never q p) (λ q. let r = below_lt b a (sym e) (sym l) ob oa q in omega (arith, r)))
      (addresses_ordered a b e l)

  pub same_of_rank : rank_of a ≡ rank_of b → same_address a b ≡ true
  same_of_rank p =
      ⊎_elim
      (λ q. q)
      (⊎_elim
      (λ q. let r = below_lt a b e l oa ob q in absurd (omega (arith, r, p)))
      (λ q. let r = below_lt b a (sym e) (sym l) ob oa q in absurd (omega (arith, r, p))))
      (addresses_ordered a b e l)

-- an address is the same as itself
pub same_refl : (a : Address) → same_address a a ≡ true
same_refl a = (same_address_lem a a).1 (refl, refl)
