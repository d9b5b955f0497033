-- What `==` and `<` say of octets and of addresses.
use Rattle.std.specs.Ordering.{nat_cmp, on, is_some_and, is_lt}
use Rattle.std.proofs.Common.{nat_eq, Some, ℕ, ◌≡◌, refl, List, [], ◌∷◌, arith, length, length-take}
use lib.Pointwise.{pointwise}
use Rattle.std.specs.Cmp.Lexicographic.{slice_partial_cmp}
use Rattle.std.proofs.lemmas.Bool.Decides.{nat_tests}
use Rattle.octets.specs.declared.Address.{Address}
use Rattle.octets.specs.Addresses.{used_octets, same_octets, below_octets, same_address}

pub same_is : (x y : List ℕ) → pointwise nat_eq x y ≡ same_octets x y
unfolding same_octets
same_is [] [] = refl
same_is [] (d ∷ y) = refl
same_is (c ∷ x) [] = refl
same_is (c ∷ x) (d ∷ y) = let r = same_is x y in grind (arith, nat_tests)

-- of two lists of one length
pub below_is : (x y : List ℕ) → length x ≡ length y → is_some_and is_lt (slice_partial_cmp (λ c d. Some (nat_cmp c d)) x y) ≡ below_octets x y
unfolding below_octets
below_is [] [] l = refl
below_is [] (d ∷ y) l = absurd (omega arith)
below_is (c ∷ x) [] l = absurd (omega arith)
below_is (c ∷ x) (d ∷ y) l = let m : length x ≡ length y = omega arith in let r = below_is x y m in grind (arith, nat_tests)

-- addresses of one family use as many octets
pub one_length : (a b : Address) → a.family ≡ b.family → length a.octets ≡ length b.octets → length (used_octets a) ≡ length (used_octets b)
one_length a b e l = rw (length-take, length-take, l, e)

-- addresses by their family, and the octets that it uses
pub address_is : (a b : Address) → on (λ (x : Address). x.family ∷ used_octets x) (pointwise nat_eq) a b ≡ same_address a b
unfolding same_address
address_is a b = let r = same_is (used_octets a) (used_octets b) in grind (arith, nat_tests)
