-- The groups' addresses and our own, in the plain words of specs/PlainAddresses.antt.
use Rattle.std.proofs.Common.{ℕ, ◌≡◌, refl, sym, ◌∙◌, ◌↔◌, ◌⊎◌, inl, inr, ⊎_elim, List, true, arith}
use mathlib.Core.Logic.Iff
use Rattle.octets.specs.Addresses.{group_of, is_group, group_endpoint, address_of, has_address, is_ours}
use Rattle.octets.specs.PlainAddresses.{IsGroup, is_group_4, is_group_6, GroupEndpoint, group_4, group_6, IsOf, is_4, is_6, IsOneOfOurs}
use Rattle.octets.specs.declared.Address.{Address}
use Rattle.octets.specs.declared.Endpoint.{Endpoint}
use Rattle.octets.specs.declared.Setting.{Setting}
use Rattle.octets.proofs.Addresses.{same_address_lem, ours}
use Rattle.octets.proofs.Tests.{both, either_number}

-- ---- a group's

pub group_address : (x : Address) → (is_group x ≡ true) ↔ IsGroup x
unfolding is_group group_of
group_address x = (there, back)
  where
    there : is_group x ≡ true → IsGroup x
    there e =
        let t = (both _ _).0 e in
        let o = ((same_address_lem x (group_of x.family)).0 t.1).1 in
        ⊎_elim (λ f. is_group_4 f (rw f at o)) (λ f. is_group_6 f (rw f at o)) ((either_number _ 4 6).0 t.0)

    back : IsGroup x → is_group x ≡ true
    back (is_group_4 f o) = (both _ _).1 ((either_number _ 4 6).1 (inl f), (same_address_lem x (group_of x.family)).1 (refl, rw f o))
    back (is_group_6 f o) = (both _ _).1 ((either_number _ 4 6).1 (inr f), (same_address_lem x (group_of x.family)).1 (refl, rw f o))

-- where a query goes
pub group_endpoint_lem : (family : ℕ) → (family ≡ 4) ⊎ (family ≡ 6) → GroupEndpoint family (group_endpoint family)
unfolding group_endpoint group_of
group_endpoint_lem family = ⊎_elim (λ e. rw e (group_4 refl)) (λ e. rw e (group_6 refl))

-- and a family has only one
pub group_one : (family : ℕ) (x y : Endpoint) → GroupEndpoint family x → GroupEndpoint family y → x ≡ y
group_one family x y (group_4 e) (group_4 f) = refl
group_one family x y (group_4 e) (group_6 f) = absurd (omega arith)
group_one family x y (group_6 e) (group_4 f) = absurd (omega arith)
group_one family x y (group_6 e) (group_6 f) = refl

-- ---- our own

pub has_is : (s : Setting) (x : Address) → (has_address s x ≡ true) ↔ IsOf s x
unfolding has_address
has_is s x = (there, back)
  where
    there : has_address s x ≡ true → IsOf s x
    there e =
        let t = (both _ _).0 e in
        let u = (same_address_lem x (address_of s)).0 t.1 in
        let o = u.1 in
        ⊎_elim
        (λ f. let g : x.family ≡ 4 = u.0 ∙ f in is_4 f g (rw (g, f) at o))
        (λ f. let g : x.family ≡ 6 = u.0 ∙ f in is_6 f g (rw (g, f) at o))
        ((either_number _ 4 6).0 t.0)

    back : IsOf s x → has_address s x ≡ true
    back (is_4 f g o) = (both _ _).1 ((either_number _ 4 6).1 (inl f), (same_address_lem x (address_of s)).1 (g ∙ sym f, rw (g, f) o))
    back (is_6 f g o) = (both _ _).1 ((either_number _ 4 6).1 (inr f), (same_address_lem x (address_of s)).1 (g ∙ sym f, rw (g, f) o))

pub ours_plain : (settings : List Setting) (x : Address) → (is_ours settings x ≡ true) ↔ IsOneOfOurs settings x
ours_plain settings x = Iff.trans (ours settings x) (
  λ t. record { interface = t.0; below = t.1; same = (has_is _ x).0 t.2 },
  λ w. (w.interface, w.below, (has_is _ x).1 w.same),
)
