-- What the tests of addresses say, plainly.
use Rattle.std.proofs.Common.{ℕ, suc, zero, ◌<◌, ◌≤◌, ◌≡◌, refl, sym, ◌∙◌, subst, List, [], ◌∷◌, true, false, ◌↔◌, ◌⊎◌, inl, inr, ⊎_elim, arith, length, get_or, take, take_all, ltb, eqb, eq-eqb, ne_eqb, ltb-true, ltb-false, eqb-true}
use Rattle.std.proofs.lemmas.Bool.{eqb-false}
use mathlib.Core.Logic.Iff
use Rattle.octets.proofs.Comparisons.{one_length}
use Rattle.octets.proofs.Octets.{joined}
use Rattle.octets.proofs.Tests.{split, both, either, either_way, never, same_number, below_number}
use Rattle.octets.specs.Bounds.{ipv4, used_by6, interfaces}
use Rattle.octets.specs.declared.Address.{Address}
use Rattle.octets.specs.declared.Setting.{Setting}
use Rattle.octets.specs.Addresses.{Below, is_family, used_octets, same_octets, below_octets, same_address, below_address, group_of, is_group, group_endpoint, has_address, unused, ours_among, is_ours}

-- ---- the same

-- the same octets are equal lists
pub same_octets_lem : (x y : List ℕ) → (same_octets x y ≡ true) ↔ (x ≡ y)
unfolding same_octets
same_octets_lem [] [] = (λ e. refl, λ e. refl)
same_octets_lem [] (d ∷ y) = (λ e. cc, λ e. cc)
same_octets_lem (c ∷ x) [] = (λ e. cc, λ e. cc)
same_octets_lem (c ∷ x) (d ∷ y) = Iff.trans (both _ _) (Iff.trans (Iff.and (same_number c d) (same_octets_lem x y)) joined)

-- two addresses are the same if their families are, and the octets that the family uses
pub same_address_lem : (a b : Address) → (same_address a b ≡ true) ↔ ((a.family ≡ b.family) × (used_octets a ≡ used_octets b))
unfolding same_address
same_address_lem a b = Iff.trans (both _ _) (Iff.and (same_number _ _) (same_octets_lem _ _))

-- ---- below

-- the first octets decide, or are equal and leave it to the rest
pub below_first : (c d : ℕ) (x y : List ℕ) → (below_octets (c ∷ x) (d ∷ y) ≡ true) ↔ ((c < d) ⊎ ((c ≡ d) × (below_octets x y ≡ true)))
unfolding below_octets
below_first c d x y =
    Iff.trans (either _ _) (either_way (below_number c d) (Iff.trans (both _ _) (Iff.and (same_number c d) Iff.rfl)))

below_there : (x y : List ℕ) → below_octets x y ≡ true → Below x y
unfolding below_octets
below_there [] y e = never e refl
below_there (c ∷ x) [] e = never e refl
below_there (c ∷ x) (d ∷ y) e =
    ⊎_elim
    (λ h. record { at = 0; inside_x = omega arith; inside_y = omega arith; before = refl; less = h })
    (λ t.
    let r = below_there x y t.1 in
    let p = t.0 in
    let q = r.before in
    record { at = suc r.at; inside_x = omega (arith, r.inside_x); inside_y = omega (arith, r.inside_y); before = cc; less = r.less })
    ((below_first c d x y).0 e)

below_at : (at : ℕ) (x y : List ℕ) → at < length x → at < length y → take at x ≡ take at y → get_or x at 0 < get_or y at 0 → below_octets x y ≡ true
below_at at [] y h k e l = absurd (omega arith)
below_at at (c ∷ x) [] h k e l = absurd (omega arith)
below_at zero (c ∷ x) (d ∷ y) h k e l = (below_first c d x y).1 (inl l)
below_at (suc at) (c ∷ x) (d ∷ y) h k e l =
    let p : c ≡ d = cc in
    let q : take at x ≡ take at y = cc in
    (below_first c d x y).1 (inr (p, below_at at x y (omega arith) (omega arith) q l))

-- at the first octet in which they differ the one is less
pub below_octets_lem : (x y : List ℕ) → (below_octets x y ≡ true) ↔ Below x y
below_octets_lem x y = (below_there x y, λ r. below_at r.at x y r.inside_x r.inside_y r.before r.less)

-- an address is below another of its family by the octets that the family uses; of two families neither is below the other
pub below_address_lem : (a b : Address) → (below_address a b ≡ true) ↔ ((a.family ≡ b.family) × Below (used_octets a) (used_octets b))
unfolding below_address
below_address_lem a b = Iff.trans (both _ _) (Iff.and (same_number _ _) (below_octets_lem _ _))

-- below is an order: no list is below itself
pub below_irreflexive : (x : List ℕ) → below_octets x x ≡ true → ⊥
unfolding below_octets
below_irreflexive [] e = never e refl
below_irreflexive (c ∷ x) e = ⊎_elim (λ h. omega arith) (λ t. below_irreflexive x t.1) ((below_first c c x x).0 e)

-- what is below a list that is below another is below that too
pub below_transitive : (x y z : List ℕ) → below_octets x y ≡ true → below_octets y z ≡ true → below_octets x z ≡ true
unfolding below_octets
below_transitive [] y z e f = never e refl
below_transitive (c ∷ x) [] z e f = never e refl
below_transitive (c ∷ x) (d ∷ y) [] e f = never f refl
below_transitive (c ∷ x) (d ∷ y) (g ∷ z) e f =
    (below_first c g x z).1
    (⊎_elim
    (λ h. ⊎_elim (λ k. inl (omega arith)) (λ k. inl (omega (arith, k.0))) ((below_first d g y z).0 f))
    (λ h. ⊎_elim
    (λ k. inl (omega (arith, h.0)))
    (λ k. inr (h.0 ∙ k.0, below_transitive x y z h.1 k.1))
    ((below_first d g y z).0 f))
    ((below_first c d x y).0 e))

-- so of two lists not each is below the other
pub below_one_way : (x y : List ℕ) → below_octets x y ≡ true → below_octets y x ≡ true → ⊥
below_one_way x y e f = below_irreflexive x (below_transitive x y x e f)

-- two lists of one length are equal, or one is below the other
pub below_total : (x y : List ℕ) → length x ≡ length y → (x ≡ y) ⊎ (below_octets x y ≡ true) ⊎ (below_octets y x ≡ true)
below_total [] [] l = inl refl
below_total [] (d ∷ y) l = absurd (omega arith)
below_total (c ∷ x) [] l = absurd (omega arith)
below_total (c ∷ x) (d ∷ y) l =
    split
    (ltb c d)
    (λ t. inr (inl ((below_first c d x y).1 (inl (ltb-true c d t)))))
    (λ t. split
    (ltb d c)
    (λ u. inr (inr ((below_first d c y x).1 (inl (ltb-true d c u)))))
    (λ u.
    let v = ltb-false c d t in
    let w = ltb-false d c u in
    let p : c ≡ d = omega arith in
    let m : length x ≡ length y = omega arith in
    ⊎_elim
    (λ q. inl cc)
    (⊎_elim (λ q. inr (inl ((below_first c d x y).1 (inr (p, q))))) (λ q. inr (inr ((below_first d c y x).1 (inr (sym p, q))))))
    (below_total x y m)))

-- Of two addresses of one family, with as many octets, one is the same as the other, below it or above it, and only one of the three.
module _ (a b : Address) (e : a.family ≡ b.family) (l : length a.octets ≡ length b.octets) where
  pub addresses_ordered : (same_address a b ≡ true) ⊎ (below_address a b ≡ true) ⊎ (below_address b a ≡ true)
  unfolding below_address
  addresses_ordered =
      let k : length (used_octets a) ≡ length (used_octets b) = one_length a b e l in
      ⊎_elim
      (λ q. inl ((same_address_lem a b).1 (e, q)))
      (⊎_elim (λ q. inr (inl (rw (eq-eqb _ _ e) q))) (λ q. inr (inr (rw (eq-eqb _ _ (sym e)) q))))
      (below_total (used_octets a) (used_octets b) k)

below_used : (a b : Address) → below_address a b ≡ true → below_octets (used_octets a) (used_octets b) ≡ true
unfolding below_address
below_used a b p = ((both (eqb a.family b.family) _).0 p).1

pub below_not_same : (a b : Address) → below_address a b ≡ true → same_address a b ≡ true → ⊥
below_not_same a b p q =
    below_irreflexive (used_octets b)
    (subst (λ (x : List ℕ). below_octets x (used_octets b) ≡ true) ((same_address_lem a b).0 q).1 (below_used a b p))

pub below_not_above : (a b : Address) → below_address a b ≡ true → below_address b a ≡ true → ⊥
below_not_above a b p q = below_one_way (used_octets a) (used_octets b) (below_used a b p) (below_used b a q)

-- ---- the group addresses

-- for a family that is 4 or 6
group_used : (a : Address) → is_family a.family ≡ true → (is_group a ≡ true) ↔ (used_octets a ≡ used_octets (group_of a.family))
unfolding is_group group_of
group_used a t = (
  λ e. ((same_address_lem a (group_of a.family)).0 (rw t at e)).1,
  λ e. rw t ((same_address_lem a (group_of a.family)).1 (refl, e)),
)

-- 224.0.0.252
pub group_4 : (a : Address) → a.family ≡ 4 → (is_group a ≡ true) ↔ (take 4 a.octets ≡ 224 ∷ 0 ∷ 0 ∷ 252 ∷ [])
unfolding group_of
group_4 a e = let p : eqb a.family ipv4 ≡ true = eq-eqb _ _ e in rw p at (group_used a (rw p))

-- FF02::1:3
pub group_6 : (a : Address) → a.family ≡ 6 → length a.octets ≡ 16
    → (is_group a ≡ true) ↔ (a.octets ≡ 0xFF ∷ 0x02 ∷ 0 ∷ 0 ∷ 0 ∷ 0 ∷ 0 ∷ 0 ∷ 0 ∷ 0 ∷ 0 ∷ 0 ∷ 0 ∷ 0x01 ∷ 0 ∷ 0x03 ∷ [])
unfolding group_of
group_6 a e l =
    let n : a.family ≡ ipv4 → ⊥ = λ f. omega arith in
    let p : eqb a.family ipv4 ≡ false = ne_eqb _ _ n in
    let h : length a.octets ≤ used_by6 = omega arith in
    rw (p, take_all used_by6 a.octets h) at (group_used a (rw p (eq-eqb _ _ e)))

-- an address of no family is no group address
pub group_other : (a : Address) → (a.family ≡ 4 → ⊥) → (a.family ≡ 6 → ⊥) → is_group a ≡ false
unfolding is_group
group_other a h k = rw (ne_eqb _ _ h, ne_eqb _ _ k)

-- a query goes to the group address of its family, to port 5355
pub endpoint_group : (family : ℕ) → is_family family ≡ true → is_group (group_endpoint family).address ≡ true
unfolding group_endpoint group_of
endpoint_group family t = (group_used (group_of family) t).1 refl

pub endpoint_port : (family : ℕ) → (group_endpoint family).port ≡ 5355
unfolding group_endpoint
endpoint_port family = refl

-- ---- our addresses

not_last : (i n : ℕ) → i < suc n → eqb i n ≡ false → i < n
not_last i n h q = let d = eqb-false i n q in omega arith

among : (n : ℕ) (settings : List Setting) (a : Address)
    → (ours_among n settings a ≡ true) ↔ ((i : ℕ) × (i < n) × (has_address (get_or settings i unused) a ≡ true))
unfolding ours_among
among zero settings a = (λ e. never e refl, λ t. absurd (omega (arith, t.1)))
among (suc n) settings a = (
  λ e. ⊎_elim (λ t. (n, omega arith, t)) (λ t. let r = (among n settings a).0 t in (r.0, omega (arith, r.1), r.2)) ((either _ _).0 e),
  λ t. (either _ _).1
      (split
      (eqb t.0 n)
      (λ q. inl (subst (λ (i : ℕ). has_address (get_or settings i unused) a ≡ true) (eqb-true _ _ q) t.2))
      (λ q. inr ((among n settings a).1 (t.0, not_last t.0 n t.1 q, t.2)))),
)

-- an unused interface has no address
pub has_address_other : (i : Setting) (a : Address) → (i.family ≡ 4 → ⊥) → (i.family ≡ 6 → ⊥) → has_address i a ≡ false
unfolding has_address
has_address_other i a h k = rw (ne_eqb _ _ h, ne_eqb _ _ k)

-- an address is ours if one of the interfaces has it
pub ours : (settings : List Setting) (a : Address)
    → (is_ours settings a ≡ true) ↔ ((i : ℕ) × (i < interfaces) × (has_address (get_or settings i unused) a ≡ true))
ours settings a = among interfaces settings a
