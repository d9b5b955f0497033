-- Masks: which bit is whose; and that each record of a name has the mask of the last kind 6 before it, or 15.
use Rattle.std.proofs.Common.{ℕ, suc, zero, ◌+◌, ◌/◌, ◌%◌, ◌<◌, ◌≤◌, ◌≡◌, refl, sym, ap, subst, List, [], ◌∷◌, ◌++◌, true, false, ◌↔◌, inl, inr, arith, length, get_or, eq-eqb, ne_eqb, eqb-true}
use Rattle.octets.specs.Octets.{octet_at}
use Rattle.octets.proofs.Tests.{never, both_is, same_number, below_number, upto_number}
use Rattle.names.specs.Names.{Labels}
use Rattle.name_table.specs.Masks.{is_mask, is_odd, is_valid, HasBit, Valid}
use Rattle.name_table.specs.Check.{mask_fits}
use Rattle.name_table.specs.Entries.{NameKind, Data, Entry, name, resource, mask, names, records_after, records, Owned, leading, owned, NoMask, NoName, MaskAfter, last, none, IsNumber}

-- ---- masks that a table may hold

pub is_mask_lem : (m : ℕ) → (is_mask m ≡ true) ↔ ((1 ≤ m) × (m ≤ 15))
unfolding is_mask
is_mask_lem m = both_is _ _ (upto_number _ _) (upto_number _ _)

-- An entry of kind 6 is in form exactly if a name stands before it and its body is one octet, from 1 to 15.
pub fits_exactly : (names : ℕ) (body : List ℕ)
    → (mask_fits names body ≡ true) ↔ ((0 < names) × ((length body ≡ 1) × ((1 ≤ octet_at body 0) × (octet_at body 0 ≤ 15))))
unfolding mask_fits
fits_exactly names body = both_is _ _ (below_number _ _) (both_is _ _ (same_number _ _) (is_mask_lem _))

-- ---- bits

bit_1 : (m : ℕ) → (is_odd m ≡ true) ↔ HasBit 1 m
bit_1 m = (
  λ e. let h : m % 2 ≡ 1 = eqb-true _ _ e in record { below = 0; above = m / 2; less = omega arith; sum = omega arith },
  λ b. eq-eqb (m % 2) 1 (omega (arith, b.less, b.sum)),
)

bit_2 : (m : ℕ) → (is_odd (m / 2) ≡ true) ↔ HasBit 2 m
bit_2 m = (
  λ e. let h : m / 2 % 2 ≡ 1 = eqb-true _ _ e in record { below = m % 2; above = m / 4; less = omega arith; sum = omega arith },
  λ b. eq-eqb (m / 2 % 2) 1 (omega (arith, b.less, b.sum)),
)

bit_4 : (m : ℕ) → (is_odd (m / 4) ≡ true) ↔ HasBit 4 m
bit_4 m = (
  λ e. let h : m / 4 % 2 ≡ 1 = eqb-true _ _ e in record { below = m % 4; above = m / 8; less = omega arith; sum = omega arith },
  λ b. eq-eqb (m / 4 % 2) 1 (omega (arith, b.less, b.sum)),
)

bit_8 : (m : ℕ) → (is_odd (m / 8) ≡ true) ↔ HasBit 8 m
bit_8 m = (
  λ e. let h : m / 8 % 2 ≡ 1 = eqb-true _ _ e in record { below = m % 8; above = m / 16; less = omega arith; sum = omega arith },
  λ b. eq-eqb (m / 8 % 2) 1 (omega (arith, b.less, b.sum)),
)

no_bit : (m i : ℕ) → is_valid m (suc (suc (suc (suc i)))) ≡ false
unfolding is_valid
no_bit m i =
    let n : ℕ = suc (suc (suc (suc i))) in
    rw (ne_eqb n 0 (omega arith), ne_eqb n 1 (omega arith), ne_eqb n 2 (omega arith), ne_eqb n 3 (omega arith))

-- A record is valid on an interface exactly if its mask has that interface's bit: 1, 2, 4 or 8.
pub valid_exactly : (m i : ℕ) → (is_valid m i ≡ true) ↔ Valid m i
unfolding is_valid
valid_exactly m zero = (λ e. inl (refl, (bit_1 m).0 e), to)
  where
    to : Valid m 0 → is_odd m ≡ true
    to (inl x) = (bit_1 m).1 x.1
    to (inr (inl x)) = absurd (omega (arith, x.0))
    to (inr (inr (inl x))) = absurd (omega (arith, x.0))
    to (inr (inr (inr x))) = absurd (omega (arith, x.0))
valid_exactly m (suc zero) = (λ e. inr (inl (refl, (bit_2 m).0 e)), to)
  where
    to : Valid m 1 → is_odd (m / 2) ≡ true
    to (inl x) = absurd (omega (arith, x.0))
    to (inr (inl x)) = (bit_2 m).1 x.1
    to (inr (inr (inl x))) = absurd (omega (arith, x.0))
    to (inr (inr (inr x))) = absurd (omega (arith, x.0))
valid_exactly m (suc (suc zero)) = (λ e. inr (inr (inl (refl, (bit_4 m).0 e))), to)
  where
    to : Valid m 2 → is_odd (m / 4) ≡ true
    to (inl x) = absurd (omega (arith, x.0))
    to (inr (inl x)) = absurd (omega (arith, x.0))
    to (inr (inr (inl x))) = (bit_4 m).1 x.1
    to (inr (inr (inr x))) = absurd (omega (arith, x.0))
valid_exactly m (suc (suc (suc zero))) = (λ e. inr (inr (inr (refl, (bit_8 m).0 e))), to)
  where
    to : Valid m 3 → is_odd (m / 8) ≡ true
    to (inl x) = absurd (omega (arith, x.0))
    to (inr (inl x)) = absurd (omega (arith, x.0))
    to (inr (inr (inl x))) = absurd (omega (arith, x.0))
    to (inr (inr (inr x))) = (bit_8 m).1 x.1
valid_exactly m (suc (suc (suc (suc i)))) = (λ e. never e (no_bit m i), to)
  where
    to : Valid m (suc (suc (suc (suc i)))) → is_valid m (suc (suc (suc (suc i)))) ≡ true
    to (inl x) = absurd (omega (arith, x.0))
    to (inr (inl x)) = absurd (omega (arith, x.0))
    to (inr (inr (inl x))) = absurd (omega (arith, x.0))
    to (inr (inr (inr x))) = absurd (omega (arith, x.0))

-- The mask 15 has the bits of all four.
pub everywhere_valid : (i : ℕ) → i < 4 → is_valid 15 i ≡ true
unfolding is_valid
everywhere_valid zero h = refl
everywhere_valid (suc zero) h = refl
everywhere_valid (suc (suc zero)) h = refl
everywhere_valid (suc (suc (suc zero))) h = refl
everywhere_valid (suc (suc (suc (suc i)))) h = absurd (omega arith)

-- ---- the mask of a record

counts : (n : ℕ) (es : List Entry) → NoName es → records_after n es ≡ n + records_after 0 es
counts n [] u = omega arith
counts n (name k l ∷ es) u = absurd u
counts n (resource e ∷ es) u = omega (arith, counts (n + 1) es u, counts 1 es u)
counts n (mask l ∷ es) u = counts n es u

-- a record more before
pub one_more : {os : List Owned} {j i : ℕ} {o : Owned} (c : Owned) → IsNumber os j o → i ≡ 1 + j → IsNumber (c ∷ os) i o
one_more c r e =
    record { earlier = c ∷ r.earlier; later = r.later; are = ap (λ (t : List Owned). c ∷ t) r.are; number = omega (arith, r.number) }

-- after entries without a mask it is what it was
kept : (m : ℕ) (xs ys : List Entry) (d : Data) → NoName xs → NoMask xs
    → IsNumber (leading m (xs ++ (resource d ∷ ys))) (records xs) (record { valid = m; rdata = d })
kept m [] ys d h g = record { earlier = []; later = leading m ys; are = refl; number = refl }
kept m (name k n ∷ xs) ys d h g = absurd h
kept m (resource c ∷ xs) ys d h g = one_more (record { valid = m; rdata = c }) (kept m xs ys d h g) (counts 1 xs h)
kept m (mask l ∷ xs) ys d h g = absurd g

-- after a mask and entries without one it is that mask
replaced : (m l : ℕ) (xs zs ys : List Entry) (d : Data) → NoName (xs ++ (mask l ∷ zs)) → NoMask zs
    → IsNumber (leading m ((xs ++ (mask l ∷ zs)) ++ (resource d ∷ ys))) (records (xs ++ (mask l ∷ zs))) (record { valid = l; rdata = d })
replaced m l [] zs ys d h g = kept l zs ys d h g
replaced m l (name k n ∷ xs) zs ys d h g = absurd h
replaced m l (resource c ∷ xs) zs ys d h g = one_more (record { valid = m; rdata = c }) (replaced m l xs zs ys d h g) (counts 1 (xs ++ (mask l ∷ zs)) h)
replaced m l (mask j ∷ xs) zs ys d h g = replaced j l xs zs ys d h g

first_mask : (between ys : List Entry) (d : Data) (m : ℕ) → NoName between → MaskAfter between m
    → IsNumber (leading 15 (between ++ (resource d ∷ ys))) (records between) (record { valid = m; rdata = d })
first_mask between ys d m h (none g e) =
    subst (λ (l : ℕ). IsNumber (leading 15 (between ++ (resource d ∷ ys))) (records between) (record { valid = l; rdata = d })) (sym e) (kept 15 between ys d h g)
first_mask between ys d m h (last xs zs e g) =
    subst (λ (b : List Entry). IsNumber (leading 15 (b ++ (resource d ∷ ys))) (records b) (record { valid = m; rdata = d })) (sym e)
    (replaced 15 m xs zs ys d (subst NoName e h) g)

-- A record has the mask of the last kind 6 between its name and itself, or 15 if there is none; so no name's mask carries over to the next.
pub mask_is : (before between after : List Entry) (k : NameKind) (n : Labels) (d : Data) (m : ℕ) → NoName between → MaskAfter between m
    → IsNumber (get_or (owned (before ++ (name k n ∷ (between ++ (resource d ∷ after))))) (length (names before)) []) (records between) (record { valid = m; rdata = d })
mask_is [] between after k n d m h g = first_mask between after d m h g
mask_is (name j l ∷ es) between after k n d m h g = mask_is es between after k n d m h g
mask_is (resource c ∷ es) between after k n d m h g = mask_is es between after k n d m h g
mask_is (mask l ∷ es) between after k n d m h g = mask_is es between after k n d m h g

-- Whatever stands between, there is such a mask.
pub mask_found : (between : List Entry) → (m : ℕ) × MaskAfter between m
mask_found [] = (15, none tt refl)
mask_found (e ∷ es) = let r = mask_found es in go e r.0 r.1
  where
    go : (f : Entry) (m : ℕ) → MaskAfter es m → (l : ℕ) × MaskAfter (f ∷ es) l
    go f m (last xs ys q g) = (m, last (f ∷ xs) ys (ap (λ (x : List Entry). f ∷ x) q) g)
    go (name k n) m (none g q) = (15, none g refl)
    go (resource d) m (none g q) = (15, none g refl)
    go (mask l) m (none g q) = (l, last [] es refl g)
