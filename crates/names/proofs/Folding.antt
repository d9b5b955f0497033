-- Equality of names: what is folded, and that two names are equal exactly if their folded lists of labels are.
use Rattle.std.proofs.Common.{ℕ, ◌+◌, ◌<◌, ◌≤◌, ◌≡◌, refl, sym, ap, ◌∙◌, List, [], ◌∷◌, ◌++◌, map, Bool, true, false, ◌↔◌, ◌⊎◌, inl, inr, arith, leb, eqb, length, eq-eqb, eqb-true, le-leb, leb-true, leb-false}
use Rattle.std.proofs.lemmas.List.{map-append, length-map}
use Rattle.std.proofs.lemmas.Bool.{lt-leb}
use mathlib.Core.Logic.Iff
use Rattle.std.specs.List.{fold, list_all, zip}
use Rattle.octets.specs.Octets.{Octets}
use Rattle.octets.specs.Tests.{◌and◌}
use Rattle.octets.proofs.Octets.{joined}
use Rattle.octets.proofs.Tests.{split, itself, both, same_number}
use Rattle.names.specs.Names.{Labels, AreLabels, encode, IsName}
use Rattle.names.specs.Folding.{folded, folded_name, same_name, alike, alike_octets}
use Rattle.names.proofs.Names.{same_labels}

-- The letters A to Z.
pub record IsUpper (c : ℕ) : Type 0 where
  pub least : 65 ≤ c
  pub most : c ≤ 90

-- No other octet is changed.
pub folded_low : (c : ℕ) → c < 65 → folded c ≡ c
unfolding folded
folded_low c h = rw (lt-leb 65 c h)

pub folded_after : (c : ℕ) → 90 < c → folded c ≡ c
unfolding folded
folded_after c h =
    let g : 65 ≤ c = omega arith in
    rw (le-leb 65 c g, lt-leb c 90 h)

-- A letter is raised by 32.
pub folded_letter : (c : ℕ) → IsUpper c → folded c ≡ c + 32
unfolding folded
folded_letter c h = rw (le-leb 65 c h.least, le-leb c 90 h.most)

pub data Letter (c : ℕ) : Type 0 where
  upper : IsUpper c → folded c ≡ c + 32 → Letter c
  other : (IsUpper c → ⊥) → folded c ≡ c → Letter c

pub letter : (c : ℕ) → Letter c
letter c =
    split
    (leb 65 c)
    (λ e.
    split
    (leb c 90)
    (λ f. let u : IsUpper c = record { least = leb-true _ _ e; most = leb-true _ _ f } in upper u (folded_letter c u))
    (λ f. let h : 90 < c = leb-false _ _ f in other (λ u. omega (arith, u.most)) (folded_after c h)))
    (λ e. let h : c < 65 = leb-false _ _ e in other (λ u. omega (arith, u.least)) (folded_low c h))

-- Two octets fold alike only if they are the same, or one is a letter and the other that letter raised by 32.
pub folded_apart : (c d : ℕ) → folded c ≡ folded d
    → (c ≡ d) ⊎ (IsUpper c × (d ≡ c + 32)) ⊎ (IsUpper d × (c ≡ d + 32))
folded_apart c d e = go (letter c) (letter d)
  where
    go : Letter c → Letter d → (c ≡ d) ⊎ (IsUpper c × (d ≡ c + 32)) ⊎ (IsUpper d × (c ≡ d + 32))
    go (upper u f) (upper v g) = inl (omega arith)
    go (upper u f) (other v g) = inr (inl (u, omega arith))
    go (other u f) (upper v g) = inr (inr (v, omega arith))
    go (other u f) (other v g) = inl (omega arith)

pub folded_octet : (c : ℕ) → c < 256 → folded c < 256
folded_octet c h = go (letter c)
  where
    go : Letter c → folded c < 256
    go (upper u f) = omega (arith, u.most)
    go (other u f) = omega arith

-- Two lists are the same exactly if they are equal when folded.
pub same_name_is : (a b : List ℕ) → (same_name a b ≡ true) ↔ (map folded a ≡ map folded b)
unfolding same_name
same_name_is [] [] = (λ e. refl, λ e. refl)
same_name_is [] (y ∷ b) = (λ e. cc, λ e. cc)
same_name_is (x ∷ a) [] = (λ e. cc, λ e. cc)
same_name_is (x ∷ a) (y ∷ b) = Iff.trans (both _ _) (Iff.trans (Iff.and (same_number _ _) (same_name_is a b)) joined)

-- Lists of unequal length are never the same.
pub same_lengths : (a b : List ℕ) → same_name a b ≡ true → length a ≡ length b
same_lengths a b e = sym (length-map a folded) ∙ ap length ((same_name_is a b).0 e) ∙ length-map b folded

pub unequal_lengths : (a b : List ℕ) → (length a ≡ length b → ⊥) → same_name a b ≡ false
unequal_lengths a b n = split (same_name a b) (λ e. absurd (n (same_lengths a b e))) (λ e. e)

folded_octets : (l : List ℕ) → Octets l → Octets (map folded l)
folded_octets [] o = tt
folded_octets (c ∷ l) o = (folded_octet c o.0, folded_octets l o.1)

-- A folded name is a name.
pub folded_labels : (n : Labels) → AreLabels n → AreLabels (folded_name n)
folded_labels [] a = tt
folded_labels (l ∷ n) a = (
  record {
    some = rw length-map a.0.some;
    short = rw length-map a.0.short;
    octets = folded_octets l a.0.octets;
  },
  folded_labels n a.1,
)

-- Folding the octets of a name is folding its labels: a label's length is below 65.
pub folded_encode : (n : Labels) → AreLabels n → map folded (encode n) ≡ encode (folded_name n)
folded_encode [] a = ap (λ (c : ℕ). c ∷ []) (folded_low 0 (omega arith))
folded_encode (l ∷ n) a =
    let h : length l < 65 = omega (arith, a.0.short) in
    let e : folded (length l) ≡ length (map folded l) = folded_low (length l) h ∙ sym (length-map l folded) in
    let r : map folded (l ++ encode n) ≡ map folded l ++ encode (folded_name n) =
    map-append folded l (encode n) ∙ ap (λ (t : List ℕ). map folded l ++ t) (folded_encode n a.1) in
    cc

-- Two names are the same exactly if their folded lists of labels are equal.
pub same_names : (n m : Labels) → IsName n → IsName m → (same_name (encode n) (encode m) ≡ true) ↔ (folded_name n ≡ folded_name m)
same_names n m a b = (to, from)
  where
    to : same_name (encode n) (encode m) ≡ true → folded_name n ≡ folded_name m
    to e =
        let f : encode (folded_name n) ≡ encode (folded_name m) =
        sym (folded_encode n a.labels) ∙ (same_name_is (encode n) (encode m)).0 e ∙ folded_encode m b.labels in
        same_labels (folded_name n) (folded_name m) (folded_labels n a.labels) (folded_labels m b.labels) f

    from : folded_name n ≡ folded_name m → same_name (encode n) (encode m) ≡ true
    from e =
        (same_name_is (encode n) (encode m)).1 (folded_encode n a.labels ∙ ap encode e ∙ sym (folded_encode m b.labels))

-- `@` and the back-quote differ by 32 and are told apart, as are 0xC4 and 0xE4, a letter with an accent in some character sets; `our_system` and
-- `a` are not.
pub at_sign : same_name (64 ∷ []) (96 ∷ []) ≡ false
unfolding same_name folded
at_sign = refl

pub accent : same_name (0xC4 ∷ []) (0xE4 ∷ []) ≡ false
unfolding same_name folded
accent = refl

pub letter_a : same_name (65 ∷ []) (97 ∷ []) ≡ true
unfolding same_name folded
letter_a = refl

-- Octets taken side by side, of lists of one length, are compared as the lists are.
pub alike_zip : (same : Bool) (a b : List ℕ) → length a ≡ length b → fold alike same (zip a b) ≡ (same and same_name a b)
unfolding same_name
alike_zip same [] [] e = itself same
alike_zip same [] (y ∷ b) e = absurd (omega arith)
alike_zip same (x ∷ a) [] e = absurd (omega arith)
alike_zip true (x ∷ a) (y ∷ b) e = let n : length a ≡ length b = omega arith in alike_zip (eqb (folded x) (folded y)) a b n
alike_zip false (x ∷ a) (y ∷ b) e = let n : length a ≡ length b = omega arith in alike_zip false a b n

pub alike_all : (a b : List ℕ) → length a ≡ length b → list_all alike_octets (zip a b) ≡ same_name a b
unfolding same_name
alike_all [] [] e = refl
alike_all [] (y ∷ b) e = absurd (omega arith)
alike_all (x ∷ a) [] e = absurd (omega arith)
alike_all (x ∷ a) (y ∷ b) e =
    let n : length a ≡ length b = omega arith in
    split
    (eqb x y)
    (λ f. rw (f, alike_all a b n, eq-eqb _ _ (ap folded (eqb-true x y f))))
    (λ f. split (eqb (folded x) (folded y)) (λ g. rw (f, alike_all a b n, g)) (λ g. rw (f, g)))

pub ruleset beside = (unequal_lengths, alike_zip, alike_all)
