-- Laws of tests.
use Rattle.std.proofs.Common.{ℕ, ◌<◌, ◌≤◌, arith, ltb, leb, eqb, eqb-true, eq-eqb, ltb-true, lt-ltb, ltb-false, le-ltb, leb-true, le-leb, leb-false, ◌≡◌, refl, ◌↔◌, ◌≢◌, ◌⊎◌, inl, inr, ⊎_elim, Bool, true, false, cond, not}
use Rattle.std.proofs.lemmas.Bool.{lt-leb}
use Rattle.std.proofs.Math.Logic.{⊎_map}
use mathlib.Core.Logic.Iff
use Rattle.octets.specs.Tests.{◌and◌, ◌or◌}

-- a test, either way
pub split : {A : Type 0} (b : Bool) → (b ≡ true → A) → (b ≡ false → A) → A
split true f g = f refl
split false f g = g refl

pub cond_same : {A : Type 0} (b : Bool) (x : A) → cond b x x ≡ x
cond_same true x = refl
cond_same false x = refl

-- a test by its two ways, and its opposite
pub itself : (b : Bool) → b ≡ cond b true false
itself true = refl
itself false = refl

pub opposite : (b : Bool) → not b ≡ cond b false true
opposite true = refl
opposite false = refl

-- two tests, one after the other
pub both : (p q : Bool) → ((p and q) ≡ true) ↔ ((p ≡ true) × (q ≡ true))
both true q = (λ e. (refl, e), λ t. t.1)
both false q = (λ e. let z : ◌≡◌ {A = ℕ} 0 1 = cc in absurd (omega arith), λ t. t.0)

pub either : (p q : Bool) → ((p or q) ≡ true) ↔ ((p ≡ true) ⊎ (q ≡ true))
either true q = (λ e. inl refl, λ t. refl)
either false q = (λ e. inr e, ⊎_elim (λ e. let z : ◌≡◌ {A = ℕ} 0 1 = cc in absurd (omega arith)) (λ e. e))

-- a test that holds and does not
pub never : {A : Type 0} {b : Bool} → b ≡ true → b ≡ false → A
never p q = let z : ◌≡◌ {A = ℕ} 0 1 = cc in absurd (omega arith)

-- one of two, each said otherwise
pub either_way : {A B C D : Type 0} → A ↔ C → B ↔ D → (A ⊎ B) ↔ (C ⊎ D)
either_way h k = (⊎_map h.0 k.0, ⊎_map h.1 k.1)

-- two tests, each with its condition
pub either_is : (p q : Bool) {c d : Type 0} → (p ≡ true) ↔ c → (q ≡ true) ↔ d → ((p or q) ≡ true) ↔ (c ⊎ d)
either_is p q i j = Iff.trans (either p q) (either_way i j)

pub both_is : (p q : Bool) {c d : Type 0} → (p ≡ true) ↔ c → (q ≡ true) ↔ d → ((p and q) ≡ true) ↔ (c × d)
both_is p q i j = Iff.trans (both p q) (λ x. (i.0 x.0, j.0 x.1), λ x. (i.1 x.0, j.1 x.1))

-- the second of two tests does not hold
pub only : (p q : Bool) {c : Type 0} → q ≡ false → (p ≡ true) ↔ c → ((p or q) ≡ true) ↔ c
only true q e i = i
only false q e i = (λ x. never x e, λ x. never (i.1 x) refl)

-- ---- tests that hold, plainly

pub same_number : (m n : ℕ) → (eqb m n ≡ true) ↔ (m ≡ n)
same_number m n = (eqb-true m n, eq-eqb m n)

pub below_number : (m n : ℕ) → (ltb m n ≡ true) ↔ (m < n)
below_number m n = (ltb-true m n, lt-ltb m n)

pub upto_number : (m n : ℕ) → (leb m n ≡ true) ↔ (m ≤ n)
upto_number m n = (leb-true m n, le-leb m n)

-- a number is one of two
pub either_number : (n p q : ℕ) → ((eqb n p or eqb n q) ≡ true) ↔ ((n ≡ p) ⊎ (n ≡ q))
either_number n p q = Iff.trans (either _ _) (either_way (same_number n p) (same_number n q))

-- ---- tests that do not hold, plainly

pub not_below : (m n : ℕ) → (ltb m n ≡ false) ↔ (n ≤ m)
not_below m n = (ltb-false m n, le-ltb m n)

pub not_upto : (m n : ℕ) → (leb m n ≡ false) ↔ (n < m)
not_upto m n = (leb-false m n, lt-leb m n)

pub not_true : (b : Bool) → (not b ≡ true) ↔ (b ≡ false)
not_true true = (λ e. never e refl, λ e. never refl e)
not_true false = (λ e. refl, λ e. refl)

pub not_not : (b : Bool) → (not b ≡ false) ↔ (b ≡ true)
not_not true = (λ e. refl, λ e. refl)
not_not false = (λ e. never refl e, λ e. never e refl)

-- neither of two tests
pub neither : (p q : Bool) → ((p or q) ≡ false) ↔ ((p ≡ false) × (q ≡ false))
neither true q = (λ e. never refl e, λ t. t.0)
neither false q = (λ e. (refl, e), λ t. t.1)

-- the first test holds, and the second does not
pub only_first : (p q : Bool) → ((not p or q) ≡ false) ↔ ((p ≡ true) × (q ≡ false))
only_first true q = (λ e. (refl, e), λ t. t.1)
only_first false q = (λ e. never refl e, λ t. never t.0 refl)

-- a test does not hold exactly if its condition does not
pub not_is : (b : Bool) {c : Type 0} → (b ≡ true) ↔ c → (b ≡ false) ↔ (c → ⊥)
not_is true i = (λ e. never refl e, λ n. absurd (n (i.0 refl)))
not_is false i = (λ e x. never (i.1 x) refl, λ e. refl)

pub unlike_number : (m n : ℕ) → (not (eqb m n) ≡ true) ↔ (m ≢ n)
unlike_number m n = Iff.trans (not_true _) (not_is _ (eqb-true m n, eq-eqb m n))

-- a number is neither of two
pub neither_number : (n p q : ℕ) → (not (eqb n p or eqb n q) ≡ true) ↔ ((n ≢ p) × (n ≢ q))
neither_number n p q =
    Iff.trans (not_true _)
    (Iff.trans (not_is _ (either_number n p q)) (λ f. (λ e. f (inl e), λ e. f (inr e)), λ f. ⊎_elim f.0 f.1))
