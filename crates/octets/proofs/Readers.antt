-- Readers: one that finds exactly what stands there finds nothing exactly if nothing does.
use Rattle.std.proofs.Common.{◌≡◌, sym, ◌∙◌, ◌↔◌, ◌⊎◌, ⊎_elim}

-- x is what a reader answers, good or bad; P tells what stands there
pub finds_none : {A R : Type 0} {good : A → R} {bad x : R} {P : A → Type 0} → ((a : A) → (x ≡ good a) ↔ P a)
    → ((a : A) → good a ≡ bad → ⊥) → ((a : A) × (x ≡ good a)) ⊎ (x ≡ bad) → (x ≡ bad) ↔ ((a : A) → P a → ⊥)
finds_none f apart c = (
  λ e a p. apart a (sym ((f a).1 p) ∙ e),
  λ h. ⊎_elim (λ t. absurd (h t.0 ((f t.0).0 t.1))) (λ e. e) c,
)
