-- What stands in a list at an offset.
use Rattle.std.proofs.Common.{ℕ, suc, ◌+◌, ◌-◌, ◌<◌, ◌≡◌, refl, sym, ap, ◌∙◌, List, ◌∷◌, ◌++◌, arith, add-zero, add-one, length, get_or, take, drop, length-drop, take-append-drop, take_at, drop_at, drop-drop, drop-cons, get_or-drop}
use Rattle.names.specs.Names.{Stand}

-- what stands at an offset, and the rest
pub stand_drop : (s : List ℕ) (p : ℕ) (xs : List ℕ) → Stand s p xs → drop p s ≡ xs ++ drop (length xs) (drop p s)
stand_drop s p xs e =
    sym (take-append-drop (length xs) (drop p s)) ∙ ap (λ (r : List ℕ). r ++ drop (length xs) (drop p s)) e

-- the octet at p, and those behind it
pub from_here : (s : List ℕ) (p : ℕ) → p < length s → drop p s ≡ get_or s p 0 ∷ drop (p + 1) s
from_here s p h = drop-cons s p 0 h ∙ ap (λ (k : ℕ). get_or s p 0 ∷ drop k s) (sym (add-one p))

module _ (s : List ℕ) (p c : ℕ) (t : List ℕ) (e : drop p s ≡ c ∷ t) where
  pub there : p < length s
  there =
      let l : length s - p ≡ suc (length t) = sym (length-drop p s) ∙ ap length e in
      omega arith

  pub here : get_or s p 0 ≡ c
  here =
      ap (λ (k : ℕ). get_or s k 0) (sym (add-zero p)) ∙ sym (get_or-drop p s 0 0) ∙ ap (λ (l : List ℕ). get_or l 0 0) e

  pub behind : drop (p + 1) s ≡ t
  behind = sym (drop-drop 1 p s) ∙ ap (drop 1) e

-- the rest after a run that stands at p
pub past : (s : List ℕ) (p : ℕ) (a t : List ℕ) → drop p s ≡ a ++ t → drop (p + length a) s ≡ t
past s p a t e = sym (drop-drop (length a) p s) ∙ ap (drop (length a)) e ∙ drop_at a t (length a) refl

-- two runs of one length
pub same_run : (a b t u : List ℕ) → length a ≡ length b → a ++ t ≡ b ++ u → (a ≡ b) × (t ≡ u)
same_run a b t u l e = (
  sym (take_at a t (length a) refl) ∙ ap (take (length a)) e ∙ take_at b u (length a) (sym l),
  sym (drop_at a t (length a) refl) ∙ ap (drop (length a)) e ∙ drop_at b u (length a) (sym l),
)
