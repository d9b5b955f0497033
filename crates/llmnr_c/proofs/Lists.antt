-- Arrays of four, element by element; and what is made of each element.
use denote.Param.Members.{Mut}
use Rattle.std.specs.Fn.{Called}
use Rattle.std.specs.Array.{IsMapOf}
use Rattle.std.proofs.lemmas.List.{ext_get_or}
use Prim.Native.Nat.{ℕ}
use mathlib.Core.Path.{◌≡◌, refl, sym, ◌∙◌}
use mathlib.Core.List.{List, [], ◌∷◌, map}
use native.Mathlib.Omega.{arith}
use lib.ListN.{length, get_or, length-map, get_or-map}

module _ {A : Type 0} where
  pub data Four : List A → Type 0 where
    four : (a b c d : A) → Four (a ∷ b ∷ c ∷ d ∷ [])

  pub fours : (l : List A) → length l ≡ 4 → Four l
  fours [] e = absurd (omega arith)
  fours (a ∷ []) e = absurd (omega arith)
  fours (a ∷ b ∷ []) e = absurd (omega arith)
  fours (a ∷ b ∷ c ∷ []) e = absurd (omega arith)
  fours (a ∷ b ∷ c ∷ d ∷ []) e = four a b c d
  fours (a ∷ b ∷ c ∷ d ∷ f ∷ l) e = absurd (omega arith)

-- f of each of four
pub map_four : {A B : Type 0} (f : A → B) (z : A) (l : List A) → length l ≡ 4
    → f (get_or l 0 z) ∷ f (get_or l 1 z) ∷ f (get_or l 2 z) ∷ f (get_or l 3 z) ∷ [] ≡ map f l
map_four {A} {B} f z l e = go (fours l e)
  where
    go : {l : List A} → Four l → f (get_or l 0 z) ∷ f (get_or l 1 z) ∷ f (get_or l 2 z) ∷ f (get_or l 3 z) ∷ [] ≡ map f l
    go (four a b c d) = refl

-- what an array's `map` gives
pub mapped : {F A B : Type 0} (g : Mut F (A × Unit {0}) B) (h : A → B) (d : A) (f : F) (xs : List A) (ys : List B) (n : ℕ) → length xs ≡ n
    → ((p q : F) (x : A) (y : B) → Called g p (x, tt) y q → y ≡ h x) → IsMapOf g f xs ys n → ys ≡ map h xs
mapped g h d f xs ys n l k m =
    ext_get_or (h d) ys (map h xs) (m.long ∙ sym l ∙ sym (length-map xs h))
    (λ i b. let c = m.at i d (h d) (omega (arith, b, m.long)) in k c.0 c.1 _ _ c.2 ∙ sym (get_or-map h xs i d))
