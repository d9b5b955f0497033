-- The check as a fold: a turn of it, its fuel, and that checking x ++ y is checking y from the state after x.
use Rattle.std.proofs.Common.{ℕ, suc, zero, ◌+◌, ◌-◌, ◌<◌, ◌≤◌, ◌≡◌, refl, sym, ap, ◌∙◌, List, [], ◌∷◌, ◌++◌, true, arith, eqb, length, take, drop, length-append, length-drop, eq-eqb, ne_eqb, le-leb, eqb-true, leb-true}
use Rattle.std.proofs.lemmas.List.{take-append-le, drop-append-le}
use Rattle.std.proofs.lemmas.Bool.{eqb-false}
use Rattle.std.proofs.Math.ListN.{get_or-append}
use Rattle.octets.specs.Octets.{part_of}
use Rattle.octets.proofs.Tests.{split, both}
use Rattle.octets.proofs.Octets.{part_in}
use Rattle.name_table.specs.Bounds.{entry_head}
use Rattle.name_table.specs.Kinds.{kind_of}
use Rattle.name_table.specs.Check.{State, Stepped, on, broken, whole, stopped, length_at, kind_at, body_at, is_whole, form_by, form_at, step_by, step, from, check_from}

-- an entry's length and kind are there, and its length counts them and lies within s
pub record Whole (s : List ℕ) : Type 0 where
  pub head : entry_head ≤ length s
  pub least : entry_head ≤ length_at s
  pub inside : length_at s ≤ length s

pub whole_yes : (s : List ℕ) → Whole s → is_whole s ≡ true
unfolding is_whole
whole_yes s w = rw (le-leb _ _ w.head, le-leb _ _ w.least, le-leb _ _ w.inside)

pub whole_is : (s : List ℕ) → is_whole s ≡ true → Whole s
unfolding is_whole
whole_is s e =
    let t = (both _ _).0 e in
    let u = (both _ _).0 t.1 in
    record { head = leb-true _ _ t.0; least = leb-true _ _ u.0; inside = leb-true _ _ u.1 }

-- a step that takes an entry takes a whole one
pub step_whole : (s : List ℕ) (σ τ : State) → step s σ ≡ on τ → Whole s
unfolding step form_at
step_whole s σ τ e =
    split (is_whole s) (λ p. whole_is s p)
    (λ p. absurd (let z : ◌≡◌ {A = ℕ} 0 1 = cc (rw p at e) in omega arith))

-- the step over a whole entry depends on its kind, body and length alone
abbrev pub step_of : ℕ → List ℕ → ℕ → State → Stepped
step_of kind body len σ = step_by (form_by (kind_of kind) (length σ.names) σ.records body) kind body len σ

pub step_is : (s : List ℕ) (σ : State) → Whole s → step s σ ≡ step_of (kind_at s) (body_at s) (length_at s) σ
unfolding step form_at
step_is s σ w = rw (whole_yes s w)

-- octets after an entry do not matter to it
module _ (x y : List ℕ) (w : Whole x) where
  length_more : length_at (x ++ y) ≡ length_at x
  length_more =
      let h : 0 < length x = omega (arith, w.head) in
      let i : 1 < length x = omega (arith, w.head) in
      rw (get_or-append x y 0 0 h, get_or-append x y 0 1 i)

  kind_more : kind_at (x ++ y) ≡ kind_at x
  kind_more =
      let h : 2 < length x = omega (arith, w.head) in
      let i : 3 < length x = omega (arith, w.head) in
      rw (get_or-append x y 0 2 h, get_or-append x y 0 3 i)

  body_more : body_at (x ++ y) ≡ body_at x
  body_more =
      let l : length_at x ≤ length (x ++ y) = omega (arith, w.inside, length-append x y) in
      let i : length_at x - entry_head ≤ length (drop entry_head x) = omega (arith, w.inside, length-drop entry_head x) in
      ap (part_of (x ++ y) entry_head) length_more ∙ part_in (x ++ y) entry_head (length_at x) w.least l
      ∙ ap (take (length_at x - entry_head)) (drop-append-le entry_head x y w.head) ∙ take-append-le (length_at x - entry_head) (drop entry_head x) y i
      ∙ sym (part_in x entry_head (length_at x) w.least w.inside)

  whole_more : Whole (x ++ y)
  whole_more =
      record {
        head = omega (arith, w.head, length-append x y);
        least = omega (arith, w.least, length_more);
        inside = omega (arith, w.inside, length_more, length-append x y);
      }

  step_same : (σ : State) → step (x ++ y) σ ≡ step x σ
  step_same σ =
      step_is (x ++ y) σ whole_more
      ∙ ap (λ (k : ℕ). step_of k (body_at (x ++ y)) (length_at (x ++ y)) σ) kind_more
      ∙ ap (λ (b : List ℕ). step_of (kind_at x) b (length_at (x ++ y)) σ) body_more
      ∙ ap (λ (n : ℕ). step_of (kind_at x) (body_at x) n σ) length_more
      ∙ sym (step_is x σ w)

pub step_more : (x y : List ℕ) (σ τ : State) → step x σ ≡ on τ → step (x ++ y) σ ≡ on τ
step_more x y σ τ e = step_same x y (step_whole x σ τ e) σ ∙ e

-- one turn
pub turn_on : (k : ℕ) (s : List ℕ) (σ τ : State) → step s σ ≡ on τ → from (suc k) s σ ≡ from k (drop (length_at s) s) τ
unfolding from
turn_on k s σ τ e =
    let z : length s ≡ 0 → ⊥ = omega (arith, (step_whole s σ τ e).head) in
    rw (ne_eqb _ _ z, e)

pub turn_end : (k : ℕ) (s : List ℕ) (σ : State) → length s ≡ 0 → from (suc k) s σ ≡ whole σ
unfolding from
turn_end k s σ e = rw (eq-eqb _ _ e)

pub turn_off : (k : ℕ) (s : List ℕ) (σ : State) → 1 ≤ length s → step s σ ≡ broken → from (suc k) s σ ≡ stopped σ.at
unfolding from
turn_off k s σ h e =
    let z : length s ≡ 0 → ⊥ = omega arith in
    rw (ne_eqb _ _ z, e)

-- what is left after an entry is shorter
pub shorter : (s : List ℕ) → Whole s → length (drop (length_at s) s) < length s
shorter s w = omega (arith, w.head, w.least, w.inside, length-drop (length_at s) s)

-- any fuel above the length does
pub fuel : (k j : ℕ) (s : List ℕ) (σ : State) → length s < k → length s < j → from k s σ ≡ from j s σ
fuel zero j s σ h g = absurd (omega arith)
fuel (suc k) zero s σ h g = absurd (omega arith)
fuel (suc k) (suc j) s σ h g = go (step s σ) refl (λ τ. fuel k j (drop (length_at s) s) τ)
  where
    go : (r : Stepped) → step s σ ≡ r
        → ((τ : State) → length (drop (length_at s) s) < k → length (drop (length_at s) s) < j → from k (drop (length_at s) s) τ ≡ from j (drop (length_at s) s) τ)
        → from (suc k) s σ ≡ from (suc j) s σ
    go (on τ) e r =
        let l = shorter s (step_whole s σ τ e) in
        turn_on k s σ τ e ∙ r τ (omega arith) (omega arith) ∙ sym (turn_on j s σ τ e)
    go broken e r =
        split (eqb (length s) 0)
        (λ z. turn_end k s σ (eqb-true _ _ z) ∙ sym (turn_end j s σ (eqb-true _ _ z)))
        (λ z. let n : length s ≡ 0 → ⊥ = eqb-false _ _ z in
        turn_off k s σ (omega arith) e ∙ sym (turn_off j s σ (omega arith) e))

append_fuel : (k j : ℕ) (x y : List ℕ) (σ τ : State) → length x + length y < k → length y < j → from k x σ ≡ whole τ → from k (x ++ y) σ ≡ from j y τ
append_fuel zero j x y σ τ h g e = absurd (omega arith)
append_fuel (suc k) j x y σ τ h g e = go (step x σ) refl (λ ρ. append_fuel k j (drop (length_at x) x) y ρ τ)
  where
    go : (r : Stepped) → step x σ ≡ r
        → ((ρ : State) → length (drop (length_at x) x) + length y < k → length y < j → from k (drop (length_at x) x) ρ ≡ whole τ → from k (drop (length_at x) x ++ y) ρ ≡ from j y τ)
        → from (suc k) (x ++ y) σ ≡ from j y τ
    go (on ρ) q r =
        let w = step_whole x σ ρ q in
        let l = shorter x w in
        let d : drop (length_at (x ++ y)) (x ++ y) ≡ drop (length_at x) x ++ y = ap (λ (n : ℕ). drop n (x ++ y)) (length_more x y w) ∙ drop-append-le (length_at x) x y w.inside in
        turn_on k (x ++ y) σ ρ (step_more x y σ ρ q) ∙ ap (λ (s : List ℕ). from k s ρ) d ∙ r ρ (omega arith) g (sym (turn_on k x σ ρ q) ∙ e)
    go broken q r = none x refl
      where
        none : (s : List ℕ) → x ≡ s → from (suc k) (x ++ y) σ ≡ from j y τ
        none [] z =
            let v : from (suc k) x σ ≡ whole σ = turn_end k x σ (ap length z) in
            let w : σ ≡ τ = cc in
            rw (z, ← w) (fuel (suc k) j y σ (omega arith) g)
        none (c ∷ s) z =
            let n : 1 ≤ length x = omega (arith, ap length z) in
            absurd (let v : ◌≡◌ {A = ℕ} 0 1 = cc (turn_off k x σ n q) in omega arith)

-- For x whose entries are all taken, checking x ++ y is checking y from the state after x.
pub check_append : (x y : List ℕ) (σ τ : State) → check_from x σ ≡ whole τ → check_from (x ++ y) σ ≡ check_from y τ
check_append x y σ τ e =
    let l = length-append x y in
    let h : length x + length y < suc (length (x ++ y)) = omega arith in
    let g : length y < suc (length y) = omega arith in
    let a : length x < suc (length x) = omega arith in
    let b : length x < suc (length (x ++ y)) = omega arith in
    append_fuel (suc (length (x ++ y))) (suc (length y)) x y σ τ h g (fuel (suc (length (x ++ y))) (suc (length x)) x σ b a ∙ e)
