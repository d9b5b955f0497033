-- Refusals in plain words: a list of numbers, each with its condition, in the order of rules F for a call.
use Rattle.std.specs.Prelude.{ℕ, ◌≡◌, ◌⊎◌, List, [], ◌∷◌}
use Rattle.refusal.specs.Numbers.{Report, number, number_at}

pub data Case : Type 1 where
  -- a number and its condition
  case : ℕ → Type 0 → Case
  -- a number with an offset, and the condition for each offset
  case_at : ℕ → (ℕ → Type 0) → Case

-- The report is that of the first case whose condition holds: its own does, and those before it do not.
abbrev pub First : Report → List Case → Type 0
First t [] = ⊥
First t (case n c ∷ rest) = ((t ≡ number n) × c) ⊎ ((c → ⊥) × First t rest)
First t (case_at n c ∷ rest) = ((at : ℕ) × (t ≡ number_at n at) × c at) ⊎ (((at : ℕ) → c at → ⊥) × First t rest)
