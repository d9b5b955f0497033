-- Checks made in order: the first test that holds decides the refusal; where none holds, the call passes.
use Rattle.std.specs.Prelude.{Bool, true, false, cond, ◌≡◌}
use Rattle.refusal.specs.Numbers.{Report}

pub data Checks : Type 0 where
  -- refused so where the test holds, else by the checks that follow
  fail : Bool → Report → Checks → Checks
  pass : Checks

pub data Verdict : Type 0 where
  refused : Report → Verdict
  passed : Verdict

unfoldable pub verdict : Checks → Verdict
verdict (fail test t r) = cond test (refused t) (verdict r)
verdict pass = passed

-- How a verdict comes about, check by check: those before the one that decides do not hold.
pub data Gives : Checks → Verdict → Type 0 where
  next : {b : Bool} {t : Report} {r : Checks} {v : Verdict} → b ≡ false → Gives r v → Gives (fail b t r) v
  stop : {b : Bool} {t : Report} {r : Checks} → b ≡ true → Gives (fail b t r) (refused t)
  done : Gives pass passed

-- no test holds
abbrev pub Clear : Checks → Type 0
Clear (fail b t r) = (b ≡ false) × Clear r
Clear pass = Unit
