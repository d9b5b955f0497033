use Rattle.name_table.specs.Records.{records_under, records_of}
use Rattle.std.proofs.Common.{◌≡◌, List, length, ℕ, ◌+◌, ◌-◌, ◌≤◌}
use Rattle.name_table.proofs.resources.count_records.Given as goal

-- the records so far, and those that are left under some mask
pub record Counted (table : List ℕ) (at n p : ℕ) : Type 0 where
  pub mask : ℕ
  pub few : n ≤ p
  pub all : length (records_of table at) ≡ n + length (records_under table mask p)

abbrev pub invariant-loop-record : goal.invariant-loop-record
invariant-loop-record l = Counted l.table l.at l.n l.p

abbrev pub decreases-loop-record : goal.decreases-loop-record
decreases-loop-record l = length l.table - l.p
