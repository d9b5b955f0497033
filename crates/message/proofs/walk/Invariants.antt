use Rattle.std.proofs.Common.{◌≡◌, ◌-◌}
use Rattle.message.specs.Records.{walk_from}
use Rattle.message.proofs.walk.Given as goal

-- the walk from here over the records that are left is the whole walk
abbrev pub invariant-loop : goal.invariant-loop
invariant-loop l = walk_from l.count l.s l.at ≡ walk_from (l.count - l.counter) l.s l.p
