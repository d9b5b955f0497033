use Rattle.std.proofs.Common.{◌+◌}
use Rattle.names.proofs.RecordNameWalk.{left}
use Rattle.names.proofs.SideBySide.{Compared}
use Rattle.names.proofs.same_record_name.Given as goal

abbrev pub invariant-loop-v : goal.invariant-loop-v
invariant-loop-v l = Compared l.s l.p l.t l.q l.a l.b

abbrev pub decreases-loop-v : goal.decreases-loop-v
decreases-loop-v l = left l.a + left l.b
