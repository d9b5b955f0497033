use Rattle.names.proofs.RecordNameWalk.{Come, left}
use Rattle.names.proofs.read_from.Given as goal

abbrev pub invariant-loop-v : goal.invariant-loop-v
invariant-loop-v l = Come l.s l.initial.w l.labels l.w

abbrev pub decreases-loop-v : goal.decreases-loop-v
decreases-loop-v l = left l.w
