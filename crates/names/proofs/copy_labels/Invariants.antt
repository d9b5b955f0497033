use Rattle.names.proofs.RecordNameWalk.{left}
use Rattle.names.proofs.Expansion.{Copied}
use Rattle.names.proofs.copy_labels.Given as goal

abbrev pub invariant-loop-v : goal.invariant-loop-v
invariant-loop-v l = Copied l.s l.at l.initial.out l.out l.w l.used

abbrev pub decreases-loop-v : goal.decreases-loop-v
decreases-loop-v l = left l.w
