use Rattle.std.proofs.Common.{length, ◌≡◌, ◌≤◌}
use Rattle.std.proofs.Math.Seq.{paste}
use Rattle.octets.proofs.copy.Given as goal

abbrev pub invariant-loop-i : goal.invariant-loop-i
invariant-loop-i l = (length l.src ≤ length l.fn.out) × (length l.out ≡ length l.fn.out) × (l.out ≡ paste l.fn.out 0 l.src l.i)
