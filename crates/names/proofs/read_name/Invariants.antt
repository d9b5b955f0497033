use Rattle.std.proofs.Common.{◌-◌, ◌<◌, ◌≤◌, ◌≡◌}
use Rattle.names.specs.Bounds.{longest_name}
use Rattle.names.specs.NameWalk.{more_labels, name_at}
use Rattle.names.proofs.NameWalk.{name_here}
use Rattle.names.proofs.read_name.Given as goal

abbrev pub invariant-loop-p : goal.invariant-loop-p
invariant-loop-p l = (l.len < longest_name) × (l.labels ≤ l.len) × (name_at l.s l.at ≡ more_labels l.labels (name_here l.s l.p l.len))

abbrev pub decreases-loop-p : goal.decreases-loop-p
decreases-loop-p l = longest_name - l.len
