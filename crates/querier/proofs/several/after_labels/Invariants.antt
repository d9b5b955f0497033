use Rattle.std.proofs.Common.{◌≡◌, ◌-◌}
use Rattle.lookup.specs.SeveralLabels.{after_labels}
use Rattle.querier.proofs.several.after_labels.Given as goal

abbrev pub invariant-loop : goal.invariant-loop
invariant-loop l = after_labels l.labels l.name ≡ after_labels (l.labels - l.counter) l.rest
