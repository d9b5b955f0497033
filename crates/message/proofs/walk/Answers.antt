use Rattle.std.proofs.Common.{ℕ, ◌-◌, sym, ap, ◌∙◌, arith}
use Rattle.message.specs.Records.{walk_from}
use Rattle.message.proofs.Records.{walk_on, walk_bad, walk_end}
use Rattle.message.proofs.walk.Goals as goal

pub returns-in_default : goal.returns-in_default
returns-in_default c =
    let h = c.loop-test.true in
    sym (c.loop.invariant ∙ walk_bad (c.args.count - c.loop.counter) _ _ (omega arith) (sym c.read_record.ensures ∙ c.in_default.is))

pub loop-preserved : goal.loop-preserved
loop-preserved c =
    let h = c.loop-test.true in
    c.loop.invariant
    ∙ walk_on (c.args.count - c.loop.counter) _ _ _ (omega arith) (sym c.read_record.ensures ∙ c.in-Some.is)
    ∙ ap (λ (k : ℕ). walk_from k c.args.s.now c.in-Some.record.next) (omega arith)

pub returns : goal.returns
returns c =
    let h = c.loop-test.false in
    sym (c.loop.invariant ∙ walk_end (c.args.count - c.loop.counter) _ _ (omega arith))
