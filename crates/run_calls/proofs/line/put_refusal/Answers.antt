use Rattle.run_calls.proofs.LineLaws.{with_offset, without_offset}
use Rattle.run_calls.proofs.line.put_refusal.Goals as goal

pub returns-in-Table : goal.returns-in-Table
returns-in-Table c =
    let n = c.number-number.ensures in
    rw (with_offset c.args.refusal c.in-Table.at c.in-Table.is) (rw n at c.write.ensures.bytes)

pub returns-in_default : goal.returns-in_default
returns-in_default c =
    let n = c.number-number.ensures in
    rw (without_offset c.args.refusal c.in_default.not-Table)
    (rw n at c.write-in_default.ensures.bytes)
