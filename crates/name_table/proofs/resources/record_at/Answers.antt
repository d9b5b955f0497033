use Rattle.name_table.specs.Records.{record_at}
use Rattle.octets.proofs.Octets.{part_rest}
use Rattle.name_table.proofs.Read.{taken, not_taken, at_ends, record_there}
use Rattle.std.proofs.Common.{arith, sym, ◌∙◌}
use Rattle.name_table.proofs.resources.record_at.Goals as goal

pub returns-in_default : goal.returns-in_default
unfolding record_at
returns-in_default c =
    let e = c.split_first.ensures in
    rw (← part_rest c.args.table.now c.args.at, ← c.part-rest.ensures, not_taken _ (sym (rw c.in_default.is at e)))

pub overflow_add-at : goal.overflow_add-at
overflow_add-at c =
    let e = c.split_first.ensures in
    let n = taken _ _ _ _ (sym (rw (c.in-Some.is, c.part-rest.ensures, part_rest c.args.table.now c.args.at) at e)) in
    omega (arith, (at_ends c.args.table.now c.args.at n).0)

pub overflow_sub-table : goal.overflow_sub-table
overflow_sub-table c =
    let e = c.split_first.ensures in
    let n = taken _ _ _ _ (sym (rw (c.in-Some.is, c.part-rest.ensures, part_rest c.args.table.now c.args.at) at e)) in
    (at_ends c.args.table.now c.args.at n).1

pub returns : goal.returns
returns c =
    let e = c.split_first.ensures in
    let n = taken _ _ _ _ (sym (rw (c.in-Some.is, c.part-rest.ensures, part_rest c.args.table.now c.args.at) at e)) in
    c.record_by.ensures ∙ rw (c.from.ensures, c.part-rest.ensures, part_rest c.args.table.now c.args.at) (sym (record_there c.args.table.now c.args.at n))
