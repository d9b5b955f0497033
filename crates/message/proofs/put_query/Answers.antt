use Rattle.std.proofs.Common.{◌+◌, arith, ◌++◌, length, length-append}
use Rattle.octets.proofs.Octets.{past, not_past}
use Rattle.message.specs.Bounds.{header_octets}
use Rattle.message.proofs.Query.{query_length, query_out, query_written}
use Rattle.message.proofs.put_query.Goals as goal

pub returns-then-runs_past-clause-value : goal.returns-then-runs_past-clause-value
returns-then-runs_past-clause-value c =
    omega (arith, query_length c.args.id c.args.flags (c.args.first.now ++ c.args.last.now), length-append c.args.first.now c.args.last.now)

pub returns-then-runs_past-clause-out_after : goal.returns-then-runs_past-clause-out_after
returns-then-runs_past-clause-out_after c =
    let h = past (length c.args.out.now) 0 (header_octets + length c.args.first.now + length c.args.last.now) _ c.runs_past.ensures c.if-runs_past.true in
    query_out c.args.id c.args.flags c.args.out.now (c.args.first.now ++ c.args.last.now) (omega (arith, length-append c.args.first.now c.args.last.now))

pub returns-clause-value : goal.returns-clause-value
returns-clause-value c =
    omega (arith, query_length c.args.id c.args.flags (c.args.first.now ++ c.args.last.now), length-append c.args.first.now c.args.last.now)

pub returns-clause-out_after : goal.returns-clause-out_after
returns-clause-out_after c =
    let h = not_past (length c.args.out.now) 0 (header_octets + length c.args.first.now + length c.args.last.now) _ c.runs_past.ensures c.if-runs_past.false in
    query_written c.args.id c.args.flags c.args.out.now c.args.first.now c.args.last.now (omega arith)
    c.put_big.ensures c.put_big-2.ensures c.put_octets.ensures c.put_octets-2.ensures c.put_octets-3.ensures
