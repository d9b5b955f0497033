use Rattle.std.proofs.Common.{◌+◌, sym, ap, ◌∙◌, arith, length, rules}
use Rattle.octets.proofs.Octets.{past, not_past}
use Rattle.message.specs.Bounds.{before_data}
use Rattle.message.proofs.Reply.{filling_begin, filling_count, filled_end, filled_cut, filling_skip, filling_mask, filling_put, nearer_record, nearer_mask}
use Rattle.message.proofs.replies.put_answers.Goals as goal

pub loop-record-init : goal.loop-record-init
loop-record-init c =
    filling_begin c.args.out.now c.args.limit c.args.asked.qtype c.args.asked.interface c.args.used c.args.asked.table.now c.args.asked.records _ c.requires.inside c.is_valid-here.ensures

pub returns-then-runs_past : goal.returns-then-runs_past
returns-then-runs_past c =
    let e = sym c.record_at.ensures ∙ c.in-Good.is in
    let o = ap length c.part-rdata.ensures in
    let h = past _ c.loop-record.end (before_data + length c.part-rdata.result.now) _ c.runs_past.ensures c.if-runs_past.true in
    filled_cut c.loop-record.invariant c.requires.room _ e (sym c.is_taken.ensures ∙ c.if-is_taken.true) (omega arith)

pub overflow_add-count : goal.overflow_add-count
overflow_add-count c =
    let h = not_past c.args.limit c.loop-record.end (before_data + length c.part-rdata.result.now) _ c.runs_past.ensures c.if-runs_past.false in
    let n = filling_count c.loop-record.invariant c.requires.room in
    let p = c.requires in
    search rules

pub loop-record-smaller-then-is_taken : goal.loop-record-smaller-then-is_taken
loop-record-smaller-then-is_taken c =
    nearer_record _ c.loop-record.p _ (sym c.record_at.ensures ∙ c.in-Good.is)

pub loop-record-preserved-then-is_taken : goal.loop-record-preserved-then-is_taken
loop-record-preserved-then-is_taken c =
    let e = sym c.record_at.ensures ∙ c.in-Good.is in
    let h = not_past c.args.limit c.loop-record.end (before_data + length c.part-rdata.result.now) _ c.runs_past.ensures c.if-runs_past.false in
    filling_put c.loop-record.invariant c.requires.room _ e (sym c.is_taken.ensures ∙ c.if-is_taken.true) _ _ c.part-rdata.ensures h c.put_answer.ensures

pub loop-record-smaller-else-is_taken : goal.loop-record-smaller-else-is_taken
loop-record-smaller-else-is_taken c =
    nearer_record _ c.loop-record.p _ (sym c.record_at.ensures ∙ c.in-Good.is)

pub loop-record-preserved-else-is_taken : goal.loop-record-preserved-else-is_taken
loop-record-preserved-else-is_taken c =
    let e = sym c.record_at.ensures ∙ c.in-Good.is in
    filling_skip c.loop-record.invariant c.requires.room _ e (sym c.is_taken.ensures ∙ c.if-is_taken.false)

pub loop-record-smaller : goal.loop-record-smaller
loop-record-smaller c =
    nearer_mask _ c.loop-record.p _ _ (sym c.record_at.ensures ∙ c.in-Mask.is)

pub loop-record-preserved : goal.loop-record-preserved
loop-record-preserved c =
    let e = sym c.record_at.ensures ∙ c.in-Mask.is in
    filling_mask c.loop-record.invariant c.requires.room _ _ _ e c.is_valid-here-in-Mask.ensures

pub returns-in-End : goal.returns-in-End
returns-in-End c =
    filled_end c.loop-record.invariant c.requires.room (sym c.record_at.ensures ∙ c.in-End.is)
