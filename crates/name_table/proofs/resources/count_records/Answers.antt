use Rattle.name_table.proofs.Records.{read_is_inside, count_on, count_mask, count_end}
use Rattle.name_table.specs.Bounds.{everywhere}
use Rattle.name_table.specs.declared.RecordRead.TheVariants.{Good, Mask}
use Rattle.std.proofs.Common.{arith, sym, ◌∙◌, List, ℕ, rules}
use Rattle.name_table.proofs.resources.count_records.Goals as goal

pub loop-record-init : goal.loop-record-init
loop-record-init c = record { mask = everywhere; few = search rules; all = search rules }

pub overflow_add-n : goal.overflow_add-n
overflow_add-n c =
    let i = read_is_inside _ c.loop-record.p (Good _) (sym c.record_at.ensures ∙ c.in-Good.is) in
    omega (arith, c.loop-record.invariant.few, i.0, i.1)

pub loop-record-smaller-in-Good : goal.loop-record-smaller-in-Good
loop-record-smaller-in-Good c =
    let i = read_is_inside _ c.loop-record.p (Good _) (sym c.record_at.ensures ∙ c.in-Good.is) in
    omega (arith, i.0, i.1)

pub loop-record-preserved-in-Good : goal.loop-record-preserved-in-Good
loop-record-preserved-in-Good c =
    let v = c.loop-record.invariant in
    let e = sym c.record_at.ensures ∙ c.in-Good.is in
    let i = read_is_inside _ c.loop-record.p (Good _) e in
    record { mask = v.mask; few = omega (arith, v.few, i.0); all = omega (arith, v.all, count_on _ v.mask c.loop-record.p _ e) }

pub loop-record-smaller : goal.loop-record-smaller
loop-record-smaller c =
    let i = read_is_inside _ c.loop-record.p (Mask _ _) (sym c.record_at.ensures ∙ c.in-Mask.is) in
    omega (arith, i.0, i.1)

pub loop-record-preserved : goal.loop-record-preserved
loop-record-preserved c =
    let v = c.loop-record.invariant in
    let e = sym c.record_at.ensures ∙ c.in-Mask.is in
    let i = read_is_inside _ c.loop-record.p (Mask _ _) e in
    record { mask = c.in-Mask.mask; few = omega (arith, v.few, i.0); all = omega (arith, v.all, count_mask _ v.mask c.loop-record.p _ _ e) }

pub returns-in-End : goal.returns-in-End
returns-in-End c =
    let s : List ℕ = c.args.table.now in
    let e = count_end s c.loop-record.invariant.mask c.loop-record.p (sym c.record_at.ensures ∙ c.in-End.is) in
    omega (arith, c.loop-record.invariant.all)
