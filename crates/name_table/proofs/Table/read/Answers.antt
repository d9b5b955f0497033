use Rattle.std.proofs.Common.{Some, sym, ap, ◌∙◌, arith}
use Rattle.name_table.proofs.Read.{taken, begin, ended, refused_is, long, bad_part, moves, room, bad_form, bad_name, on_record_lem, on_mask, on_name}
use Rattle.name_table.proofs.Table.read.Goals as goal

pub returns-then-octets-gt-OCTETS : goal.returns-then-octets-gt-OCTETS
returns-then-octets-gt-OCTETS c = refused_is _ _ (long _ c.if-octets-gt-OCTETS.true)

pub loop-rest-init : goal.loop-rest-init
loop-rest-init c = begin c.args.octets.now c.if-octets-gt-OCTETS.false

pub returns-in_default : goal.returns-in_default
returns-in_default c =
    let e = c.split_first.ensures in
    refused_is _ _ (bad_part c.loop-rest.invariant (grind (arith, c.is_empty.ensures, c.loop-rest-test.true)) (sym (rw c.in_default.is at e)))

pub overflow_sub-end : goal.overflow_sub-end
overflow_sub-end c =
    let e = c.split_first.ensures in
    let n = taken _ _ _ _ (sym (rw c.in-Some.is at e)) in
    (moves c.loop-rest.invariant n).2

pub returns-in_default-form_by : goal.returns-in_default-form_by
returns-in_default-form_by c =
    let e = c.split_first.ensures in
    let n = taken _ _ _ _ (sym (rw c.in-Some.is at e)) in
    let f = sym c.form_by.ensures ∙ c.in_default-form_by.is in
    refused_is _ _ (bad_form c.loop-rest.invariant n (rw c.from.ensures at f))

pub returns-then-is_some : goal.returns-then-is_some
returns-then-is_some c =
    let e = c.split_first.ensures in
    let n = taken _ _ _ _ (sym (rw c.in-Some.is at e)) in
    let f = sym c.form_by.ensures ∙ c.in-Some-form_by.is ∙ ap Some c.in-Name.is in
    refused_is _ _ (bad_name c.loop-rest.invariant n (rw c.from.ensures at f) (rw (← c.find.ensures, ← c.is_some.ensures) c.if-is_some.true))

pub bounds-table-table : goal.bounds-table-table
bounds-table-table c =
    let e = c.split_first.ensures in
    let n = taken _ _ _ _ (sym (rw c.in-Some.is at e)) in
    let f = sym c.form_by.ensures ∙ c.in-Some-form_by.is ∙ ap Some c.in-Name.is in
    omega (arith, room c.loop-rest.invariant n (rw c.from.ensures at f))

pub loop-rest-smaller-else-is_some : goal.loop-rest-smaller-else-is_some
loop-rest-smaller-else-is_some c =
    let e = c.split_first.ensures in
    let n = taken _ _ _ _ (sym (rw c.in-Some.is at e)) in
    (moves c.loop-rest.invariant n).1

pub loop-rest-preserved-else-is_some : goal.loop-rest-preserved-else-is_some
loop-rest-preserved-else-is_some c =
    let e = c.split_first.ensures in
    let n = taken _ _ _ _ (sym (rw c.in-Some.is at e)) in
    let f = sym c.form_by.ensures ∙ c.in-Some-form_by.is ∙ ap Some c.in-Name.is in
    on_name c.loop-rest.invariant n (rw c.from.ensures at f) (rw (← c.find.ensures, ← c.is_some.ensures) c.if-is_some.false)

pub loop-rest-smaller-in-Record : goal.loop-rest-smaller-in-Record
loop-rest-smaller-in-Record c =
    let e = c.split_first.ensures in
    let n = taken _ _ _ _ (sym (rw c.in-Some.is at e)) in
    (moves c.loop-rest.invariant n).1

pub loop-rest-preserved-in-Record : goal.loop-rest-preserved-in-Record
loop-rest-preserved-in-Record c =
    let e = c.split_first.ensures in
    let n = taken _ _ _ _ (sym (rw c.in-Some.is at e)) in
    let f = sym c.form_by.ensures ∙ c.in-Some-form_by.is ∙ ap Some c.in-Record.is in
    on_record_lem c.loop-rest.invariant n (rw c.from.ensures at f)

pub loop-rest-smaller : goal.loop-rest-smaller
loop-rest-smaller c =
    let e = c.split_first.ensures in
    let n = taken _ _ _ _ (sym (rw c.in-Some.is at e)) in
    (moves c.loop-rest.invariant n).1

pub loop-rest-preserved : goal.loop-rest-preserved
loop-rest-preserved c =
    let e = c.split_first.ensures in
    let n = taken _ _ _ _ (sym (rw c.in-Some.is at e)) in
    let f = sym c.form_by.ensures ∙ c.in-Some-form_by.is ∙ ap Some c.in-Mask.is in
    on_mask c.loop-rest.invariant n (rw c.from.ensures at f)

pub returns : goal.returns
returns c = ended c.loop-rest.invariant (grind (arith, c.is_empty.ensures, c.loop-rest-test.false))
