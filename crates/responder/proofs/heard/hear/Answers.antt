use Rattle.std.proofs.Common.{◌≤◌, ◌∙◌, ap, arith}
use Rattle.std.proofs.lemmas.Result.{err_from_is_err_and}
use Rattle.name_table.specs.Check.{find_name}
use Rattle.name_table.specs.Shown.{names_of}
use Rattle.host.specs.Bounds.{longest}
use Rattle.responder.proofs.OpeningLaws.{refusing, calling}
use Rattle.responder.proofs.HeardLaws.{name_short, refused_first, refused_read, unknown, heard}
use Rattle.responder.proofs.heard.hear.Goals as goal

pub returns-in_err-names : goal.returns-in_err-names
returns-in_err-names c = λ h id out x l.
    let p = err_from_is_err_and c.from_residual.result c.from_residual.ensures.1 in
    rw (p.1, p.2) (refused_first h _ _ (refusing h _ _ _ _ _ _ x _ (rw l c.in_err-names.ensures.opened) _))

pub returns-in_err-header : goal.returns-in_err-header
returns-in_err-header c = λ h id out x l.
    let p = err_from_is_err_and c.from_residual-in_err-header.result c.from_residual-in_err-header.ensures.1 in
    rw (p.1, p.2) (refused_read h _ (names_of c.args.call.table.now c.in_ok-names.names) (calling h _ _ _ _ _ _ x _ (rw l c.in_ok-names.ensures.opened)) _ x.setting _ c.in_err-header.ensures)

pub overflow_add-question : goal.overflow_add-question
overflow_add-question c =
    let l : c.in_ok-header.field-0.question.name ≤ longest = name_short _ _ _ _ c.in_ok-header.field-0 c.in_ok-header.ensures in
    omega (arith, l)

pub returns-in_default : goal.returns-in_default
returns-in_default c = λ h id out x l.
    rw c.unknown.ensures
    (unknown h _ _ (calling h _ _ _ _ _ _ x _ (rw l c.in_ok-names.ensures.opened)) _ x.setting c.in_ok-header.field-0 c.in_ok-header.ensures
    _ (c.find.ensures ∙ ap (find_name _) c.part-asked.ensures) c.in_default.is)

pub returns : goal.returns
returns c = λ h id out x l.
    rw c.timer.ensures
    (heard h _ _ (calling h _ _ _ _ _ _ x _ (rw l c.in_ok-names.ensures.opened)) _ x.setting c.in_ok-header.field-0 c.in_ok-header.ensures
    _ (c.find.ensures ∙ ap (find_name _) c.part-asked.ensures) _ c.in-Some.is _ (c.records_of.ensures c.args.call.table.now))
