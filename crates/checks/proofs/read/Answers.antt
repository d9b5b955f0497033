use Rattle.std.proofs.lemmas.Result.{err_from_is_err_and}
use Rattle.std.proofs.Common.{sym, ◌∙◌}
use Rattle.checks.proofs.DatagramLaws.{length_so, query_so, message_refused, message_read_lem}
use Rattle.checks.proofs.read.Goals as goal

pub returns-in_default : goal.returns-in_default
returns-in_default c = length_so _ _ _ _ _ (sym c.read_header.ensures ∙ c.in_default.is)

pub returns-then-is_unasked : goal.returns-then-is_unasked
returns-then-is_unasked c =
    query_so _ _ _ _ _ _ (sym c.read_header.ensures ∙ c.in-Some.is) (sym c.is_unasked.ensures ∙ c.if-is_unasked.true)

pub returns-in_err-question : goal.returns-in_err-question
returns-in_err-question c =
    let p = err_from_is_err_and c.from_residual.result c.from_residual.ensures.1 in
    rw (p.1, p.2)
    (message_refused _ _ _ _ _ _ (sym c.read_header.ensures ∙ c.in-Some.is) (sym c.is_unasked.ensures ∙ c.if-is_unasked.false) _ c.in_err-question.ensures)

pub returns : goal.returns
returns c =
    message_read_lem _ _ _ _ _ _ (sym c.read_header.ensures ∙ c.in-Some.is) (sym c.is_unasked.ensures ∙ c.if-is_unasked.false) _ c.in_ok-question.ensures
