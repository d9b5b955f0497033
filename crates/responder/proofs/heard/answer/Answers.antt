use Rattle.std.proofs.Common.{◌∙◌, ap}
use Rattle.std.proofs.lemmas.Result.{err_from_is_err_and}
use Rattle.responder.specs.Contest.{judged}
use Rattle.responder.proofs.ReceiveLaws.{unheard, is_heard, refused_judged, answers, settles, there}
use Rattle.responder.proofs.ServedLaws.{within_end}
use Rattle.responder.proofs.heard.answer.Goals as goal

pub returns-in_err-heard-clause-gives : goal.returns-in_err-heard-clause-gives
returns-in_err-heard-clause-gives c = λ h to x own heard n.
    let p = err_from_is_err_and c.from_residual.result c.from_residual.ensures.1 in
    rw (p.1, p.2) (unheard h _ _ (rw c.in_err-heard.was at heard))

pub returns-in_err-judge-clause-gives : goal.returns-in_err-judge-clause-gives
returns-in_err-judge-clause-gives c = λ h to x own heard n.
    let r = c.in_ok-heard.heard in
    let p = err_from_is_err_and c.from_residual-in_err-judge.result c.from_residual-in_err-judge.ensures.1 in
    rw (p.1, p.2)
    (refused_judged h _ _ (is_heard h _ r (rw c.in_ok-heard.was at heard)) _ (n r c.in_ok-heard.was) _ (c.in_err-judge.ensures ∙ ap (judged c.args.state r.header r.question) own))

pub returns-in-Answer-clause-gives : goal.returns-in-Answer-clause-gives
returns-in-Answer-clause-gives c = λ h to x own heard n.
    let r = c.in_ok-heard.heard in
    let j = rw c.in-Answer.is at c.in_ok-judge.ensures in
    answers h _ _ (is_heard h _ r (rw c.in_ok-heard.was at heard)) _ (n r c.in_ok-heard.was) (j ∙ ap (judged c.args.state r.header r.question) own)
    (record { len = c.write.result; octets = c.write.new.out }) c.write.ensures

pub returns-in-Contest-clause-gives : goal.returns-in-Contest-clause-gives
returns-in-Contest-clause-gives c = λ h to x own heard n.
    let r = c.in_ok-heard.heard in
    let j = rw c.in-Contest.is at c.in_ok-judge.ensures in
    rw (c.end.ensures.served, c.end.ensures.written)
    (settles h _ _ (is_heard h _ r (rw c.in_ok-heard.was at heard)) _ (n r c.in_ok-heard.was) (j ∙ ap (judged c.args.state r.header r.question) own)
    _ x.setting _ c.settle-ending.ensures)

pub returns-in-Contest-clause-within : goal.returns-in-Contest-clause-within
returns-in-Contest-clause-within c = λ h to heard.
    let t = there h _ _ (is_heard h _ c.in_ok-heard.heard (rw c.in_ok-heard.was at heard)) in
    rw c.end.ensures.served (within_end _ _ _ _ _ _ _ t.0 t.1)
