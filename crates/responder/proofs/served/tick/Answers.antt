use Rattle.std.proofs.Common.{sym, ◌∙◌, arith, ap}
use Rattle.std.proofs.lemmas.Result.{err_from_is_err_and}
use Rattle.responder.specs.Turn.{again}
use Rattle.responder.proofs.OpeningLaws.{opens_there, refusing, calling}
use Rattle.responder.proofs.NameLaws.{none_there, one_there, octets_are}
use Rattle.responder.proofs.TickLaws.{refused_first, none_due, past_due, one_due}
use Rattle.responder.proofs.ServedLaws.{within_as}
use Rattle.responder.proofs.served.tick.Goals as goal

pub returns-in_err-names-clause-gives : goal.returns-in_err-names-clause-gives
returns-in_err-names-clause-gives c = λ h x d.
    let p = err_from_is_err_and c.from_residual.result c.from_residual.ensures.1 in
    rw (p.1, p.2)
    (refused_first h _ _ _ _ _ _ (refusing h _ _ _ _ _ _ x _ c.in_err-names.ensures.opened _))

pub returns-in_default-clause-gives : goal.returns-in_default-clause-gives
returns-in_default-clause-gives c = λ h x d.
    none_due h _ _ _ _ _ _ (calling h _ _ _ _ _ _ x _ c.in_ok-names.ensures.opened) (sym c.in_default.is ∙ d)

pub returns-in_default-name-clause-gives : goal.returns-in_default-name-clause-gives
returns-in_default-name-clause-gives c = λ h x d.
    let e = sym c.name.ensures ∙ c.in_default-name.is in
    past_due h _ _ _ _ _ _ (calling h _ _ _ _ _ _ x _ c.in_ok-names.ensures.opened) _ (sym c.in-Some.is ∙ d) (none_there _ _ _ e)

pub returns-clause-gives : goal.returns-clause-gives
returns-clause-gives c = λ h x d.
    let e = sym c.name.ensures ∙ c.in-Some-name.is in
    rw (c.serve.ensures.served, c.serve.ensures.written)
    (one_due h _ _ _ _ _ _ (calling h _ _ _ _ _ _ x _ c.in_ok-names.ensures.opened) _ (sym c.in-Some.is ∙ d) (one_there _ _ _ _ e)
    _ (c.part-octets.ensures ∙ octets_are _ _ _ _ e) _ x.setting _ (c.next_state-next.ensures ∙ ap (again c.in-Some.due.state) c.timer.ensures))

pub returns-clause-within : goal.returns-clause-within
returns-clause-within c =
    let t = opens_there _ _ _ _ _ _ _ c.in_ok-names.ensures.opened in
    let l = one_there c.args.table.now _ _ _ (sym c.name.ensures ∙ c.in-Some-name.is) in
    rw c.serve.ensures.served (within_as _ _ _ _ _ t.0 (omega (arith, t.1, l)))
