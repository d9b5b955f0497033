use Rattle.std.proofs.Common.{sym, ◌∙◌, arith, ap}
use Rattle.std.proofs.lemmas.Result.{err_from_is_err_and}
use Rattle.responder.specs.Turn.{first}
use Rattle.responder.proofs.OpeningLaws.{opens_there, refusing, calling}
use Rattle.responder.proofs.NameLaws.{none_there, one_there, kind_is, octets_are}
use Rattle.responder.proofs.StartLaws.{refused_first, no_name_lem, refused_own, accepted}
use Rattle.responder.proofs.ServedLaws.{within_as}
use Rattle.responder.proofs.served.start.Goals as goal

pub returns-in_err-names-clause-gives : goal.returns-in_err-names-clause-gives
returns-in_err-names-clause-gives c = λ h x n.
    let p = err_from_is_err_and c.from_residual.result c.from_residual.ensures.1 in
    rw (p.1, p.2)
    (refused_first h _ _ _ _ _ _ _ (refusing h _ _ _ _ _ _ x _ c.in_err-names.ensures.opened _))

pub returns-in_default-clause-gives : goal.returns-in_default-clause-gives
returns-in_default-clause-gives c = λ h x n.
    let e = sym c.name.ensures ∙ c.in_default.is in
    no_name_lem h _ _ _ _ _ _ _ (calling h _ _ _ _ _ _ x _ c.in_ok-names.ensures.opened) (none_there _ _ _ e)

pub returns-in_err-check_start-clause-gives : goal.returns-in_err-check_start-clause-gives
returns-in_err-check_start-clause-gives c = λ h x n.
    let p = err_from_is_err_and c.from_residual-in_err-check_start.result c.from_residual-in_err-check_start.ensures.1 in
    let e = sym c.name.ensures ∙ c.in-Some.is in
    rw (p.1, p.2)
    (refused_own h _ _ _ _ _ _ _ (calling h _ _ _ _ _ _ x _ c.in_ok-names.ensures.opened) (one_there _ _ _ _ e) _ n _ (sym c.in_err-check_start.ensures))

pub returns-clause-gives : goal.returns-clause-gives
returns-clause-gives c = λ h x n.
    let e = sym c.name.ensures ∙ c.in-Some.is in
    rw (c.serve.ensures.served, c.serve.ensures.written)
    (accepted h _ _ _ _ _ _ _ (calling h _ _ _ _ _ _ x _ c.in_ok-names.ensures.opened) (one_there _ _ _ _ e) _ n
    (sym c.in_ok-check_start.ensures) _ (kind_is _ _ _ _ e) _ (c.part-octets.ensures ∙ octets_are _ _ _ _ e) _ x.setting _ (c.first_state-next.ensures ∙ ap (first _ _) c.timer-timer.ensures))

pub returns-clause-within : goal.returns-clause-within
returns-clause-within c =
    let t = opens_there _ _ _ _ _ _ _ c.in_ok-names.ensures.opened in
    let l = one_there c.args.table.now _ _ _ (sym c.name.ensures ∙ c.in-Some.is) in
    rw c.serve.ensures.served (within_as _ _ _ _ _ t.0 (omega (arith, t.1, l)))
