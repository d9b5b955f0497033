use Rattle.std.proofs.Common.{◌≡◌, ◌∙◌, refl}
use Rattle.std.proofs.lemmas.Result.{err_from_is_err_and}
use Rattle.std.proofs.lemmas.List.{map-id}
use Rattle.responder.proofs.ContestLaws.{own_settings}
use Rattle.responder.proofs.ServedLaws.{sees}
use Rattle.responder.proofs.ReceiveLaws.{unheard}
use Rattle.responder.proofs.receive.Goals as goal

pub returns-in_err-heard-clause-done : goal.returns-in_err-heard-clause-done
returns-in_err-heard-clause-done c =
    let e = c.site-site.ensures in
    let p = err_from_is_err_and c.from_residual.result c.from_residual.ensures.1 in
    let q = c.in_err-heard.ensures c.args.host.now c.args.moment.id c.args.out.now (sees _ _ _ e) refl in
    rw (p.1, p.2) (unheard c.args.host.now _ _ (rw e at q))

pub returns-in_err-served-clause-done : goal.returns-in_err-served-clause-done
returns-in_err-served-clause-done c =
    let e = c.site-site.ensures in
    let p = err_from_is_err_and c.from_residual-in_err-served.result c.from_residual-in_err-served.ensures.1 in
    let q = c.in_ok-heard.ensures c.args.host.now c.args.moment.id c.args.out.now (sees _ _ _ e) refl in
    let g = c.in_err-served.ensures.gives c.args.host.now c.args.arrival.to (sees _ _ _ e)
    (rw c.settings-settings.ensures (own_settings c.args.host.now.interfaces c.args.arrival.from.address)) q
    (λ r u. let z : c.in_ok-heard.heard ≡ r = cc in rw (← z, c.state_at-state.ensures, map-id, c.slot.ensures.value, e)) in
    rw (p.1, p.2) (rw e at g)

pub take-requires : goal.take-requires
take-requires c =
    let e = c.site-site.ensures in
    let q = c.in_ok-heard.ensures c.args.host.now c.args.moment.id c.args.out.now (sees _ _ _ e) refl in
    let w = c.in_ok-served.ensures.within c.args.host.now c.args.arrival.to q in
    record { within = rw e at w }

pub returns-clause-done : goal.returns-clause-done
returns-clause-done c =
    let e = c.site-site.ensures in
    let q = c.in_ok-heard.ensures c.args.host.now c.args.moment.id c.args.out.now (sees _ _ _ e) refl in
    let g = c.in_ok-served.ensures.gives c.args.host.now c.args.arrival.to (sees _ _ _ e)
    (rw c.settings-settings.ensures (own_settings c.args.host.now.interfaces c.args.arrival.from.address)) q
    (λ r u. let z : c.in_ok-heard.heard ≡ r = cc in rw (← z, c.state_at-state.ensures, map-id, c.slot.ensures.value, e)) in
    c.take.ensures c.answer.new.out ∙ rw e at g
