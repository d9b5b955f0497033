use Rattle.std.proofs.Common.{◌≡◌, refl}
use Rattle.std.proofs.lemmas.Result.{err_from_is_err_and}
use Rattle.responder.proofs.ReceiveLaws.{unheard}
use Rattle.llmnr_c.specs.FlatHost.{seen}
use Rattle.llmnr_c.proofs.Calls.{sees, state_seen, own_seen}
use Rattle.llmnr_c.proofs.receive.Goals as goal

pub returns-in_err-heard-clause-gives : goal.returns-in_err-heard-clause-gives
returns-in_err-heard-clause-gives c =
    let e = c.site-site.ensures in
    let p = err_from_is_err_and c.from_residual.result c.from_residual.ensures.1 in
    let q = c.in_err-heard.ensures _ c.args.call.moment.id c.args.out.now (sees c.args.settings.now c.args.clock c.args.names.now _ _ e) refl in
    rw (p.1, p.2) (unheard _ _ _ (rw e at q))

pub returns-clause-gives : goal.returns-clause-gives
returns-clause-gives c =
    let e = c.site-site.ensures in
    let q = c.in_ok-heard.ensures _ c.args.call.moment.id c.args.out.now (sees c.args.settings.now c.args.clock c.args.names.now _ _ e) refl in
    let g = c.answer.ensures.gives _ c.args.call.arrival.to (sees c.args.settings.now c.args.clock c.args.names.now _ _ e) (own_seen c.args.settings.now c.args.clock c.args.names.now _) q
    (λ r u. let z : c.in_ok-heard.heard ≡ r = cc in rw (← z, e) (state_seen c.args.settings.now c.args.clock c.args.names.now c.args.interface _ _ c.state_at-state.ensures)) in
    rw e at g

pub returns-clause-within : goal.returns-clause-within
returns-clause-within c =
    let e = c.site-site.ensures in
    let q = c.in_ok-heard.ensures (seen c.args.settings.now c.args.clock c.args.names.now) c.args.call.moment.id c.args.out.now (sees c.args.settings.now c.args.clock c.args.names.now _ _ e) refl in
    let w = c.answer.ensures.within _ c.args.call.arrival.to q in
    rw e at w
