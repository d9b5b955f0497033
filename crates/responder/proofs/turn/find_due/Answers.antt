use Rattle.std.proofs.Common.{rules, ◌∙◌}
use Rattle.std.proofs.lemmas.List.{length-map, get_or-map}
use Rattle.host.specs.State.{off_name}
use Rattle.host.specs.Tick.{is_due}
use Rattle.host.specs.declared.NameState.{NameState}
use Rattle.responder.proofs.TurnLaws.{none_found, one_found, position-map}
use Rattle.responder.proofs.turn.find_due.Goals as goal

pub returns-in_err-name : goal.returns-in_err-name
returns-in_err-name g c =
    rw c.from_residual.ensures
    (none_found c.args.time _ (search (rules, length-map)) (c.in_err-name.ensures.first ∙ position-map (λ (s : NameState). is_due s c.args.time) _ c.args.names.now))

pub returns : goal.returns
returns g c =
    let k = c.in_ok-name.name in
    rw (c.state.ensures, ← get_or-map g.T.Waits.state c.args.names.now k c.index-names-name.result off_name c.in_ok-name.ensures.in_range)
    (one_found c.args.time _ (search (rules, length-map)) k (c.in_ok-name.ensures.first ∙ position-map (λ (s : NameState). is_due s c.args.time) _ c.args.names.now))
