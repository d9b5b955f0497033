use Rattle.std.proofs.Common.{rules, ap, ◌∙◌}
use Rattle.llmnr_c.specs.FlatHost.{step_on}
use Rattle.llmnr_c.proofs.Calls.{flattens}
use Rattle.llmnr_c.proofs.llmnr_receive.Goals as goal

pub returns-clause-out_after : goal.returns-clause-out_after
returns-clause-out_after c =
    let r = c.receive-came.ensures in
    rw c.of_call.ensures
    (flattens c.args.settings c.args.clock c.args.names c.args.time _ c.args.interface (search rules) _ r.within ∙ ap (step_on c.args.interface) r.gives)
