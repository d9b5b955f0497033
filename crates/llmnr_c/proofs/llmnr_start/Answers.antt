use Rattle.std.proofs.Common.{rules, ap, ◌∙◌}
use Rattle.llmnr_c.specs.FlatHost.{step_on}
use Rattle.llmnr_c.proofs.Calls.{sees, state_seen, flattens}
use Rattle.llmnr_c.proofs.llmnr_start.Goals as goal

pub returns-clause-out_after : goal.returns-clause-out_after
returns-clause-out_after c =
    let e = c.site-site.ensures in
    let g = c.start-came.ensures.gives _ (sees c.args.settings c.args.clock c.args.names _ _ e)
    (rw e (state_seen c.args.settings c.args.clock c.args.names c.args.interface _ _ c.state_at-state.ensures)) in
    let w = c.start-came.ensures.within in
    rw c.of_call.ensures
    (flattens c.args.settings c.args.clock c.args.names c.args.time _ c.args.interface (search rules) _ (rw e at w)
    ∙ ap (step_on c.args.interface) (rw e at g))
