use Rattle.std.proofs.Common.{rules, ap, ◌∙◌}
use Rattle.llmnr_c.specs.FlatHost.{step_on}
use Rattle.llmnr_c.proofs.Calls.{sees, names_seen, flattens}
use Rattle.llmnr_c.proofs.llmnr_tick.Goals as goal

pub returns-clause-out_after : goal.returns-clause-out_after
returns-clause-out_after c =
    let e = c.site-site.ensures in
    let g = c.tick-came.ensures.gives _ (sees c.args.settings c.args.clock c.args.names _ _ e)
    (rw (e, names_seen c.args.settings c.args.clock c.args.names c.args.interface) c.find_due-due.ensures) in
    let w = c.tick-came.ensures.within in
    rw c.of_call.ensures
    (flattens c.args.settings c.args.clock c.args.names c.args.time _ c.args.interface (search rules) _ (rw e at w)
    ∙ ap (step_on c.args.interface) (rw e at g))
