use Rattle.std.proofs.Common.{◌∙◌}
use Rattle.std.proofs.lemmas.List.{map-id}
use Rattle.responder.proofs.ServedLaws.{sees}
use Rattle.responder.proofs.tick.Goals as goal

pub returns-clause-done : goal.returns-clause-done
returns-clause-done c =
    let e = c.site-site.ensures in
    let g = c.in_ok-served.ensures.gives c.args.host.now (sees _ _ _ e) (rw (c.find_due-due.ensures, map-id, c.slot.ensures.value, e)) in
    c.take.ensures c.tick.new.out ∙ rw e at g
