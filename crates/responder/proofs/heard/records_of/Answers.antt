use Rattle.std.proofs.Common.{sym, ◌∙◌}
use Rattle.responder.proofs.NameLaws.{no_end, end_is}
use Rattle.responder.proofs.heard.records_of.Goals as goal

pub returns-in-Some : goal.returns-in-Some
returns-in-Some c = λ table. end_is table c.args.names.now c.args.name _ (sym c.name.ensures ∙ c.in-Some.is)

pub returns-in-None : goal.returns-in-None
returns-in-None c = λ table. no_end table c.args.names.now c.args.name (sym c.name.ensures ∙ c.in-None.is)
