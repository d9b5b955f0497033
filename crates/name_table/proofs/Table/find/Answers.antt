use Rattle.std.proofs.Common.{◌∙◌}
use Rattle.name_table.specs.Shown.{places_of}
use Rattle.name_table.proofs.Shown.{found_at}
use Rattle.name_table.proofs.Table.find.Goals as goal

pub returns : goal.returns
returns c = c.find_among.ensures ∙ rw c.held.ensures (found_at c.args.octets.now c.args.name.now (places_of c.args.self.now))
