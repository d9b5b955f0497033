use Rattle.std.proofs.Common.{rules}
use Rattle.host.specs.State.{absent}
use Rattle.host.specs.declared.Interface.{Interface}
use Rattle.llmnr_c.specs.FlatHost.{flat_names}
use Rattle.llmnr_c.proofs.Lists.{map_four}
use Rattle.llmnr_c.proofs.flat.FlatHostFromHost.from.Goals as goal

pub returns : goal.returns
returns c =
    rw
    (c.into.ensures, c.into-2.ensures, c.into-3.ensures, c.into-4.ensures, ← map_four flat_names absent c.args.host.interfaces (search rules), ← map_four (λ (i : Interface). i.setting) absent c.args.host.interfaces (search rules))
