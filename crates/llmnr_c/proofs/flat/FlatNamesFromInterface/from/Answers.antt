use Rattle.std.proofs.Common.{rules}
use Rattle.host.specs.State.{off_name}
use Rattle.llmnr_c.specs.FlatHost.{flat_state}
use Rattle.llmnr_c.proofs.Lists.{mapped}
use Rattle.llmnr_c.proofs.flat.FlatNamesFromInterface.from.Goals as goal

pub returns : goal.returns
returns c =
    rw (mapped _ flat_state off_name _ _ _ _ (search rules) (λ p q x y k. search rules) c.map-names.ensures.items)
