-- The claim of specs/Link.antt holds of the definitions that the contracts of the four calls cite.
use Rattle.uniqueness.specs.Link.{Demand3}
use Rattle.uniqueness.proofs.Obligations.Met.{obligations}
use Rattle.uniqueness.proofs.Theorem.Attained.{demand_3}

pub demand_3_holds : Demand3
demand_3_holds = demand_3 obligations
