-- What a call sees of a host, and that a name that goes over to a state is within its table.

use Rattle.std.specs.Prelude.{Ok}
use Rattle.std.proofs.Common.{rules, ◌≡◌, ℕ, ◌<◌, List, refl}
use Rattle.octets.specs.Bounds.{interfaces}
use Rattle.name_table.specs.Bounds.{most_names}
use Rattle.host.specs.declared.NameState.{NameState}
use Rattle.responder.specs.declared.contest.Ending.{Ending}
use Rattle.responder.specs.declared.heard.Heard.{Heard}
use Rattle.responder.specs.Contest.{ended_as}
use Rattle.responder.specs.Turn.{served_as}
use Rattle.host.specs.declared.Host.{Host}
use Rattle.responder.specs.declared.served.Site.{Site}
use Rattle.responder.specs.Served.{Sees, site_on, IsWithin}

-- a name that goes over to a state is within its table, and its interface is there
pub within_as : (s : NameState) (k : ℕ) (name : List ℕ) (family i : ℕ) → i < interfaces → k < most_names → IsWithin (Ok (served_as s k name family)) i
within_as s k name family i l m = search rules

-- and so is one whose contest ends
pub within_end : (z : Ending) (r : Heard) (family id : ℕ) (asked : List ℕ) (until i : ℕ) → i < interfaces → r.name < most_names
    → IsWithin (Ok (ended_as z r family id asked until)) i
within_end z r family id asked until i l m = search rules

-- a call on an interface of a host sees it
pub sees : (h : Host) (i : ℕ) (s : Site) → s ≡ site_on h i → Sees h s.interface s.setting s.clock
sees h i s e = rw e (record { setting = refl; clock_is = refl })
