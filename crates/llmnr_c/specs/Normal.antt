-- Flat values in normal form: the numbers are those of states and phases, and what they do not use is zero.
use Rattle.std.specs.Prelude.{◌≤◌, ◌≡◌, ◌≢◌, List, [], ◌∷◌, length}
use Rattle.octets.specs.Bounds.{interfaces as interface_count}
use Rattle.llmnr_c.specs.Numbers.{state_shared, state_verifying, state_defending, state_stopped, phase_ended, phase_asking, phase_collecting}
use Rattle.llmnr_c.specs.declared.flat.FlatName.{FlatName}
use Rattle.llmnr_c.specs.declared.flat.FlatNames.{FlatNames}
use Rattle.llmnr_c.specs.declared.flat.FlatHost.{FlatHost}
use Rattle.llmnr_c.specs.declared.flat_lookup.FlatLookup.{FlatLookup}

pub record IsNormalName (f : FlatName) : Type 0 where
  pub state : f.state ≤ state_shared
  pub sends : f.state ≢ state_verifying → f.sends ≡ 0
  pub id : f.state ≢ state_verifying → f.state ≢ state_defending → f.id ≡ 0
  pub qtype : f.state ≢ state_defending → f.qtype ≡ 0
  pub qclass : f.state ≢ state_defending → f.qclass ≡ 0
  pub due : f.state ≢ state_verifying → f.state ≢ state_defending → f.state ≢ state_stopped → f.due ≡ 0

-- of a host: each name of each interface
abbrev pub AreNormalNames : List FlatName → Type 0
AreNormalNames [] = Unit
AreNormalNames (f ∷ fs) = IsNormalName f × AreNormalNames fs

abbrev pub AreNormalInterfaces : List FlatNames → Type 0
AreNormalInterfaces [] = Unit
AreNormalInterfaces (f ∷ fs) = AreNormalNames f.names × AreNormalInterfaces fs

-- with four interfaces
pub record IsNormalHost (f : FlatHost) : Type 0 where
  pub settings : length f.settings.interfaces ≡ interface_count
  pub four : length f.interfaces ≡ interface_count
  pub names : AreNormalInterfaces f.interfaces

pub record IsNormalLookup (f : FlatLookup) : Type 0 where
  pub phase : f.phase ≤ phase_collecting
  pub sends : f.phase ≢ phase_asking → f.sends ≡ 0
  pub due : f.phase ≡ phase_ended → f.due ≡ 0
