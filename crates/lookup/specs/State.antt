-- The state of a lookup, and how a call changes it: its phase, and the clock.
use Rattle.std.specs.Prelude.{ℕ, List, cond, get_or, take, replicate}
use Rattle.octets.specs.Bounds.{interfaces}
use Rattle.octets.specs.Addresses.{unused}
use Rattle.octets.specs.declared.Setting.{Setting}
use Rattle.names.specs.Bounds.{longest_name}
use Rattle.host.specs.Early.{no_interface}
use Rattle.host.specs.SetUp.{zero_setting}
use Rattle.lookup.specs.declared.Phase.{Phase}
use Rattle.lookup.specs.declared.Phase.TheVariants.{Ended}
use Rattle.lookup.specs.declared.Lookup.{Lookup}

-- the settings of the interface that it asks on
abbrev pub setting_of : Lookup → Setting
setting_of l = get_or l.settings l.interface unused

-- the octets of the name that it asks for. They stand at the start of an array of 255: a greater length counts as 255.
abbrev pub name_of : Lookup → List ℕ
name_of l = take l.len l.name

-- a lookup on an unused interface counts as ended
abbrev pub phase_of : Lookup → Phase
phase_of l = cond (no_interface l.interface (setting_of l).family) Ended l.phase

-- an accepted call sets the clock to its time, and may change the phase
abbrev pub with_phase : Lookup → Phase → ℕ → Lookup
with_phase l phase time =
    record {
      settings = l.settings;
      interface = l.interface;
      name = l.name;
      len = l.len;
      qtype = l.qtype;
      id = l.id;
      clock = time;
      phase = phase;
    }

abbrev pub with_clock : Lookup → ℕ → Lookup
with_clock l time = with_phase l l.phase time

-- what a refused start gives: an ended lookup on an unused interface, and all else zero
abbrev pub ended_lookup : Lookup
ended_lookup =
    record {
      settings = replicate interfaces zero_setting;
      interface = 0;
      name = replicate longest_name 0;
      len = 0;
      qtype = 0;
      id = 0;
      clock = 0;
      phase = Ended;
    }
