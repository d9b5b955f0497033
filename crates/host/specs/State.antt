-- The state of a host, and how a call changes it: at most one name of one interface, and the clock.
use Rattle.std.specs.Prelude.{ℕ, ◌+◌, ◌≡◌, ◌≢◌, List, [], ◌∷◌, map, Bool, cond, get_or, set, eqb}
use Rattle.octets.specs.declared.Setting.{Setting}
use Rattle.octets.specs.Addresses.{is_ours, unused}
use Rattle.octets.specs.declared.Address.{Address}
use Rattle.host.specs.Bounds.{short, long}
use Rattle.host.specs.declared.Timer.{Timer}
use Rattle.host.specs.declared.NameState.{NameState}
use Rattle.host.specs.declared.NameState.TheVariants.{Off, Verifying, Unique, Defending, Stopped, Shared}
use Rattle.host.specs.declared.Interface.{Interface}
use Rattle.host.specs.declared.Host.{Host}

-- a name that is Off, and an interface that is not there: the zero values
abbrev pub off_name : NameState
off_name = Off

abbrev pub absent : Interface
absent = record { setting = unused; names = [] }

abbrev pub interface_of : Host → ℕ → Interface
interface_of h i = get_or h.interfaces i absent

abbrev pub setting_of : Host → ℕ → Setting
setting_of h i = (interface_of h i).setting

abbrev pub settings_of : List Interface → List Setting
settings_of is = map (λ i. i.setting) is

-- of four interfaces, as the code has them
abbrev pub four_settings : List Interface → List Setting
four_settings is =
    (get_or is 0 absent).setting ∷ (get_or is 1 absent).setting ∷ (get_or is 2 absent).setting ∷ (get_or is 3 absent).setting ∷ []

-- an address is one of the host's own
abbrev pub is_own : Host → Address → Bool
is_own h a = is_ours (settings_of h.interfaces) a

-- the state of the name with a number on an interface
abbrev pub state_of : Host → ℕ → ℕ → NameState
state_of h i k = (get_or (interface_of h i).names k off_name)

-- the phase of a name: its state without its data
pub data Phase : Type 0 where
  off verifying unique defending stopped shared : Phase

abbrev pub phase_of : NameState → Phase
phase_of Off = off
phase_of (Verifying sends id timer) = verifying
phase_of Unique = unique
phase_of (Defending id qtype qclass timer) = defending
phase_of (Stopped until) = stopped
phase_of Shared = shared

-- plainly: a name has stopped, whenever it may be tried again
abbrev pub HasStopped : NameState → Type 0
HasStopped state = (until : ℕ) × (state ≡ Stopped until)

abbrev pub rank : Phase → ℕ
rank off = 0
rank verifying = 1
rank unique = 2
rank defending = 3
rank stopped = 4
rank shared = 5

-- a name is in a phase
abbrev pub is : Phase → NameState → Bool
is p state = eqb (rank (phase_of state)) (rank p)

-- an accepted call sets the clock to its time
abbrev pub with_clock : Host → ℕ → Host
with_clock h time = record { interfaces = h.interfaces; clock = time }

-- and may change the state of one name
abbrev pub with_state : Host → ℕ → ℕ → NameState → ℕ → Host
with_state h i k state time =
    record {
      interfaces =
          set h.interfaces i
          (record { setting = setting_of h i; names = set (interface_of h i).names k state });
      clock = time;
    }

-- an interval other than 100 counts as 1,000
abbrev pub interval_of : Setting → ℕ
interval_of s = cond (eqb s.interval short) short long

-- plainly: the interval of an interface in milliseconds, 100 if its setting says so, else 1,000
pub data IsInterval (s : Setting) : ℕ → Type 0 where
  short_interval : s.interval ≡ 100 → IsInterval s 100
  long_interval : s.interval ≢ 100 → IsInterval s 1000

-- in plain words: a timer that is due at a time, and the settings of an interface that is unused, all zero
abbrev pub due_at : ℕ → Timer
due_at time = record { due = time }

abbrev pub zeros : Setting
zeros = record { family = 0; address = 0 ∷ 0 ∷ 0 ∷ 0 ∷ 0 ∷ 0 ∷ 0 ∷ 0 ∷ 0 ∷ 0 ∷ 0 ∷ 0 ∷ 0 ∷ 0 ∷ 0 ∷ 0 ∷ []; interval = 0 }

-- a timer that is started now
abbrev pub timer_from : Setting → ℕ → Timer
timer_from s time = record { due = time + interval_of s }
