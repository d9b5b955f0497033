-- A host as flat structs, and back; what a call of a host gives in C; and how that is taken into the host.
use Rattle.std.specs.Prelude.{ℕ, List, [], ◌∷◌, map, cond, get_or, set, eqb, false, Option, Some, None, is_some, Result, Ok, Err}
use Rattle.refusal.specs.Numbers.{report_of}
use Rattle.refusal.specs.declared.Refusal.{Refusal}
use Rattle.octets.specs.Addresses.{unused}
use Rattle.host.specs.declared.NameState.{NameState}
use Rattle.host.specs.declared.NameState.TheVariants.{Off, Verifying, Unique, Defending, Stopped, Shared}
use Rattle.host.specs.declared.Interface.{Interface}
use Rattle.host.specs.declared.Host.{Host}
use Rattle.host.specs.State.{settings_of, state_of as state_at, due_at}
use Rattle.host.specs.Outcomes.{Done, nowhere, result_of, to_of}
use Rattle.checks.specs.Messages.{slot_of}
use Rattle.responder.specs.declared.served.Site.{Site}
use Rattle.responder.specs.declared.served.NamedState.{NamedState}
use Rattle.responder.specs.declared.served.Served.{Served}
use Rattle.responder.specs.Served.{changes, name_told}
use Rattle.llmnr_c.specs.Numbers.{state_off, state_verifying, state_unique, state_defending, state_stopped, state_shared}
use Rattle.llmnr_c.specs.Outcomes.{flat_refusal, flat_outcome}
use Rattle.llmnr_c.specs.declared.flat.FlatName.{FlatName}
use Rattle.llmnr_c.specs.declared.flat.FlatNames.{FlatNames}
use Rattle.llmnr_c.specs.declared.flat.FlatSettings.{FlatSettings}
use Rattle.llmnr_c.specs.declared.flat.FlatHost.{FlatHost}
use Rattle.llmnr_c.specs.declared.flat.FlatSetUp.{FlatSetUp}
use Rattle.llmnr_c.specs.declared.flat.FlatStep.{FlatStep}

-- ---- what a flat value stands for

-- the state of a name, by its number; any other number is Off
abbrev pub state_of : FlatName → NameState
state_of f =
    cond (eqb f.state state_verifying) (Verifying f.sends f.id (due_at f.due))
    (cond (eqb f.state state_unique) Unique
    (cond (eqb f.state state_defending) (Defending f.id f.qtype f.qclass (due_at f.due))
    (cond (eqb f.state state_stopped) (Stopped f.due)
    (cond (eqb f.state state_shared) Shared
    Off))))

-- the names of an interface that is not there: the zero value
abbrev pub no_names : FlatNames
no_names = record { names = [] }

-- an interface, by its number
abbrev pub interface_of : FlatHost → ℕ → Interface
interface_of f i =
    record { setting = get_or f.settings.interfaces i unused; names = map state_of (get_or f.interfaces i no_names).names }

abbrev pub host_of : FlatHost → Host
host_of f =
    record { interfaces = interface_of f 0 ∷ interface_of f 1 ∷ interface_of f 2 ∷ interface_of f 3 ∷ []; clock = f.clock }

-- What a call on an interface is given stands for a host whose interfaces all have these names. Those of the others do not matter: what it
-- gives is what it gives on every host with these settings, this clock and these names here (proofs/Taken.antt).
abbrev pub seen : FlatSettings → ℕ → FlatNames → Host
seen s clock n = host_of (record { settings = s; interfaces = n ∷ n ∷ n ∷ n ∷ []; clock = clock })

-- what a call on an interface looks at of it, beside names
abbrev pub site_in : FlatSettings → ℕ → ℕ → Site
site_in s clock i = record { interface = i; setting = get_or s.interfaces (slot_of i) unused; clock = clock }

-- ---- and back

-- a state without data
abbrev pub bare : ℕ → FlatName
bare n = record { state = n; sends = 0; id = 0; qtype = 0; qclass = 0; due = 0 }

abbrev pub flat_state : NameState → FlatName
flat_state Off = bare state_off
flat_state (Verifying sends id timer) =
    record { state = state_verifying; sends = sends; id = id; qtype = 0; qclass = 0; due = timer.due }
flat_state Unique = bare state_unique
flat_state (Defending id qtype qclass timer) =
    record { state = state_defending; sends = 0; id = id; qtype = qtype; qclass = qclass; due = timer.due }
flat_state (Stopped until) = record { state = state_stopped; sends = 0; id = 0; qtype = 0; qclass = 0; due = until }
flat_state Shared = bare state_shared

abbrev pub flat_names : Interface → FlatNames
flat_names i = record { names = map flat_state i.names }

abbrev pub flat_host : Host → FlatHost
flat_host h =
    record {
      settings = record { interfaces = settings_of h.interfaces };
      interfaces = map flat_names h.interfaces;
      clock = h.clock;
    }

-- ---- what a call gives

-- set-up: the whole host
abbrev pub host_set_up : Done → FlatSetUp
host_set_up d = record { host = flat_host d.host; outcome = flat_outcome d.result }

-- the flat step, and every octet of the lent buffer
pub record FlatDone : Type 0 where
  pub step : FlatStep
  pub octets : List ℕ

abbrev pub done : FlatStep → List ℕ → FlatDone
done s out = record { step = s; octets = out }

-- the name of interface i that has a new state; all zero if none has
abbrev pub name_after : ℕ → Done → FlatName
name_after i d = cond (changes d.result) (flat_state (state_at d.host i (name_told d.result))) (bare state_off)

abbrev pub step_on : ℕ → Done → FlatDone
step_on i d =
    record {
      step =
          record {
            clock = d.host.clock;
            name = name_after i d;
            outcome = flat_outcome d.result;
            to = d.to;
            changed = changes d.result;
          };
      octets = d.octets;
    }

-- the new state that a name has; all zero if none has one
abbrev pub new_state : Option NamedState → FlatName
new_state (Some n) = flat_state n.state
new_state None = bare state_off

-- what the code's call at a time says, of a host whose clock stands at another
abbrev pub flat_served : ℕ → ℕ → Result Served Refusal → FlatStep
flat_served clock time (Ok s) =
    record {
      clock = time;
      name = new_state s.change;
      outcome = flat_outcome (result_of s.outcome);
      to = to_of s.outcome;
      changed = is_some s.change;
    }
flat_served clock time (Err why) =
    record { clock = clock; name = bare state_off; outcome = flat_refusal (report_of why); to = nowhere; changed = false }

-- ---- taking a step into the host that it was made of: `llmnr_take` of the header

abbrev pub names_after : FlatNames → FlatStep → FlatNames
names_after n s = record { names = set n.names s.outcome.name s.name }

abbrev pub take_step : FlatHost → ℕ → FlatStep → FlatHost
take_step f i s =
    record {
      settings = f.settings;
      interfaces = cond s.changed (set f.interfaces i (names_after (get_or f.interfaces i no_names) s)) f.interfaces;
      clock = s.clock;
    }
