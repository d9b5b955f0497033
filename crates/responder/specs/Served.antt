-- A call in terms of one name: what it looks at of a host, and what it makes of it. So the host may be held in any form.
use Rattle.std.specs.Prelude.{◌≡◌, ℕ, ◌<◌, Bool, true, false, List, get_or, Option, Some, None, Result, Ok, Err}
use Rattle.octets.specs.Bounds.{interfaces}
use Rattle.octets.specs.declared.Setting.{Setting}
use Rattle.refusal.specs.Numbers.{report_of}
use Rattle.refusal.specs.declared.Refusal.{Refusal}
use Rattle.name_table.specs.Bounds.{most_names}
use Rattle.host.specs.State.{off_name, setting_of, with_clock, with_state}
use Rattle.host.specs.Outcomes.{CallResult, refused, ready, quiet, kept, query, reply, unique, shared, stopped, Done, refusal, result_of, to_of}
use Rattle.host.specs.Tick.{Due, due, none, due_from}
use Rattle.host.specs.declared.NameState.{NameState}
use Rattle.host.specs.declared.Host.{Host}
use Rattle.checks.specs.Messages.{slot_of}
use Rattle.responder.specs.declared.served.NamedState.{NamedState}
use Rattle.responder.specs.declared.served.Served.{Served}
use Rattle.responder.specs.declared.served.Site.{Site}

-- what a call on interface i looks at of every host, beside names: the interface's settings, and the clock
pub record Sees (h : Host) (i : ℕ) (s : Setting) (clock : ℕ) : Type 0 where
  pub setting : setting_of h (slot_of i) ≡ s
  pub clock_is : h.clock ≡ clock

-- of one host
abbrev pub site_on : Host → ℕ → Site
site_on h i = record { interface = i; setting = setting_of h (slot_of i); clock = h.clock }

-- the first name that is due, with its state
abbrev pub due_state : Due → List NameState → Option NamedState
due_state none names = None
due_state (due k) names = Some (record { name = k; state = get_or names k off_name })

unfoldable pub due_found : List NameState → ℕ → Option NamedState
due_found names time = due_state (due_from most_names names 0 time) names

-- the name that a result tells has a new state
abbrev pub changes : CallResult → Bool
changes (refused t) = false
changes ready = false
changes quiet = false
changes (kept k) = false
changes (reply len) = false
changes (query k len) = true
changes (unique k) = true
changes (shared k) = true
changes (stopped k) = true

-- the number of the name that a result tells
abbrev pub name_told : CallResult → ℕ
name_told (refused t) = 0
name_told ready = 0
name_told quiet = 0
name_told (kept k) = k
name_told (reply len) = 0
name_told (query k len) = k
name_told (unique k) = k
name_told (shared k) = k
name_told (stopped k) = k

-- the host after an accepted call on interface i at a time
abbrev pub host_after : Option NamedState → Host → ℕ → ℕ → Host
host_after None h i time = with_clock h time
host_after (Some n) h i time = with_state h i n.name n.state time

-- what the call gives on a host, with every octet of the lent buffer
abbrev pub served_by : Result Served Refusal → List ℕ → Host → ℕ → ℕ → Done
served_by (Ok s) out h i time =
    record { host = host_after s.change h i time; result = result_of s.outcome; to = to_of s.outcome; octets = out }
served_by (Err why) out h i time = refusal h out (report_of why)

-- a name has a new state exactly where the result says so, and it is the one that this tells; it and its interface are there
abbrev pub ChangeIsWithin : Option NamedState → CallResult → ℕ → Type 0
ChangeIsWithin None r i = changes r ≡ false
ChangeIsWithin (Some n) r i = (changes r ≡ true) × (name_told r ≡ n.name) × (i < interfaces) × (n.name < most_names)

abbrev pub IsWithin : Result Served Refusal → ℕ → Type 0
IsWithin (Ok s) i = ChangeIsWithin s.change (result_of s.outcome) i
IsWithin (Err why) i = Unit
