-- What a start or a tick makes of a name: its next state; and whether it may be started.
use Rattle.std.specs.Prelude.{ℕ, ◌+◌, cond, List, length, nat_lt, Some, Result, Ok, Err}
use Rattle.octets.specs.Octets.{put}
use Rattle.octets.specs.Addresses.{group_endpoint}
use Rattle.refusal.specs.declared.Refusal.{Refusal}
use Rattle.refusal.specs.declared.Refusal.TheVariants.{Busy, TooSoon}
use Rattle.name_table.specs.declared.Kind.{Kind}
use Rattle.name_table.specs.Kinds.{is_shared_kind}
use Rattle.host.specs.Bounds.{sends_in_all}
use Rattle.host.specs.Asking.{check_query}
use Rattle.host.specs.Start.{is_idle, is_too_soon}
use Rattle.host.specs.declared.Timer.{Timer}
use Rattle.host.specs.declared.NameState.{NameState}
use Rattle.host.specs.declared.NameState.TheVariants.{Off, Verifying, Unique, Defending, Stopped, Shared}
use Rattle.host.specs.declared.Outcome.{Outcome}
use Rattle.host.specs.declared.Outcome.TheVariants as outcome
use Rattle.responder.specs.declared.served.Served.{Served}

-- of a name of some kind that is started, with a timer that is started now
abbrev pub first : Kind → ℕ → Timer → NameState
first kind id timer = cond (is_shared_kind kind) Shared (Verifying 1 id timer)

-- of a name in some state that is due
abbrev pub again : NameState → Timer → NameState
again (Verifying sends id due) timer = cond (nat_lt sends sends_in_all) (Verifying (sends + 1) id timer) Unique
again (Defending id qtype qclass due) timer = Unique
again Off timer = Unique
again Unique timer = Unique
again (Stopped until) timer = Unique
again Shared timer = Unique

-- a name that is neither Off nor Stopped is busy; one that has stopped may not be started before the time that it remembers
abbrev pub checked : NameState → ℕ → Result Unit Refusal
checked state time = cond (is_idle state) (cond (is_too_soon state time) (Err TooSoon) (Ok tt)) (Err Busy)

-- what is told of the k-th name, with these octets, that goes over to a state: while Verifying its query goes out
abbrev pub outcome_of : NameState → ℕ → List ℕ → ℕ → Outcome
outcome_of (Verifying sends id timer) k name family = outcome.Query k (length (check_query id name)) (group_endpoint family)
outcome_of Shared k name family = outcome.Shared k
outcome_of Off k name family = outcome.Unique k
outcome_of Unique k name family = outcome.Unique k
outcome_of (Defending id qtype qclass timer) k name family = outcome.Unique k
outcome_of (Stopped until) k name family = outcome.Unique k

abbrev pub served_as : NameState → ℕ → List ℕ → ℕ → Served
served_as state k name family =
    record { outcome = outcome_of state k name family; change = Some (record { name = k; state = state }) }

-- every octet of the buffer then
abbrev pub written_as : NameState → List ℕ → List ℕ → List ℕ
written_as (Verifying sends id timer) name out = put out 0 (check_query id name)
written_as Shared name out = out
written_as Off name out = out
written_as Unique name out = out
written_as (Defending id qtype qclass timer) name out = out
written_as (Stopped until) name out = out
