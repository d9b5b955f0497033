-- Start of a name: 1 to 4, 12, 19, 21. A shared name becomes Shared, with nothing sent. A unique name sends a query and becomes Verifying.
use Rattle.std.specs.Prelude.{ℕ, List, Bool, false, cond, not, length, ltb, leb}
use Rattle.octets.specs.Tests.{◌or◌}
use Rattle.refusal.specs.Numbers.{number}
use Rattle.refusal.specs.Checks.{Checks, fail, pass, Verdict, refused, passed, verdict}
use Rattle.name_table.specs.Kinds.{kind_of, is_shared_kind}
use Rattle.name_table.specs.Check.{check_table, names_in, name_in}
use Rattle.host.specs.State.{setting_of, state_of, off, stopped, is, with_state, timer_from}
use Rattle.host.specs.Outcomes.{Done, refusal, silent, shared as shared_name}
use Rattle.host.specs.Early.{early}
use Rattle.host.specs.Asking.{check_query, asking}
use Rattle.host.specs.declared.NameState.{NameState}
use Rattle.host.specs.declared.NameState.TheVariants.{Off, Verifying, Unique, Defending, Stopped, Shared}
use Rattle.host.specs.declared.Host.{Host}

-- a name is idle if it is Off or Stopped
abbrev pub is_idle : NameState → Bool
is_idle state = is off state or is stopped state

-- a stopped name is started before the time that it remembers
abbrev pub is_too_soon : NameState → ℕ → Bool
is_too_soon Off time = false
is_too_soon (Verifying sends id timer) time = false
is_too_soon Unique time = false
is_too_soon (Defending id qtype qclass timer) time = false
is_too_soon (Stopped until) time = ltb time until
is_too_soon Shared time = false

-- 12: no name has this number; 19: the name is started already; 21: it has stopped, and it is too soon to try it again
abbrev pub name_checks : Host → List ℕ → ℕ → ℕ → ℕ → Checks
name_checks h table i k time =
    fail (leb (length (names_in (check_table table))) k) (number 12)
    (fail (not (is_idle (state_of h i k))) (number 19)
    (fail (is_too_soon (state_of h i k) time) (number 21)
    pass))

abbrev pub start_checks : Host → List ℕ → ℕ → ℕ → ℕ → List ℕ → Checks
start_checks h table i k time out = early h table i time out (name_checks h table i k time)

-- the table's kind of a name decides at a start, and only there
abbrev pub started : Host → List ℕ → ℕ → ℕ → ℕ → ℕ → List ℕ → Done
started h table i k time id out =
    cond (is_shared_kind (kind_of (name_in table k).kind))
    (silent (with_state h i k Shared time) out (shared_name k))
    (asking (with_state h i k (Verifying 1 id (timer_from (setting_of h i) time)) time) (setting_of h i) k
    (check_query id (name_in table k).octets) out)

abbrev pub start_if : Verdict → Host → List ℕ → ℕ → ℕ → ℕ → ℕ → List ℕ → Done
start_if (refused t) h table i k time id out = refusal h out t
start_if passed h table i k time id out = started h table i k time id out

-- state, table, interface, name number, time, ID, buffer
unfoldable pub start : Host → List ℕ → ℕ → ℕ → ℕ → ℕ → List ℕ → Done
start h table i k time id out = start_if (verdict (start_checks h table i k time out)) h table i k time id out
