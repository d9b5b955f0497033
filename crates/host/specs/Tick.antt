-- Tick of an interface: 1 to 4; then it serves the lowest-numbered name of the table that is due, one per call.
use Rattle.std.specs.Prelude.{ℕ, zero, suc, ◌+◌, List, Bool, false, cond, length, get_or, ltb, leb}
use Rattle.refusal.specs.Checks.{pass, Verdict, refused, passed, verdict}
use Rattle.name_table.specs.Check.{check_table, names_in, name_in}
use Rattle.host.specs.Bounds.{sends_in_all}
use Rattle.host.specs.State.{off_name, interface_of, setting_of, state_of, with_clock, with_state, timer_from}
use Rattle.host.specs.Outcomes.{Done, refusal, silent, quiet, unique as unique_name}
use Rattle.host.specs.Early.{early}
use Rattle.host.specs.Asking.{check_query, asking}
use Rattle.host.specs.declared.NameState.{NameState}
use Rattle.host.specs.declared.NameState.TheVariants.{Off, Verifying, Unique, Defending, Stopped, Shared}
use Rattle.host.specs.declared.Host.{Host}

-- due ≤ time
abbrev pub is_due : NameState → ℕ → Bool
is_due Off time = false
is_due (Verifying sends id timer) time = leb timer.due time
is_due Unique time = false
is_due (Defending id qtype qclass timer) time = leb timer.due time
is_due (Stopped until) time = false
is_due Shared time = false

pub data Due : Type 0 where
  due : ℕ → Due
  none : Due

-- the first of n names from the k-th on that is due
unfoldable pub due_from : ℕ → List NameState → ℕ → ℕ → Due
due_from zero names k time = none
due_from (suc n) names k time =
    cond (is_due (get_or names k off_name) time) (due k) (due_from n names (k + 1) time)

-- Verifying below 3 sends: the same query again with its first ID, from the table's present name; at 3 sends Unique. Defending: Unique.
-- (The other states are never due.)
abbrev pub now_unique : Host → ℕ → ℕ → ℕ → List ℕ → Done
now_unique h i k time out = silent (with_state h i k Unique time) out (unique_name k)

abbrev pub serve : NameState → Host → List ℕ → ℕ → ℕ → ℕ → List ℕ → Done
serve (Verifying sends id timer) h table i k time out =
    cond (ltb sends sends_in_all)
    (asking (with_state h i k (Verifying (sends + 1) id (timer_from (setting_of h i) time)) time) (setting_of h i) k
    (check_query id (name_in table k).octets) out)
    (now_unique h i k time out)
serve (Defending id qtype qclass timer) h table i k time out = now_unique h i k time out
serve Off h table i k time out = now_unique h i k time out
serve Unique h table i k time out = now_unique h i k time out
serve (Stopped until) h table i k time out = now_unique h i k time out
serve Shared h table i k time out = now_unique h i k time out

abbrev pub serve_due : Due → Host → List ℕ → ℕ → ℕ → List ℕ → Done
serve_due (due k) h table i time out = serve (state_of h i k) h table i k time out
serve_due none h table i time out = silent (with_clock h time) out quiet

abbrev pub tick_if : Verdict → Host → List ℕ → ℕ → ℕ → List ℕ → Done
tick_if (refused t) h table i time out = refusal h out t
tick_if passed h table i time out =
    serve_due (due_from (length (names_in (check_table table))) (interface_of h i).names 0 time) h table i time out

-- state, table, interface, time, ID, buffer; the ID is not used, since a repeat carries the first one
unfoldable pub tick : Host → List ℕ → ℕ → ℕ → ℕ → List ℕ → Done
tick h table i time id out = tick_if (verdict (early h table i time out pass)) h table i time out
