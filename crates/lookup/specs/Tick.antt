-- Tick of a lookup: 1, 4; then its query is repeated, or it ends, if it is due.
use Rattle.std.specs.Prelude.{ℕ, ◌+◌, List, cond, length, ltb, leb}
use Rattle.refusal.specs.Numbers.{number}
use Rattle.refusal.specs.Checks.{Checks, fail, pass, Verdict, refused, passed, verdict}
use Rattle.host.specs.Bounds.{sends_in_all}
use Rattle.host.specs.State.{timer_from}
use Rattle.host.specs.Early.{no_room, bad_clock}
use Rattle.lookup.specs.State.{setting_of, name_of, phase_of, with_phase, with_clock}
use Rattle.lookup.specs.Outcomes.{Done, refusal, silent, quiet, collected, no_such_name, query_for, asking}
use Rattle.lookup.specs.declared.Phase.{Phase}
use Rattle.lookup.specs.declared.Phase.TheVariants.{Asking, Collecting, Ended}
use Rattle.lookup.specs.declared.Lookup.{Lookup}

abbrev pub tick_checks : Lookup → ℕ → List ℕ → Checks
tick_checks l time out =
    fail (no_room (length out)) (number 1)
    (fail (bad_clock l.clock time) (number 4)
    pass)

-- what a tick calls for: nothing; the query once more, after so many sends; no such name; as found, after what was collected
pub data Turn : Type 0 where
  rest give_up finish : Turn
  again : ℕ → Turn

-- Due ≤ time. Asking below 3 sends: again; at 3 sends: no such name. Collecting: as found. An ended lookup is quiet.
abbrev pub turn_of : Phase → ℕ → Turn
turn_of (Asking sends timer) time = cond (leb timer.due time) (cond (ltb sends sends_in_all) (again sends) give_up) rest
turn_of (Collecting timer) time = cond (leb timer.due time) finish rest
turn_of Ended time = rest

-- a repeat has the same octets, and is due again an interval after this call
abbrev pub turned : Turn → Lookup → ℕ → List ℕ → Done
turned rest l time out = silent (with_clock l time) out quiet
turned (again sends) l time out =
    asking (with_phase l (Asking (sends + 1) (timer_from (setting_of l) time)) time) (query_for l.id (name_of l) l.qtype) out
turned give_up l time out = silent (with_phase l Ended time) out no_such_name
turned finish l time out = silent (with_phase l Ended time) out collected

abbrev pub tick_if : Verdict → Lookup → ℕ → List ℕ → Done
tick_if (refused t) l time out = refusal l out t
tick_if passed l time out = turned (turn_of (phase_of l) time) l time out

-- state, time, ID, buffer; the ID is not used, since a repeat carries the first one
unfoldable pub tick : Lookup → ℕ → ℕ → List ℕ → Done
tick l time id out = tick_if (verdict (tick_checks l time out)) l time out
