-- A lookup as a flat struct, and back; and what a call of a lookup gives in C.
use Rattle.std.specs.Prelude.{ℕ, List, cond, eqb, Result, Ok, Err}
use Rattle.refusal.specs.Numbers.{report_of}
use Rattle.refusal.specs.declared.Refusal.{Refusal}
use Rattle.host.specs.Outcomes.{nowhere}
use Rattle.host.specs.State.{due_at}
use Rattle.lookup.specs.declared.Phase.{Phase}
use Rattle.lookup.specs.declared.Phase.TheVariants.{Asking, Collecting, Ended}
use Rattle.lookup.specs.declared.Lookup.{Lookup}
use Rattle.octets.specs.declared.Endpoint.{Endpoint}
use Rattle.lookup.specs.Outcomes.{Done, CallResult, query}
use Rattle.querier.specs.declared.Sent.{Sent}
use Rattle.llmnr_c.specs.Numbers.{phase_ended, phase_asking, phase_collecting}
use Rattle.llmnr_c.specs.Outcomes.{flat_refusal, flat_lookup_outcome}
use Rattle.llmnr_c.specs.declared.flat_lookup.FlatLookup.{FlatLookup}
use Rattle.llmnr_c.specs.declared.flat_lookup.FlatLookupStart.{FlatLookupStart}
use Rattle.llmnr_c.specs.declared.flat_lookup.FlatLookupStep.{FlatLookupStep}

-- the phase that numbers stand for; any other number is Ended
abbrev pub phase_of : ℕ → ℕ → ℕ → Phase
phase_of phase sends due =
    cond (eqb phase phase_asking) (Asking sends (due_at due))
    (cond (eqb phase phase_collecting) (Collecting (due_at due))
    Ended)

abbrev pub lookup_of : FlatLookup → Lookup
lookup_of f =
    record {
      settings = f.settings;
      interface = f.interface;
      name = f.name;
      len = f.len;
      qtype = f.qtype;
      id = f.id;
      clock = f.clock;
      phase = phase_of f.phase f.sends f.due;
    }

-- and back: the number of a phase, and its data; all else is zero
abbrev pub phase_number : Phase → ℕ
phase_number (Asking sends timer) = phase_asking
phase_number (Collecting timer) = phase_collecting
phase_number Ended = phase_ended

abbrev pub sends_in : Phase → ℕ
sends_in (Asking sends timer) = sends
sends_in (Collecting timer) = 0
sends_in Ended = 0

abbrev pub due_in : Phase → ℕ
due_in (Asking sends timer) = timer.due
due_in (Collecting timer) = timer.due
due_in Ended = 0

abbrev pub flat_lookup : Lookup → FlatLookup
flat_lookup l =
    record {
      settings = l.settings;
      interface = l.interface;
      name = l.name;
      len = l.len;
      qtype = l.qtype;
      id = l.id;
      clock = l.clock;
      phase = phase_number l.phase;
      sends = sends_in l.phase;
      due = due_in l.phase;
    }

-- ---- what a call gives

-- a start: the whole lookup, with every octet of the lent buffer
pub record StartDone : Type 0 where
  pub start : FlatLookupStart
  pub octets : List ℕ

abbrev pub started : FlatLookupStart → List ℕ → StartDone
started s out = record { start = s; octets = out }

abbrev pub start_of : Done → StartDone
start_of d =
    record {
      start = record { lookup = flat_lookup d.lookup; outcome = flat_lookup_outcome d.result; to = d.to };
      octets = d.octets;
    }

-- what the code's start gives, of the lookup that it leaves
abbrev pub flat_start : Lookup → Result Sent Refusal → FlatLookupStart
flat_start l (Ok s) = record { lookup = flat_lookup l; outcome = flat_lookup_outcome (query s.len); to = s.to }
flat_start l (Err why) = record { lookup = flat_lookup l; outcome = flat_refusal (report_of why); to = nowhere }

-- a later call: the clock and the phase of the lookup, since what it asks, and where, never changes
pub record StepDone : Type 0 where
  pub step : FlatLookupStep
  pub octets : List ℕ

abbrev pub done : FlatLookupStep → List ℕ → StepDone
done s out = record { step = s; octets = out }

abbrev pub flat_step : Lookup → CallResult → Endpoint → FlatLookupStep
flat_step l r to =
    record {
      clock = l.clock;
      due = due_in l.phase;
      outcome = flat_lookup_outcome r;
      to = to;
      phase = phase_number l.phase;
      sends = sends_in l.phase;
    }

abbrev pub step_of : Done → StepDone
step_of d = record { step = flat_step d.lookup d.result d.to; octets = d.octets }

-- taking a step into the lookup that it was made of: `llmnr_lookup_take` of the header
abbrev pub take_step : FlatLookup → FlatLookupStep → FlatLookup
take_step f s =
    record {
      settings = f.settings;
      interface = f.interface;
      name = f.name;
      len = f.len;
      qtype = f.qtype;
      id = f.id;
      clock = s.clock;
      phase = s.phase;
      sends = s.sends;
      due = s.due;
    }
