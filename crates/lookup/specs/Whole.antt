-- Each call, whole and in plain terms: what a result d of it is, with the rules' own numbers and without the definition of the call.
-- That the call gives such a result, and that no other result is such, is shown in proofs/Whole.antt.
use Rattle.std.specs.Prelude.{ℕ, ◌+◌, ◌≡◌, ◌↔◌, List, Bool, get_or, take}
use Rattle.octets.specs.Addresses.{unused}
use Rattle.octets.specs.PlainAddresses.{nothing}
use Rattle.octets.specs.declared.Setting.{Setting}
use Rattle.refusal.specs.Numbers.{Report}
use Rattle.refusal.specs.Cases.{Case, First}
use Rattle.message.specs.declared.Question.{Question}
use Rattle.message.specs.Header.{header_of}
use Rattle.host.specs.State.{IsInterval, due_at}
use Rattle.host.specs.declared.Timer.{Timer}
use Rattle.lookup.specs.State.{setting_of, with_phase}
use Rattle.lookup.specs.Outcomes.{refused, quiet, part, found, collected, no_such_name, Done}
use Rattle.lookup.specs.Receive.{Arrival}
use Rattle.lookup.specs.Refusals.{start_cases, receive_cases, tick_cases}
use Rattle.lookup.specs.ExactlyWhen.{lookup_query, Comes, Asks, StartsWhen, begun, zero_lookup, FoundWhen, PartWhen, RepeatsWhen, GivesUpWhen, FinishesWhen, QuietWhen}
use Rattle.lookup.specs.declared.Phase.TheVariants.{Asking, Collecting, Ended}
use Rattle.lookup.specs.declared.Lookup.{Lookup}

-- A call is refused exactly as its list of numbers and conditions says. Then the lookup is l, its clock too, every octet of the buffer is as
-- it was, and nothing is sent.
pub record RefusedExactly (l : Lookup) (out : List ℕ) (cases : List Case) (d : Done) : Type 0 where
  pub exactly : (t : Report) → (d.result ≡ refused t) ↔ First t cases
  pub nothing_else : (t : Report) → d.result ≡ refused t → d ≡ record { lookup = l; result = refused t; to = nothing; octets = out }

-- A start, with the call's ID. A refusal gives an ended lookup on an unused interface, all else zero. Otherwise the query goes out to the group,
-- and the lookup is due an interval of n from now.
pub record PlainStart (settings : List Setting) (i : ℕ) (name : List ℕ) (qtype : ℕ) (permission : Bool) (time id : ℕ) (out : List ℕ) (d : Done) : Type 0 where
  pub refusals : RefusedExactly zero_lookup out (start_cases settings i name permission time out) d
  pub accepted : StartsWhen settings i name permission time out → (n : ℕ) → IsInterval (get_or settings i unused) n
      → Asks (begun settings i name qtype time id n) (lookup_query id name qtype) out d

-- A datagram that arrives. With C clear the lookup ends; with C set it collects. Both hand out the offset after the question and ANCOUNT.
pub record PlainReceive (l : Lookup) (a : Arrival) (d : Done) : Type 0 where
  pub refusals : RefusedExactly l a.out (receive_cases l a) d
  pub clear_response : (q : Question) → FoundWhen l a q → Comes l Ended a.time a.out (found q.end (header_of a.datagram).answers) d
  pub set_response : (q : Question) (timer : Timer) → PartWhen l a q timer
      → Comes l (Collecting timer) a.time a.out (part q.end (header_of a.datagram).answers) d

-- A tick: the same query once more, due an interval of n from now; no such name; as found; or quiet.
pub record PlainTick (l : Lookup) (time : ℕ) (out : List ℕ) (d : Done) : Type 0 where
  pub refusals : RefusedExactly l out (tick_cases l time out) d
  pub repeats : (sends n : ℕ) → RepeatsWhen l time out sends → IsInterval (setting_of l) n
      → Asks (with_phase l (Asking (sends + 1) (due_at (time + n))) time) (lookup_query l.id (take l.len l.name) l.qtype) out d
  pub gives_up : GivesUpWhen l time out → Comes l Ended time out no_such_name d
  pub finishes : FinishesWhen l time out → Comes l Ended time out collected d
  pub rests : QuietWhen l time out → Comes l l.phase time out quiet d
