-- Each call, whole and in plain terms: what a result d of it is, with the rules' own numbers and without the definition of the call. That
-- the call gives such a result, and that no other result is such, is shown in proofs/WholeStart.antt (set-up and start),
-- proofs/WholeTick.antt and proofs/WholeReceive.antt.
use Rattle.std.specs.Prelude.{ℕ, ◌+◌, ◌-◌, ◌<◌, ◌≡◌, ◌↔◌, List, [], ◌∷◌, true, false, length, get_or, take, drop, Some}
use Rattle.octets.specs.PlainAddresses.{nothing}
use Rattle.octets.specs.declared.Setting.{Setting}
use Rattle.refusal.specs.Numbers.{Report}
use Rattle.refusal.specs.Cases.{Case, First}
use Rattle.name_table.specs.Check.{Held, good, no_name, check_table}
use Rattle.name_table.specs.Entries.{GoodTable}
use Rattle.message.specs.declared.Question.{Question}
use Rattle.message.specs.Header.{header_of}
use Rattle.message.specs.Question.{question_at}
use Rattle.message.specs.Query.{query_with}
use Rattle.host.specs.State.{interface_of, state_of, due_at, zeros}
use Rattle.host.specs.Outcomes.{refused, ready, quiet, shared, Done}
use Rattle.host.specs.Laws.{Accepted}
use Rattle.host.specs.Receive.{Arrival}
use Rattle.host.specs.declared.NameState.{NameState}
use Rattle.host.specs.declared.NameState.TheVariants.{Off, Verifying, Unique, Defending, Stopped, Shared}
use Rattle.host.specs.declared.Host.{Host}
use Rattle.witness.specs.Refusals.{IsFor, set_up_cases, start_cases, tick_cases, receive_cases}
use Rattle.witness.specs.Replies.{ReplyFrom}
use Rattle.witness.specs.States.{Interval, Leaves, Becomes, Asks, check_of, Taken, Challenged, IsDue, First as NoneBefore, Ticks, host_of}

-- A host as it is in the code: four interfaces with eight names each.
pub record Full (h : Host) : Type 0 where
  pub four : length h.interfaces ≡ 4
  pub eight : (i : ℕ) → i < 4 → length (interface_of h i).names ≡ 8

-- A call is refused exactly as its list of numbers and conditions says. Then the state is h, its clock too, every octet of the buffer is
-- as it was, and nothing is sent.
pub record RefusedExactly (h : Host) (out : List ℕ) (cases : List Case) (d : Done) : Type 0 where
  pub exactly : (t : Report) → (d.result ≡ refused t) ↔ First t cases
  pub nothing_else : (t : Report) → d.result ≡ refused t → d ≡ record { host = h; result = refused t; to = nothing; octets = out }

-- Set-up with four settings. A refusal leaves four unused interfaces, all else zero, and no buffer. Otherwise it is ready: the settings as
-- given, every name Off, the clock at the call's time.
pub record PlainSetUp (table : List ℕ) (s t u v : Setting) (time : ℕ) (d : Done) : Type 0 where
  pub refusals : RefusedExactly (host_of zeros zeros zeros zeros 0) [] (set_up_cases table (s ∷ t ∷ u ∷ v ∷ []) time) d
  pub accepted : Accepted d → d ≡ record { host = host_of s t u v time; result = ready; to = nothing; octets = [] }

-- A start of the k-th name of the table, with the call's ID. Kind 1, unique: its query goes out to the group, and it is Verifying with one
-- send, due an interval of n from now. Kind 2, shared: it is Shared, and nothing is sent.
pub record PlainStart (h : Host) (table : List ℕ) (i k time id : ℕ) (out : List ℕ) (d : Done) : Type 0 where
  pub refusals : RefusedExactly h out (start_cases h table i k time out) d
  pub unique_name : Accepted d → (names : List Held) → check_table table ≡ good names → (get_or names k no_name).kind ≡ 1
      → (n : ℕ) → Interval h i n → Asks h i k (Verifying 1 id (due_at (time + n))) time (check_of id (get_or names k no_name).octets) out d
  pub shared_name : Accepted d → (names : List Held) → check_table table ≡ good names → (get_or names k no_name).kind ≡ 2
      → Becomes h i k Shared time out (shared k) d

-- A tick of interface i. It is quiet if no name of the table is due. Otherwise it serves the lowest-numbered one that is, by its state: the
-- row of specs/States.antt.
pub record PlainTick (h : Host) (table : List ℕ) (i time : ℕ) (out : List ℕ) (d : Done) : Type 0 where
  pub refusals : RefusedExactly h out (tick_cases h table i time out) d
  pub none_due : Accepted d → (names : List Held) → check_table table ≡ good names
      → ((j : ℕ) → j < length names → IsDue (state_of h i j) time → ⊥) → Leaves h time out quiet d
  pub serves : Accepted d → (names : List Held) → check_table table ≡ good names → (k : ℕ) → k < length names → NoneBefore h i k time
      → (n : ℕ) → Interval h i n → Ticks h i k (length names) n time (get_or names k no_name).octets out (state_of h i k) d

-- The table is good, the question q stands after the datagram's header, and it asks for the k-th of the table's names.
pub record ForName (a : Arrival) (names : List Held) (q : Question) (k : ℕ) : Type 0 where
  pub good_table : check_table a.table ≡ good names
  pub question : question_at a.datagram 12 ≡ Some q
  pub name : IsFor a names q k

-- An accepted response with the question q, by the state of its name: the name is stopped or the response kept, as specs/States.antt says for a name that is
-- Verifying and for one that is Defending. No other name waits for a response.
abbrev pub Heard : Host → Arrival → Question → ℕ → NameState → Done → Type 0
Heard h a q k Off d = ⊥
Heard h a q k (Verifying sends own timer) d = Taken h a q k d
Heard h a q k Unique d = ⊥
Heard h a q k (Defending own qtype class timer) d = Challenged h a q k d
Heard h a q k (Stopped until) d = ⊥
Heard h a q k Shared d = ⊥

-- A datagram that arrives. A query with C clear gets the whole reply, with the records that the table's entries have for the name. On one
-- with C set the question goes out as it was received, with the call's ID, and the name is Defending, due an interval of n from now. A
-- response is heard by the state of the name.
pub record PlainReceive (h : Host) (a : Arrival) (d : Done) : Type 0 where
  pub refusals : RefusedExactly h a.out (receive_cases h a) d
  pub clear_query : Accepted d → (header_of a.datagram).response ≡ false → (header_of a.datagram).conflict ≡ false
      → (names : List Held) (q : Question) (k : ℕ) → ForName a names q k → (t : GoodTable a.table) → ReplyFrom h a q k t.entries d
  pub notification : Accepted d → (header_of a.datagram).response ≡ false → (header_of a.datagram).conflict ≡ true
      → (names : List Held) (q : Question) (k : ℕ) → ForName a names q k → (n : ℕ) → Interval h a.interface n
      → Asks h a.interface k (Defending a.id q.qtype q.class (due_at (a.time + n))) a.time
      (query_with a.id (take (q.end - 12) (drop 12 a.datagram))) a.out d
  pub response : Accepted d → (header_of a.datagram).response ≡ true
      → (names : List Held) (q : Question) (k : ℕ) → ForName a names q k → Heard h a q k (state_of h a.interface k) d
