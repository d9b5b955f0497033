-- Exactly when a reply goes out, a defence goes out, a name stops, a response is kept, and when 12, 13, 15 and 16 are given: document
-- 01's conditions, one by one. They speak of octets, entries of the table, addresses, states and times. What each gives is shown in
-- proofs/Received.antt, and that the first three are exact, both ways, in proofs/ExactlyWhen.antt.
use Rattle.std.specs.Prelude.{ℕ, ◌+◌, ◌<◌, ◌≤◌, ◌≡◌, ◌≢◌, ◌⊎◌, List, Bool, true, false, length, Some, None}
use Rattle.octets.specs.Bounds.{interfaces, ipv4, ipv6}
use Rattle.octets.specs.Octets.{part_of}
use Rattle.octets.specs.Addresses.{is_group, address_of, below_address}
use Rattle.octets.specs.declared.Address.{Address}
use Rattle.name_table.specs.Check.{Held, good, check_table, find_name}
use Rattle.message.specs.Bounds.{header_octets, class_in, type_any}
use Rattle.message.specs.declared.Question.{Question}
use Rattle.message.specs.Header.{header_of}
use Rattle.message.specs.Question.{question_at}
use Rattle.host.specs.Bounds.{any_class, room as room_octets, latest as latest_time, shortest as shortest_datagram, longest as longest_datagram}
use Rattle.host.specs.State.{setting_of, is_own, state_of, HasStopped}
use Rattle.host.specs.Outcomes.{Done, query, reply}
use Rattle.host.specs.Receive.{Arrival}
use Rattle.host.specs.declared.NameState.{NameState}
use Rattle.host.specs.declared.NameState.TheVariants.{Off, Verifying, Unique, Defending, Stopped, Shared}
use Rattle.host.specs.declared.Host.{Host}

-- ---- What is common to calls, to datagrams, to queries and to responses.

-- an interface is used: it has a family
abbrev pub IsUsed : Host → ℕ → Type 0
IsUsed h i = ((setting_of h i).family ≡ ipv4) ⊎ ((setting_of h i).family ≡ ipv6)

-- What every call after set-up needs: a buffer of 512 octets, a good table, a used interface, and a time that is neither above 2^48 - 1
-- nor before the last accepted one.
pub record CalledWell (h : Host) (table : List ℕ) (i time : ℕ) (out : List ℕ) (names : List Held) : Type 0 where
  pub room : room_octets ≤ length out
  -- the table is good, and these are its names
  pub good_table : check_table table ≡ good names
  pub interface : i < interfaces
  pub used : IsUsed h i
  pub latest : time ≤ latest_time
  pub in_order : h.clock ≤ time

-- What every datagram has that gets as far as its name, query or response: it asks the question q.
pub record ArrivesWell (h : Host) (a : Arrival) (names : List Held) (q : Question) : Type 0 where
  pub called : CalledWell h a.table a.interface a.time a.out names
  pub shortest : shortest_datagram ≤ length a.datagram
  pub longest : length a.datagram ≤ longest_datagram
  -- both addresses are of the interface's family
  pub from_family : a.from.address.family ≡ (setting_of h a.interface).family
  pub to_family : a.to.family ≡ (setting_of h a.interface).family
  pub opcode : (header_of a.datagram).opcode ≡ 0
  -- QDCOUNT
  pub one_question : (header_of a.datagram).questions ≡ 1
  -- it stands after the header
  pub question : question_at a.datagram header_octets ≡ Some q

-- And a query besides.
pub record QueryArrives (h : Host) (a : Arrival) (names : List Held) (q : Question) : Type 0 where
  pub arrives : ArrivesWell h a names q
  -- QR clear
  pub is_query : (header_of a.datagram).response ≡ false
  pub to_group : is_group a.to ≡ true
  -- ANCOUNT and NSCOUNT
  pub no_answers : (header_of a.datagram).answers ≡ 0
  pub no_authorities : (header_of a.datagram).authorities ≡ 0
  -- Internet, or any
  pub class : (q.class ≡ class_in) ⊎ (q.class ≡ any_class)

-- And a response.
pub record ResponseArrives (h : Host) (a : Arrival) (names : List Held) (q : Question) : Type 0 where
  pub arrives : ArrivesWell h a names q
  -- QR set
  pub is_response : (header_of a.datagram).response ≡ true
  pub not_to_group : is_group a.to ≡ false
  pub rcode : (header_of a.datagram).rcode ≡ 0

-- the question's name is the k-th of these names; it is none of them
abbrev pub AsksFor : Arrival → List Held → Question → ℕ → Type 0
AsksFor a names q k = find_name names (part_of a.datagram header_octets (header_octets + q.name)) ≡ Some k

abbrev pub AsksForNone : Arrival → List Held → Question → Type 0
AsksForNone a names q = find_name names (part_of a.datagram header_octets (header_octets + q.name)) ≡ None

-- the state of the k-th name where the datagram arrived
abbrev pub state_here : Host → Arrival → ℕ → NameState
state_here h a k = state_of h a.interface k

-- ---- A reply goes out.

pub record Replies (d : Done) : Type 0 where
  pub len : ℕ
  pub gives : d.result ≡ reply len

-- C is clear, and the name is neither Off nor Stopped on this interface.
pub record RepliesWhen (h : Host) (a : Arrival) : Type 0 where
  pub names : List Held
  pub q : Question
  pub k : ℕ
  pub query : QueryArrives h a names q
  pub name : AsksFor a names q k
  pub c_clear : (header_of a.datagram).conflict ≡ false
  pub not_off : state_here h a k ≢ Off
  pub not_stopped : HasStopped (state_here h a k) → ⊥

-- ---- A defence goes out: a query for the k-th name.

pub record Asks (k : ℕ) (d : Done) : Type 0 where
  pub len : ℕ
  pub gives : d.result ≡ query k len

-- C is set, the name is Unique on this interface, and the source is none of our addresses.
pub record DefendsWhen (h : Host) (a : Arrival) (k : ℕ) : Type 0 where
  pub names : List Held
  pub q : Question
  pub query : QueryArrives h a names q
  pub name : AsksFor a names q k
  pub c_set : (header_of a.datagram).conflict ≡ true
  pub unique : state_here h a k ≡ Unique
  pub not_ours : is_own h a.from.address ≡ false

-- ---- A name stops, or a response is kept.

-- A name waits for a response with an ID, a type and a class: those of the query that it sent. While Verifying that was type 255, class 1.
abbrev pub WaitsFor : NameState → ℕ → ℕ → ℕ → Type 0
WaitsFor (Verifying sends own timer) id qtype class = (id ≡ own) × (qtype ≡ type_any) × (class ≡ class_in)
WaitsFor (Defending own own_type own_class timer) id qtype class = (id ≡ own) × (qtype ≡ own_type) × (class ≡ own_class)
WaitsFor Off id qtype class = ⊥
WaitsFor Unique id qtype class = ⊥
WaitsFor (Stopped until) id qtype class = ⊥
WaitsFor Shared id qtype class = ⊥

abbrev pub IsAwaited : Host → Arrival → Question → ℕ → Type 0
IsAwaited h a q k = WaitsFor (state_here h a k) (header_of a.datagram).id q.qtype q.class

-- A response takes the name from us, by its T bit, its source and our address. While Verifying: T is clear, or the source is below our
-- address. While Defending T is not read.
abbrev pub TakenBy : NameState → Bool → Address → Address → Type 0
TakenBy (Verifying sends own timer) t from ours = (t ≡ false) ⊎ (below_address from ours ≡ true)
TakenBy (Defending own own_type own_class timer) t from ours = below_address from ours ≡ true
TakenBy Off t from ours = ⊥
TakenBy Unique t from ours = ⊥
TakenBy (Stopped until) t from ours = ⊥
TakenBy Shared t from ours = ⊥

abbrev pub IsTaken : Host → Arrival → ℕ → Type 0
IsTaken h a k =
    TakenBy (state_here h a k) (header_of a.datagram).tentative a.from.address (address_of (setting_of h a.interface))

-- A response to the check of the k-th name, from elsewhere.
pub record MatchArrives (h : Host) (a : Arrival) (names : List Held) (q : Question) (k : ℕ) : Type 0 where
  pub response : ResponseArrives h a names q
  pub name : AsksFor a names q k
  pub awaited : IsAwaited h a q k
  pub not_ours : is_own h a.from.address ≡ false

pub record StopsWhen (h : Host) (a : Arrival) (k : ℕ) : Type 0 where
  pub names : List Held
  pub q : Question
  pub match : MatchArrives h a names q k
  pub taken : IsTaken h a k

pub record KeepsWhen (h : Host) (a : Arrival) (k : ℕ) : Type 0 where
  pub names : List Held
  pub q : Question
  pub match : MatchArrives h a names q k
  pub not_taken : IsTaken h a k → ⊥

-- ---- Refusals that depend on the name.

-- 12: the name is not in the table, or off on this interface.
pub record NotOursWhen (h : Host) (a : Arrival) : Type 0 where
  pub names : List Held
  pub q : Question
  pub query : QueryArrives h a names q
  pub none : AsksForNone a names q ⊎ ((k : ℕ) × AsksFor a names q k × (state_here h a k ≡ Off))

-- 13: the name has stopped here.
pub record StoppedWhen (h : Host) (a : Arrival) : Type 0 where
  pub names : List Held
  pub q : Question
  pub k : ℕ
  pub query : QueryArrives h a names q
  pub name : AsksFor a names q k
  pub stopped : HasStopped (state_here h a k)

-- 15: no check waits here for this ID and question.
pub record UnmatchedWhen (h : Host) (a : Arrival) : Type 0 where
  pub names : List Held
  pub q : Question
  pub response : ResponseArrives h a names q
  pub none : AsksForNone a names q ⊎ ((k : ℕ) × AsksFor a names q k × (IsAwaited h a q k → ⊥))

-- 16: the response is awaited, and its source is one of our addresses.
pub record OwnWhen (h : Host) (a : Arrival) : Type 0 where
  pub names : List Held
  pub q : Question
  pub k : ℕ
  pub response : ResponseArrives h a names q
  pub name : AsksFor a names q k
  pub awaited : IsAwaited h a q k
  pub ours : is_own h a.from.address ≡ true
