-- Exactly when a query goes out, a lookup is found, is a part of what is collected, ends with no such name, ends as found, or is quiet:
-- the conditions of rules A, one by one, with their own numbers; and what each then gives, whole. That they are exact, both ways, is shown in
-- proofs/Started.antt, proofs/Received.antt and proofs/Ticked.antt.
use Rattle.std.specs.Prelude.{ℕ, ◌+◌, ◌/◌, ◌%◌, ◌<◌, ◌≤◌, ◌≡◌, ◌⊎◌, List, [], ◌∷◌, ◌++◌, Bool, true, false, length, get_or, drop, replicate}
use Rattle.octets.specs.Addresses.{unused}
use Rattle.octets.specs.PlainAddresses.{IsGroup, IsOneOfOurs, GroupEndpoint, nothing}
use Rattle.octets.specs.declared.Setting.{Setting}
use Rattle.message.specs.declared.Question.{Question}
use Rattle.message.specs.declared.ResourceRecord.{ResourceRecord}
use Rattle.message.specs.Header.{header_of}
use Rattle.message.specs.Question.{IsQuestion}
use Rattle.message.specs.Query.{query_with}
use Rattle.message.specs.Records.{AreRecords}
use Rattle.host.specs.State.{due_at, zeros}
use Rattle.host.specs.declared.Timer.{Timer}
use Rattle.lookup.specs.State.{setting_of, with_phase}
use Rattle.lookup.specs.Outcomes.{CallResult, query, Done}
use Rattle.lookup.specs.Receive.{Arrival}
use Rattle.lookup.specs.Refusals.{IsToLookUp, IsReverse, HasSeveral, IsAwaited}
use Rattle.lookup.specs.declared.Phase.{Phase}
use Rattle.lookup.specs.declared.Phase.TheVariants.{Asking, Collecting, Ended}
use Rattle.lookup.specs.declared.Lookup.{Lookup}

-- ---- plain words

-- an interface is used: it has one of the four numbers, and family 4 or 6
pub record IsUsed (i : ℕ) (s : Setting) : Type 0 where
  pub number : i < 4
  pub family : (s.family ≡ 4) ⊎ (s.family ≡ 6)

-- the query of a lookup: its ID, flags 0, one question and nothing else; the name and the type as given, class 1
abbrev pub lookup_query : ℕ → List ℕ → ℕ → List ℕ
lookup_query id name qtype = query_with id (name ++ (qtype / 256 ∷ qtype % 256 ∷ 0 ∷ 1 ∷ []))

-- ---- what a call gives

-- nothing is sent: the lookup is in this phase, the clock at the call's time, all else as it was, and so is the buffer
abbrev pub Comes : Lookup → Phase → ℕ → List ℕ → CallResult → Done → Type 0
Comes l phase time out r d = d ≡ record { lookup = with_phase l phase time; result = r; to = nothing; octets = out }

-- a query goes out to the group, at the front of the buffer; the octets after it stay
pub record Asks (l : Lookup) (sent out : List ℕ) (d : Done) : Type 0 where
  pub lookup : d.lookup ≡ l
  pub result : d.result ≡ query (length sent)
  pub to : GroupEndpoint (setting_of l).family d.to
  pub octets : d.octets ≡ sent ++ drop (length sent) out

-- ---- Start.

-- It is taken, and its query goes out.
pub record StartsWhen (settings : List Setting) (i : ℕ) (name : List ℕ) (permission : Bool) (time : ℕ) (out : List ℕ) : Type 0 where
  pub room : 512 ≤ length out
  pub used : IsUsed i (get_or settings i unused)
  pub latest : time ≤ 281474976710655
  pub name_is : IsToLookUp name
  -- it has one label, or the start has the permission, or it is a reverse name
  pub may_ask : (length name_is.name < 2) ⊎ (permission ≡ true) ⊎ IsReverse name_is.name

-- It is refused with 22: all else is well, but the name has two or more labels, there is no permission, and for no list of at least one label
-- is the folded name that list and then in-addr, arpa or ip6, arpa (HasSeveral, IsReverse).
pub record BarredWhen (settings : List Setting) (i : ℕ) (name : List ℕ) (permission : Bool) (time : ℕ) (out : List ℕ) : Type 0 where
  pub room : 512 ≤ length out
  pub used : IsUsed i (get_or settings i unused)
  pub latest : time ≤ 281474976710655
  pub name_is : IsToLookUp name
  pub several : HasSeveral permission name_is.name

-- A lookup that has just been started, with an interval of n: sent once, due an interval from now. Its name fills the front of an array of
-- 255 octets, the rest of which is zero.
abbrev pub begun : List Setting → ℕ → List ℕ → ℕ → ℕ → ℕ → ℕ → Lookup
begun settings i name qtype time id n =
    record {
      settings = settings;
      interface = i;
      name = name ++ drop (length name) (replicate 255 0);
      len = length name;
      qtype = qtype;
      id = id;
      clock = time;
      phase = Asking 1 (due_at (time + n));
    }

-- What a refused start gives: an ended lookup, four unused interfaces, all else zero.
abbrev pub zero_lookup : Lookup
zero_lookup =
    record {
      settings = zeros ∷ zeros ∷ zeros ∷ zeros ∷ [];
      interface = 0;
      name = replicate 255 0;
      len = 0;
      qtype = 0;
      id = 0;
      clock = 0;
      phase = Ended;
    }

-- ---- Receive.

-- A response that the lookup waits for is heard: its question is q.
pub record HearsWhen (l : Lookup) (a : Arrival) (q : Question) : Type 0 where
  pub room : 512 ≤ length a.out
  pub used : IsUsed l.interface (setting_of l)
  pub latest : a.time ≤ 281474976710655
  pub in_order : l.clock ≤ a.time
  pub shortest : 12 ≤ length a.datagram
  pub longest : length a.datagram ≤ 9194
  -- QR set
  pub is_response : (header_of a.datagram).response ≡ true
  -- both addresses are of the interface's family, and it was not sent to the group
  pub from_family : a.from.address.family ≡ (setting_of l).family
  pub to_family : a.to.family ≡ (setting_of l).family
  pub not_to_group : IsGroup a.to → ⊥
  pub opcode : (header_of a.datagram).opcode ≡ 0
  pub rcode : (header_of a.datagram).rcode ≡ 0
  -- QDCOUNT
  pub one_question : (header_of a.datagram).questions ≡ 1
  pub question : IsQuestion a.datagram 12 q
  pub awaited : IsAwaited l a q
  pub not_ours : IsOneOfOurs l.settings a.from.address → ⊥
  pub t_clear : (header_of a.datagram).tentative ≡ false
  -- ANCOUNT records stand after the question
  pub records : List ResourceRecord
  pub end : ℕ
  pub are_records : AreRecords a.datagram q.end records end
  pub as_many : length records ≡ (header_of a.datagram).answers

-- a lookup in a phase waits with a timer
pub data Waiting : Phase → Timer → Type 0 where
  asking : (sends : ℕ) (timer : Timer) → Waiting (Asking sends timer) timer
  collecting : (timer : Timer) → Waiting (Collecting timer) timer

-- C clear: it ends at once.
pub record FoundWhen (l : Lookup) (a : Arrival) (q : Question) : Type 0 where
  pub hears : HearsWhen l a q
  pub c_clear : (header_of a.datagram).conflict ≡ false

-- C set: it collects, and its timer stays as it was.
pub record PartWhen (l : Lookup) (a : Arrival) (q : Question) (timer : Timer) : Type 0 where
  pub hears : HearsWhen l a q
  pub c_set : (header_of a.datagram).conflict ≡ true
  pub waiting : Waiting l.phase timer

-- ---- Tick.

-- It is taken.
pub record TicksWhen (l : Lookup) (time : ℕ) (out : List ℕ) : Type 0 where
  pub room : 512 ≤ length out
  pub latest : time ≤ 281474976710655
  pub in_order : l.clock ≤ time

-- the time of a lookup in a phase has come
abbrev pub DueBy : Phase → ℕ → Type 0
DueBy (Asking sends timer) time = timer.due ≤ time
DueBy (Collecting timer) time = timer.due ≤ time
DueBy Ended time = ⊥

-- It asks on a used interface, is due, and has sent its query less than three times: it is sent again.
pub record RepeatsWhen (l : Lookup) (time : ℕ) (out : List ℕ) (sends : ℕ) : Type 0 where
  pub ticks : TicksWhen l time out
  pub used : IsUsed l.interface (setting_of l)
  pub timer : Timer
  pub phase : l.phase ≡ Asking sends timer
  pub due : timer.due ≤ time
  pub few : sends < 3

-- Three times or more: there is no such name.
pub record GivesUpWhen (l : Lookup) (time : ℕ) (out : List ℕ) : Type 0 where
  pub ticks : TicksWhen l time out
  pub used : IsUsed l.interface (setting_of l)
  pub sends : ℕ
  pub timer : Timer
  pub phase : l.phase ≡ Asking sends timer
  pub due : timer.due ≤ time
  pub all_sent : 3 ≤ sends

-- It collects and is due: it ends as found.
pub record FinishesWhen (l : Lookup) (time : ℕ) (out : List ℕ) : Type 0 where
  pub ticks : TicksWhen l time out
  pub used : IsUsed l.interface (setting_of l)
  pub timer : Timer
  pub phase : l.phase ≡ Collecting timer
  pub due : timer.due ≤ time

-- Nothing is due: it has ended, or is on an unused interface, or its time has not come.
pub record QuietWhen (l : Lookup) (time : ℕ) (out : List ℕ) : Type 0 where
  pub ticks : TicksWhen l time out
  pub none : IsUsed l.interface (setting_of l) → DueBy l.phase time → ⊥
