-- What a call leaves and sends, whole, and the table of states by events, in plain terms and the rules' numbers. It is shown in
-- proofs/States.antt (starts, queries and responses) and proofs/Times.antt (ticks and set-up).
use Rattle.std.specs.Prelude.{ℕ, ◌+◌, ◌-◌, ◌<◌, ◌≤◌, ◌≡◌, ◌≢◌, List, [], ◌∷◌, ◌++◌, Bool, true, false, length, take, drop, Some}
use Rattle.octets.specs.Addresses.{Below}
use Rattle.octets.specs.PlainAddresses.{GroupEndpoint, IsOf, nothing}
use Rattle.octets.specs.declared.Endpoint.{Endpoint}
use Rattle.octets.specs.declared.Address.{Address}
use Rattle.octets.specs.declared.Setting.{Setting}
use Rattle.refusal.specs.Numbers.{number}
use Rattle.name_table.specs.Check.{Held, good, check_table}
use Rattle.message.specs.declared.Question.{Question}
use Rattle.message.specs.Header.{header_of, header_at}
use Rattle.message.specs.Query.{query_with}
use Rattle.host.specs.State.{interface_of, setting_of, state_of, IsInterval, due_at}
use Rattle.host.specs.Outcomes.{CallResult, refused, quiet, kept, unique, shared, stopped, query, reply, Done}
use Rattle.host.specs.Laws.{Accepted, OnlyChanges}
use Rattle.host.specs.Receive.{Arrival}
use Rattle.host.specs.Stopping.{StopsUntil}
use Rattle.host.specs.Tick.{tick}
use Rattle.host.specs.declared.NameState.{NameState}
use Rattle.host.specs.declared.NameState.TheVariants.{Off, Verifying, Unique, Defending, Stopped, Shared}
use Rattle.host.specs.declared.Interface.{Interface}
use Rattle.host.specs.declared.Host.{Host}

-- ---- plain words

-- the interval of an interface in milliseconds: 100 if its setting says so, else 1,000
abbrev pub Interval : Host → ℕ → ℕ → Type 0
Interval h i n = IsInterval (setting_of h i) n

-- the group of an interface's family, 224.0.0.252 or FF02::1:3, at port 5355
abbrev pub Group : Host → ℕ → Endpoint → Type 0
Group h i e = GroupEndpoint (setting_of h i).family e

-- an address is one of the host's own
pub record Ours (h : Host) (x : Address) : Type 0 where
  pub interface : ℕ
  pub below : interface < 4
  pub same : IsOf (setting_of h interface) x

-- the host has a place for the k-th name of interface i
pub record Place (h : Host) (i k : ℕ) : Type 0 where
  pub interface : i < length h.interfaces
  pub name : k < length (interface_of h i).names

-- ---- what a call can come to

-- refused with a number: nothing changes, the clock neither, and nothing is sent
pub record Refuses (h : Host) (out : List ℕ) (n : ℕ) (d : Done) : Type 0 where
  pub result : d.result ≡ refused (number n)
  pub host : d.host ≡ h
  pub octets : d.octets ≡ out
  pub to : d.to ≡ nothing

-- taken, with no state changed and nothing sent
pub record Leaves (h : Host) (time : ℕ) (out : List ℕ) (r : CallResult) (d : Done) : Type 0 where
  pub result : d.result ≡ r
  pub states : d.host.interfaces ≡ h.interfaces
  pub clock : d.host.clock ≡ time
  pub octets : d.octets ≡ out
  pub to : d.to ≡ nothing

-- taken, with no state changed, and a reply to where the datagram came from: its ID, QR, C and T
pub record Replies (h : Host) (a : Arrival) (c t : Bool) (d : Done) : Type 0 where
  pub len : ℕ
  pub result : d.result ≡ reply len
  pub states : d.host.interfaces ≡ h.interfaces
  pub clock : d.host.clock ≡ a.time
  pub to : d.to ≡ a.from
  pub cut : Bool
  pub answers : ℕ
  pub header : header_at (take len d.octets)
      ≡ Some
      (record {
        id = (header_of a.datagram).id;
        response = true;
        opcode = 0;
        conflict = c;
        truncated = cut;
        tentative = t;
        rcode = 0;
        questions = 1;
        answers = answers;
        authorities = 0;
        additionals = 0;
      })

-- the k-th name of interface i is now in state s, and all else but the clock is as it was
pub record Moves (h : Host) (i k : ℕ) (s : NameState) (time : ℕ) (d : Done) : Type 0 where
  pub state : state_of d.host i k ≡ s
  pub others : OnlyChanges h d.host i k
  -- its interface's setting, its place, and how many names there are
  pub setting : setting_of d.host i ≡ setting_of h i
  pub place : Place d.host i k
  pub many : length (interface_of d.host i).names ≡ length (interface_of h i).names
  pub clock : d.host.clock ≡ time

-- so, with nothing sent
pub record Becomes (h : Host) (i k : ℕ) (s : NameState) (time : ℕ) (out : List ℕ) (r : CallResult) (d : Done) : Type 0 where
  pub moves : Moves h i k s time d
  pub result : d.result ≡ r
  pub octets : d.octets ≡ out
  pub to : d.to ≡ nothing

-- so, with these octets sent to the group as a query for that name; the rest of the buffer stays
pub record Asks (h : Host) (i k : ℕ) (s : NameState) (time : ℕ) (sent out : List ℕ) (d : Done) : Type 0 where
  pub moves : Moves h i k s time d
  pub result : d.result ≡ query k (length sent)
  pub octets : d.octets ≡ sent ++ drop (length sent) out
  pub to : Group h i d.to

-- the query of a check asks for a name, type 255, class 1
abbrev pub check_of : ℕ → List ℕ → List ℕ
check_of id name = query_with id (name ++ (0 ∷ 255 ∷ 0 ∷ 1 ∷ []))

-- ---- the table: starts, by the name's state before

-- a stopped name: before the time that it remembers it is 21, and then it is taken
pub record TriedAgain (h : Host) (out : List ℕ) (until time : ℕ) (d : Done) (taken : Type 0) : Type 0 where
  pub too_soon : time < until → Refuses h out 21 d
  pub then : until ≤ time → taken

-- kind 1, unique, with its octets in the table and an interval of n
abbrev pub UniqueStarts : Host → ℕ → ℕ → ℕ → ℕ → ℕ → List ℕ → List ℕ → NameState → Done → Type 0
UniqueStarts h i k n time id name out Off d = Asks h i k (Verifying 1 id (due_at (time + n))) time (check_of id name) out d
UniqueStarts h i k n time id name out (Verifying sends own timer) d = Refuses h out 19 d
UniqueStarts h i k n time id name out Unique d = Refuses h out 19 d
UniqueStarts h i k n time id name out (Defending own qtype class timer) d = Refuses h out 19 d
UniqueStarts h i k n time id name out (Stopped until) d =
    TriedAgain h out until time d (Asks h i k (Verifying 1 id (due_at (time + n))) time (check_of id name) out d)
UniqueStarts h i k n time id name out Shared d = Refuses h out 19 d

-- kind 2, shared
abbrev pub SharedStarts : Host → ℕ → ℕ → ℕ → List ℕ → NameState → Done → Type 0
SharedStarts h i k time out Off d = Becomes h i k Shared time out (shared k) d
SharedStarts h i k time out (Verifying sends own timer) d = Refuses h out 19 d
SharedStarts h i k time out Unique d = Refuses h out 19 d
SharedStarts h i k time out (Defending own qtype class timer) d = Refuses h out 19 d
SharedStarts h i k time out (Stopped until) d = TriedAgain h out until time d (Becomes h i k Shared time out (shared k) d)
SharedStarts h i k time out Shared d = Refuses h out 19 d

-- ---- queries for the k-th name

-- C clear: C of the reply is set while Shared, T while Verifying
abbrev pub ClearQuery : Host → Arrival → NameState → Done → Type 0
ClearQuery h a Off d = Refuses h a.out 12 d
ClearQuery h a (Verifying sends own timer) d = Replies h a false true d
ClearQuery h a Unique d = Replies h a false false d
ClearQuery h a (Defending own qtype class timer) d = Replies h a false false d
ClearQuery h a (Stopped until) d = Refuses h a.out 13 d
ClearQuery h a Shared d = Replies h a true false d

-- C set, the source none of our addresses, and an interval of n: while Unique the question goes out as received
abbrev pub Notification : Host → Arrival → Question → ℕ → ℕ → NameState → Done → Type 0
Notification h a q k n Off d = Refuses h a.out 12 d
Notification h a q k n (Verifying sends own timer) d = Refuses h a.out 14 d
Notification h a q k n Unique d =
    Asks h a.interface k (Defending a.id q.qtype q.class (due_at (a.time + n))) a.time
    (query_with a.id (take (q.end - 12) (drop 12 a.datagram))) a.out d
Notification h a q k n (Defending own qtype class timer) d = Refuses h a.out 14 d
Notification h a q k n (Stopped until) d = Refuses h a.out 13 d
Notification h a q k n Shared d = Refuses h a.out 14 d

-- C set, and the source one of our addresses
abbrev pub OwnNotification : Host → Arrival → NameState → Done → Type 0
OwnNotification h a Off d = Refuses h a.out 12 d
OwnNotification h a (Verifying sends own timer) d = Refuses h a.out 14 d
OwnNotification h a Unique d = Refuses h a.out 14 d
OwnNotification h a (Defending own qtype class timer) d = Refuses h a.out 14 d
OwnNotification h a (Stopped until) d = Refuses h a.out 13 d
OwnNotification h a Shared d = Refuses h a.out 14 d

-- ---- responses for the k-th name

-- with this ID, type and class
abbrev pub Matches : Arrival → Question → ℕ → ℕ → ℕ → Type 0
Matches a q id qtype class = ((header_of a.datagram).id ≡ id) × (q.qtype ≡ qtype) × (q.class ≡ class)

-- the source is below the interface's address, in the 4 or 16 octets of the family
pub data FromBelow (h : Host) (a : Arrival) : Type 0 where
  below_4 : (setting_of h a.interface).family ≡ 4 → Below (take 4 a.from.address.octets) (take 4 (setting_of h a.interface).address) → FromBelow h a
  below_6 : (setting_of h a.interface).family ≡ 6 → Below (take 16 a.from.address.octets) (take 16 (setting_of h a.interface).address) → FromBelow h a

-- the name stops, until the time that the response gives by ANCOUNT and what stands after its question q
pub record Stops (h : Host) (a : Arrival) (q : Question) (k : ℕ) (d : Done) : Type 0 where
  pub until : ℕ
  pub until_is : StopsUntil a.time (header_of a.datagram).answers a.datagram q.end until
  pub becomes : Becomes h a.interface k (Stopped until) a.time a.out (stopped k) d

abbrev pub Keeps : Host → Arrival → ℕ → Done → Type 0
Keeps h a k d = Leaves h a.time a.out (kept k) d

-- a response that a check waits for, from elsewhere, with T clear, and with T set: from below and not
pub record Taken (h : Host) (a : Arrival) (q : Question) (k : ℕ) (d : Done) : Type 0 where
  pub t_clear : (header_of a.datagram).tentative ≡ false → Stops h a q k d
  pub t_set_below : (header_of a.datagram).tentative ≡ true → FromBelow h a → Stops h a q k d
  pub t_set_else : (header_of a.datagram).tentative ≡ true → (FromBelow h a → ⊥) → Keeps h a k d

pub record Challenged (h : Host) (a : Arrival) (q : Question) (k : ℕ) (d : Done) : Type 0 where
  pub below : FromBelow h a → Stops h a q k d
  pub else : (FromBelow h a → ⊥) → Keeps h a k d

-- a check waits for what matches: 16 for our own address, 15 for any other response
pub record Waits (h : Host) (a : Arrival) (matches : Type 0) (d : Done) (taken : Type 0) : Type 0 where
  pub awaited : matches → (Ours h a.from.address → ⊥) → taken
  pub own : matches → Ours h a.from.address → Refuses h a.out 16 d
  pub else : (matches → ⊥) → Refuses h a.out 15 d

abbrev pub Response : Host → Arrival → Question → ℕ → NameState → Done → Type 0
Response h a q k Off d = Refuses h a.out 15 d
Response h a q k (Verifying sends own timer) d = Waits h a (Matches a q own 255 1) d (Taken h a q k d)
Response h a q k Unique d = Refuses h a.out 15 d
Response h a q k (Defending own qtype class timer) d = Waits h a (Matches a q own qtype class) d (Challenged h a q k d)
Response h a q k (Stopped until) d = Refuses h a.out 15 d
Response h a q k Shared d = Refuses h a.out 15 d

-- ---- ticks, with m names in the table and an interval of n

-- the timer of a name has run out
abbrev pub IsDue : NameState → ℕ → Type 0
IsDue Off time = ⊥
IsDue (Verifying sends id timer) time = timer.due ≤ time
IsDue Unique time = ⊥
IsDue (Defending id qtype class timer) time = timer.due ≤ time
IsDue (Stopped until) time = ⊥
IsDue Shared time = ⊥

-- no name before the k-th is due; none but the k-th
abbrev pub First : Host → ℕ → ℕ → ℕ → Type 0
First h i k time = (j : ℕ) → j < k → IsDue (state_of h i j) time → ⊥

abbrev pub Alone : Host → ℕ → ℕ → ℕ → ℕ → Type 0
Alone h i k m time = (j : ℕ) → j < m → j ≢ k → IsDue (state_of h i j) time → ⊥

pub record VerifyingTicks (h : Host) (i k m n time : ℕ) (name out : List ℕ) (sends id due : ℕ) (d : Done) : Type 0 where
  pub before : time < due → Alone h i k m time → Leaves h time out quiet d
  pub again : due ≤ time → sends < 3 → Asks h i k (Verifying (sends + 1) id (due_at (time + n))) time (check_of id name) out d
  pub then : due ≤ time → 3 ≤ sends → Becomes h i k Unique time out (unique k) d

pub record DefendingTicks (h : Host) (i k m time : ℕ) (out : List ℕ) (due : ℕ) (d : Done) : Type 0 where
  pub before : time < due → Alone h i k m time → Leaves h time out quiet d
  pub then : due ≤ time → Becomes h i k Unique time out (unique k) d

-- where no name before the k-th is due
abbrev pub Ticks : Host → ℕ → ℕ → ℕ → ℕ → ℕ → List ℕ → List ℕ → NameState → Done → Type 0
Ticks h i k m n time name out Off d = Alone h i k m time → Leaves h time out quiet d
Ticks h i k m n time name out (Verifying sends id timer) d = VerifyingTicks h i k m n time name out sends id timer.due d
Ticks h i k m n time name out Unique d = Alone h i k m time → Leaves h time out quiet d
Ticks h i k m n time name out (Defending id qtype class timer) d = DefendingTicks h i k m time out timer.due d
Ticks h i k m n time name out (Stopped until) d = Alone h i k m time → Leaves h time out quiet d
Ticks h i k m n time name out Shared d = Alone h i k m time → Leaves h time out quiet d

-- ---- a check that is due exactly n after its last send

pub data WaitsUntil (due : ℕ) : NameState → Type 0 where
  verifying : (sends id : ℕ) → WaitsUntil due (Verifying sends id (due_at due))
  defending : (id qtype class : ℕ) → WaitsUntil due (Defending id qtype class (due_at due))

-- a tick has served the k-th name: its query again, or Unique
pub data Serves (k : ℕ) : CallResult → Type 0 where
  asks_again : (len : ℕ) → Serves k (query k len)
  settles : Serves k (unique k)

-- the call d at the time `sent` has sent a query for the k-th name: a tick that is accepted is quiet up to the millisecond before
-- sent + n, if no other name is due, and serves this one from then on, if none before it is
pub record DueExactly (table : List ℕ) (names : List Held) (i k n sent : ℕ) (d : Done) : Type 0 where
  pub quiet_before : (time id : ℕ) (out : List ℕ) → check_table table ≡ good names → Accepted (tick d.host table i time id out)
      → Alone d.host i k (length names) time → time + 1 ≤ sent + n → Leaves d.host time out quiet (tick d.host table i time id out)
  pub serves_then : (time id : ℕ) (out : List ℕ) → check_table table ≡ good names → Accepted (tick d.host table i time id out)
      → First d.host i k time → sent + n ≤ time → Serves k (tick d.host table i time id out).result

-- ---- set-up

-- an interface with its setting, and its eight names Off
abbrev pub fresh : Setting → Interface
fresh s =
    let off : NameState = Off in
    record { setting = s; names = off ∷ off ∷ off ∷ off ∷ off ∷ off ∷ off ∷ off ∷ [] }

abbrev pub host_of : Setting → Setting → Setting → Setting → ℕ → Host
host_of s t u v time = record { interfaces = fresh s ∷ fresh t ∷ fresh u ∷ fresh v ∷ []; clock = time }
