-- One owner of a name on a link, the statement: rules H of docs/RULES.md. In quotation marks: what the customer asked for, in its words, where
-- the hall is a link; checking is verifying; to hold the name is to own it; what a copy of a host tells is observed by a probe.
use Rattle.std.specs.Prelude.{ℕ, zero, suc, ◌+◌, ◌%◌, ◌≤◌, ◌<◌, max, ◌≡◌, ◌≢◌, ◌⊎◌, Bool, true, false, cond, not, get_or, take, length, eqb}
use mathlib.Core.List.{List, [], ◌∷◌, ◌++◌, map, Memᴰ}
use Rattle.host.specs.Bounds.{room as room_octets, latest as latest_time}
use Rattle.octets.specs.Octets.{Octets}
use Rattle.octets.specs.declared.Address.{Address}
use Rattle.octets.specs.declared.Endpoint.{Endpoint}
use Rattle.octets.specs.declared.Setting.{Setting}
use Rattle.octets.specs.Addresses.{same_address, group_of, unused}
use Rattle.refusal.specs.Numbers.{number_in}
use Rattle.names.specs.Names.{Labels, IsName, encode}
use Rattle.names.specs.Folding.{folded_name}
use Rattle.name_table.specs.Check.{Held, good, no_name, check_table}
use Rattle.name_table.specs.Entries.{GoodTable}
use Rattle.host.specs.declared.Host.{Host}
use Rattle.host.specs.Outcomes.{Done, CallResult, ready}
use Rattle.host.specs.SetUp.{set_up}
use Rattle.host.specs.Asking.{check_query}
use Rattle.host.specs.Start.{start}
use Rattle.host.specs.Tick.{tick}
use Rattle.host.specs.Receive.{receive}

-- 1. THE HOSTS ON A LINK

-- the values that a setting can have
pub record SettingFits (s : Setting) : Type 0 where
  pub family : s.family < 256
  pub long : length s.address ≡ 16
  pub octets : Octets s.address
  pub interval : s.interval < 65536

-- what stays the same of one host
pub record Station : Type 0 where
  pub table : List ℕ
  pub settings : List Setting
  -- the interface that it uses, and the name's number in its table
  pub interface : ℕ
  pub name : ℕ
  -- its set-up's time and ID
  pub time : ℕ
  pub id : ℕ

abbrev pub setting_of : Station → ℕ → Setting
setting_of s i = get_or s.settings i unused

-- the hosts are numbered below count
pub record Link : Type 0 where
  pub count : ℕ
  pub station : ℕ → Station
  pub family : ℕ
  pub interval : ℕ
  pub name : List ℕ

abbrev pub address_of : Link → ℕ → Address
address_of L k = record { family = L.family; octets = (setting_of (L.station k) (L.station k).interface).address }

-- a value for each host, with that of host k replaced
abbrev pub update : {A : Type 0} → (ℕ → A) → ℕ → A → ℕ → A
update f k a j = cond (eqb j k) a (f j)

-- 2. CALLS, AND WHAT THEY SEND

-- what each call is lent: an ID, and a buffer ("room in every buffer")
pub record Lent : Type 0 where
  pub id : ℕ
  pub id_fits : id < 65536
  pub out : List ℕ
  pub out_fits : Octets out
  pub room : room_octets ≤ length out

-- an element of the list: "its host, interface, ID and a time .., a start its name number too"
pub data Request : Type 0 where
  starts : ℕ → Request
  ticks : Request

pub record Call : Type 0 where
  pub host : ℕ
  pub request : Request
  pub interface : ℕ
  pub time : ℕ
  pub lent : Lent

-- what an outcome is on the link: a refusal with its number, a query or a reply of so many octets, or nothing sent
pub data Sort : Type 0 where
  refused query reply : ℕ → Sort
  silent : Sort

abbrev pub sort : CallResult → Sort
sort (CallResult.refused t) = refused (number_in t)
sort CallResult.ready = silent
sort CallResult.quiet = silent
sort (CallResult.kept k) = silent
sort (CallResult.unique k) = silent
sort (CallResult.shared k) = silent
sort (CallResult.stopped k) = silent
sort (CallResult.query k len) = query len
sort (CallResult.reply len) = reply len

abbrev pub sort_of : Done → Sort
sort_of d = sort d.result

-- the octets sent: the first of the buffer, as many as the outcome says
abbrev pub sent_length : Sort → ℕ
sent_length (refused n) = 0
sent_length (query len) = len
sent_length (reply len) = len
sent_length silent = 0

abbrev pub sent : Done → List ℕ
sent d = take (sent_length (sort_of d)) d.octets

-- the hosts below a number that pass a test
unfoldable pub those : (ℕ → Bool) → ℕ → List ℕ
those test zero = []
those test (suc n) = cond (test n) (n ∷ those test n) (those test n)

abbrev pub has_address : Link → Address → ℕ → Bool
has_address L a k = same_address a (address_of L k)

-- "a query to every other host's receive, each reply to the asker's": to the host with the address that the outcome names
abbrev pub receivers : Link → ℕ → Sort → Address → List ℕ
receivers L h (refused n) to = []
receivers L h (query len) to = those (λ k. not (eqb k h)) L.count
receivers L h (reply len) to = those (has_address L to) L.count
receivers L h silent to = []

-- "a copy" on its way from one host to another, with the destination that the sender's outcome names
pub record Datagram : Type 0 where
  pub sender : ℕ
  pub receiver : ℕ
  pub to : Endpoint
  pub octets : List ℕ

abbrev pub datagrams : Link → ℕ → Done → List Datagram
datagrams L h d =
    map (λ k. record { sender = h; receiver = k; to = d.to; octets = sent d }) (receivers L h (sort_of d) d.to.address)

-- a receive's own inputs: "from its address and any port", "each receive with any ID of its own"
pub record Receipt : Type 0 where
  pub port : ℕ
  pub port_fits : port < 65536
  pub lent : Lent

-- 3. THE LINK BETWEEN TWO CALLS

pub record Moment : Type 0 where
  pub hosts : ℕ → Host
  -- the latest time
  pub time : ℕ
  -- the hosts whose start was accepted, the last one first
  pub started : List ℕ
  -- when each host's call in the list last sent a query
  pub queried : ℕ → ℕ

abbrev pub is_refused : Sort → Bool
is_refused (refused n) = true
is_refused (query len) = false
is_refused (reply len) = false
is_refused silent = false

abbrev pub is_query : Sort → Bool
is_query (refused n) = false
is_query (query len) = true
is_query (reply len) = false
is_query silent = false

abbrev pub started_after : Request → Sort → ℕ → List ℕ → List ℕ
started_after (starts name) o h hs = cond (is_refused o) hs (h ∷ hs)
started_after ticks o h hs = hs

-- after the call c with an outcome of that sort, once all is delivered
abbrev pub after : Moment → Call → Sort → (ℕ → Host) → Moment
after m c o hosts = record {
  hosts = hosts;
  time = c.time;
  started = started_after c.request o c.host m.started;
  queried = cond (is_query o) (update m.queried c.host c.time) m.queried;
}

-- "no later than the list's first time": the list begins at the latest set-up
unfoldable pub latest : (ℕ → Station) → ℕ → ℕ
latest s zero = 0
latest s (suc n) = max (latest s n) (s n).time

-- 4. WHAT A PROBE OBSERVES

-- "12 is Off, T set checking, T clear holding, 13 stopped"; anything else is other
pub data Observed : Type 0 where
  off verifying owning stopped other : Observed

abbrev pub of_number : ℕ → Observed
of_number n = cond (eqb n 12) off (cond (eqb n 13) stopped other)

-- T is the lowest bit of a message's third octet
abbrev pub of_reply : List ℕ → Observed
of_reply octets = cond (eqb (get_or octets 2 0 % 2) 1) verifying owning

abbrev pub of_sort : Sort → List ℕ → Observed
of_sort (refused n) octets = of_number n
of_sort (query len) octets = other
of_sort (reply len) octets = of_reply octets
of_sort silent octets = other

-- 5. RULES FOR A LIST. Is m k x: host k is observed at m to be x

-- "all are started after it and none is still checking"
pub record Settled (L : Link) (Is : Moment → ℕ → Observed → Type 0) (m : Moment) : Type 0 where
  pub started : (k : ℕ) → k < L.count → ¬ (Is m k off)
  pub finished : (k : ℕ) → k < L.count → ¬ (Is m k verifying)

-- rules for the order of accepted starts: none; and "the holder first and each other host once the one before isn't checking any more"
abbrev pub AnyOrder : Moment → ℕ → Type 0
AnyOrder m h = Unit {0}

pub record OneByOne (Is : Moment → ℕ → Observed → Type 0) (owner : ℕ) (m : Moment) (h : ℕ) : Type 0 where
  pub first : m.started ≡ [] → h ≡ owner
  pub next : (l : ℕ) (ls : List ℕ) → m.started ≡ l ∷ ls → ¬ (Is m l verifying)

-- "A host has at most one accepted start, of the name": for a call of host h, refused or not
abbrev pub StartRule : (Moment → ℕ → Type 0) → Link → Moment → ℕ → Request → Bool → Type 0
StartRule Order L m h (starts name) false = (name ≡ (L.station h).name) × (¬ (Memᴰ h m.started)) × Order m h
StartRule Order L m h (starts name) true = Unit {0}
StartRule Order L m h ticks b = Unit {0}

-- 6. THE CONDITIONS OF THE ORDER

-- the k-th name of the table is a unique one, and has these octets
pub record UniqueName (table : List ℕ) (k : ℕ) (octets : List ℕ) : Type 0 where
  pub names : List Held
  pub read : check_table table ≡ good names
  pub inside : k < length names
  pub kind : (get_or names k no_name).kind ≡ 1
  pub is : (get_or names k no_name).octets ≡ octets

-- the octets x and y are names, and equal after folding
pub record SameName (x y : List ℕ) : Type 0 where
  pub first : Labels
  pub second : Labels
  pub first_name : IsName first
  pub second_name : IsName second
  pub first_octets : x ≡ encode first
  pub second_octets : y ≡ encode second
  pub equal : folded_name first ≡ folded_name second

pub record OnLink (L : Link) (s : Station) : Type 0 where
  -- "one unchanging good table"
  pub table_fits : Octets s.table
  pub good : GoodTable s.table
  -- "the same unique name", in a spelling of its own
  pub spelling : List ℕ
  pub unique : UniqueName s.table s.name spelling
  pub same : SameName spelling L.name
  -- "each using one interface": the others have any family but 4 and 6
  pub four : length s.settings ≡ 4
  pub fits : (i : ℕ) → i < 4 → SettingFits (setting_of s i)
  pub used : s.interface < 4
  pub unused : (i : ℕ) → i < 4 → i ≢ s.interface → ((setting_of s i).family ≢ 4) × ((setting_of s i).family ≢ 6)
  -- "addresses of one family", "one repeat interval"
  pub family : (setting_of s s.interface).family ≡ L.family
  pub interval : (setting_of s s.interface).interval ≡ L.interval
  -- "Every set-up is accepted"
  pub id_fits : s.id < 65536
  pub ready : (set_up s.table s.settings s.time s.id).result ≡ ready

pub record Conditions (L : Link) : Type 0 where
  -- "any number of hosts, at least one, on one link"
  pub some : 0 < L.count
  pub family : (L.family ≡ 4) ⊎ (L.family ≡ 6)
  pub stations : (k : ℕ) → k < L.count → OnLink L (L.station k)
  -- "addresses of one family that differ in the octets it uses"
  pub apart : (j k : ℕ) → j < L.count → k < L.count → j ≢ k → same_address (address_of L j) (address_of L k) ≡ false

-- 7. MAKING A CALL, AND DELIVERING WHAT IT SENDS

abbrev pub answer : Request → Host → List ℕ → ℕ → ℕ → Lent → Done
answer (starts name) h table i time x = start h table i name time x.id x.out
answer ticks h table i time x = tick h table i time x.id x.out

-- a call "gets the state that its host's last call left"
abbrev pub result : Link → (ℕ → Host) → Call → Done
result L hosts c = answer c.request (hosts c.host) (L.station c.host).table c.interface c.time c.lent

-- a copy is received "on the receiver's used interface", from the sender's address
abbrev pub received : Link → ℕ → Host → Datagram → Receipt → Done
received L time h p x =
    receive h
    (record {
      table = (L.station p.receiver).table;
      interface = (L.station p.receiver).interface;
      from = record { address = address_of L p.sender; port = x.port };
      to = p.to.address;
      datagram = p.octets;
      time = time;
      id = x.lent.id;
      out = x.lent.out;
    })

-- all copies are received, and those that this sends, "in any order, all at that time"
pub data Delivered (L : Link) (time : ℕ) : (ℕ → Host) → List Datagram → (ℕ → Host) → Type 0 where
  none : {hosts : ℕ → Host} → Delivered L time hosts [] hosts
  next : {hosts end : ℕ → Host} (l r : List Datagram) (p : Datagram) (x : Receipt)
      → Delivered L time (update hosts p.receiver (received L time (hosts p.receiver) p x).host)
      (l ++ (datagrams L p.receiver (received L time (hosts p.receiver) p x) ++ r)) end
      → Delivered L time hosts (l ++ (p ∷ r)) end

-- 8. PROBES

-- "a start's query for the name", in any spelling and with any ID, "from any address of the family", at a time within the clock's range
pub record Probe (L : Link) : Type 0 where
  pub time : ℕ
  pub in_range : time ≤ latest_time
  pub spelling : List ℕ
  pub same : SameName spelling L.name
  pub id : ℕ
  pub id_fits : id < 65536
  pub source : List ℕ
  pub source_long : length source ≡ 16
  pub source_fits : Octets source
  pub receipt : Receipt

-- it is received by a copy of host k "on its used interface"
abbrev pub probed : (L : Link) → Moment → ℕ → Probe L → Done
probed L m k p =
    receive (m.hosts k)
    (record {
      table = (L.station k).table;
      interface = (L.station k).interface;
      from = record { address = record { family = L.family; octets = p.source }; port = p.receipt.port };
      to = group_of L.family;
      datagram = check_query p.id p.spelling;
      time = p.time;
      id = p.receipt.lent.id;
      out = p.receipt.lent.out;
    })

abbrev pub observed : (L : Link) → Moment → ℕ → Probe L → Observed
observed L m k p = of_sort (sort_of (probed L m k p)) (sent (probed L m k p))

-- "at the latest time", or at any after it. A list that is given need keep the rules only as far as every probe agrees; the list that
-- exists keeps them whichever probe is taken.
abbrev pub EveryProbe : (L : Link) → Moment → ℕ → Observed → Type 0
EveryProbe L m k x = (p : Probe L) → m.time ≤ p.time → observed L m k p ≡ x

abbrev pub SomeProbe : (L : Link) → Moment → ℕ → Observed → Type 0
SomeProbe L m k x = (p : Probe L) × (m.time ≤ p.time) × (observed L m k p ≡ x)

-- 9. LISTS

-- the rules for one call
pub record Keeps (L : Link) (Is : Moment → ℕ → Observed → Type 0) (Order : Moment → ℕ → Type 0) (m : Moment) (c : Call) : Type 0 where
  pub host : c.host < L.count
  -- "a time within the clock's range", "a common clock that never goes back"
  pub in_range : c.time ≤ latest_time
  pub forward : m.time ≤ c.time
  -- "A checking host is due an interval after its last query; the clock doesn't pass that before its accepted tick in that millisecond"
  pub due : (k : ℕ) → k < L.count → Is m k verifying → c.time ≤ m.queried k + L.interval
  pub start : StartRule Order L m c.host c.request (is_refused (sort_of (result L m.hosts c)))

-- a list of calls leads from one moment to another; what a call sends "goes out .. in the same step, before the list goes on"
pub data Run (L : Link) (Is : Moment → ℕ → Observed → Type 0) (Order : Moment → ℕ → Type 0) : Moment → List Call → Moment → Type 0 where
  empty : {m : Moment} → Run L Is Order m [] m
  then : {m end : Moment} {cs : List Call} (c : Call) (hosts : ℕ → Host)
      → Keeps L Is Order m c
      → Delivered L c.time (update m.hosts c.host (result L m.hosts c).host) (datagrams L c.host (result L m.hosts c)) hosts
      → Run L Is Order (after m c (sort_of (result L m.hosts c)) hosts) cs end
      → Run L Is Order m (c ∷ cs) end

-- "They are fresh from set-up"
abbrev pub fresh : Station → Host
fresh s = (set_up s.table s.settings s.time s.id).host

abbrev pub first : Link → Moment
first L = record { hosts = λ k. fresh (L.station k); time = latest L.station L.count; started = []; queried = λ k. 0 }

-- 10. The claim

-- what holds at the end m of a list
pub record OneOwner (L : Link) (m : Moment) : Type 0 where
  -- "exactly one holds the name and all others have stopped"
  pub owner : ℕ
  pub on_link : owner < L.count
  pub owns : EveryProbe L m owner owning
  pub others : (k : ℕ) → k < L.count → k ≢ owner → EveryProbe L m k stopped
  pub only : (k : ℕ) → k < L.count → SomeProbe L m k owning → k ≡ owner
  -- "the same after every list from the same set-ups that starts the holder first .. and that ends with all started and none checking"
  pub same : (cs : List Call) (end : Moment) → Run L (EveryProbe L) (OneByOne (EveryProbe L) owner) (first L) cs end → Settled L (EveryProbe L) end
      → (k : ℕ) → k < L.count → (p q : Probe L) → end.time ≤ p.time → m.time ≤ q.time → observed L end k p ≡ observed L m k q
  -- "such a list exists"
  pub calls : List Call
  pub end : Moment
  pub run : Run L (SomeProbe L) (OneByOne (SomeProbe L) owner) (first L) calls end
  pub settled : Settled L (SomeProbe L) end
  -- and there is a probe to speak of
  pub probe : Probe L
  pub not_early : m.time ≤ probe.time

-- a list that starts host w first, one by one, and ends with w owning the name
pub record Owned (L : Link) (w : ℕ) : Type 0 where
  pub calls : List Call
  pub end : Moment
  pub run : Run L (SomeProbe L) (OneByOne (SomeProbe L) w) (first L) calls end
  pub settled : Settled L (SomeProbe L) end
  pub owns : EveryProbe L end w owning

-- for every link that meets the conditions
pub record Uniqueness (L : Link) : Type 0 where
  -- "For every list of their starts and ticks .. if all are started after it and none is still checking"
  pub one_owner : (cs : List Call) (m : Moment) → Run L (EveryProbe L) AnyOrder (first L) cs m → Settled L (EveryProbe L) m → OneOwner L m
  -- this is not empty: no list gets stuck, for after every list a call that keeps the rules can be made and all that it sends delivered;
  pub goes_on : (cs : List Call) (m : Moment) → Run L (EveryProbe L) AnyOrder (first L) cs m → (c : Call) → Keeps L (EveryProbe L) AnyOrder m c
      → (hosts : ℕ → Host)
      × Delivered L c.time (update m.hosts c.host (result L m.hosts c).host) (datagrams L c.host (result L m.hosts c)) hosts
  -- and each host can be the owner, where three intervals are left of the clock's range
  pub attained : latest L.station L.count + L.interval + L.interval + L.interval ≤ latest_time → (w : ℕ) → w < L.count → Owned L w

abbrev pub Demand3 : Type 0
Demand3 = (L : Link) → Conditions L → Uniqueness L
