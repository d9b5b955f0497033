-- What the theorem needs of the calls' definitions, as facts about explicit hosts. The claim follows from them (Theorem/Attained); that they
-- hold, from the laws of the crate host alone, is shown in the files below: Met collects them.
-- Every state here is one that a host of the link can have: set up, all names Off but the one, and that one in a given state.
use Rattle.std.proofs.Common.{ℕ, suc, ◌+◌, ◌%◌, ◌≤◌, ◌<◌, ◌≡◌, refl, ap, ◌≢◌, Bool, true, false, cond, List, map, get_or, set, take, length, replicate}
use Rattle.name_table.specs.Bounds.{most_names}
use Rattle.host.specs.Bounds.{latest as latest_time, sends_in_all}
use Rattle.octets.specs.Bounds.{used_by6, llmnr_port}
use Rattle.octets.specs.Octets.{Octets}
use Rattle.octets.specs.declared.Address.{Address}
use Rattle.octets.specs.declared.Endpoint.{Endpoint}
use Rattle.octets.specs.declared.Setting.{Setting}
use Rattle.octets.specs.Addresses.{same_address, below_address, group_of}
use Rattle.refusal.specs.Numbers.{Report, number, number_in}
use Rattle.host.specs.declared.NameState.{NameState}
use Rattle.host.specs.declared.NameState.TheVariants.{Off, Verifying, Defending}
use Rattle.host.specs.declared.NameState.TheVariants.{Unique as IsUnique, Stopped as HasStopped}
use Rattle.host.specs.declared.Interface.{Interface}
use Rattle.host.specs.declared.Host.{Host}
use Rattle.host.specs.State.{off_name}
use Rattle.host.specs.Outcomes.{Done, refusal, CallResult, refused as Refused, quiet as Quiet, kept as Kept, query as Query, reply as Reply, unique as Unique, stopped as Stopped}
use Rattle.host.specs.SetUp.{set_up}
use Rattle.host.specs.Asking.{check_query}
use Rattle.host.specs.Start.{start}
use Rattle.host.specs.Tick.{tick}
use Rattle.host.specs.Receive.{Arrival, receive}
use Rattle.uniqueness.specs.Link.{Station, setting_of, Link, Lent, Receipt, SameName, OnLink, Conditions}
pub mod HostWith
pub mod Stations
pub mod Called
pub mod Messages
pub mod Start
pub mod Tick
pub mod Arrivals
pub mod Queries
pub mod Replies
pub mod Met

abbrev pub top : ℕ
top = latest_time

-- a host of station s whose name is in state x, and its clock at t
abbrev pub unstarted : Setting → Interface
unstarted s = record { setting = s; names = replicate most_names off_name }

abbrev pub in_use : Station → NameState → Interface
in_use s x = record { setting = setting_of s s.interface; names = set (replicate most_names off_name) s.name x }

unfoldable pub host_with : Station → NameState → ℕ → Host
host_with s x t = record { interfaces = set (map unstarted s.settings) s.interface (in_use s x); clock = t }

abbrev pub verifying : ℕ → ℕ → ℕ → NameState
verifying sends id due = Verifying sends id (record { due = due })

-- a query for the name went out, with that ID, and the host is in that state
pub record Asked (L : Link) (spelling : List ℕ) (id : ℕ) (h : Host) (d : Done) : Type 0 where
  pub host : d.host ≡ h
  pub name : ℕ
  pub len : ℕ
  pub outcome : d.result ≡ Query name len
  pub to : d.to ≡ record { address = group_of L.family; port = llmnr_port }
  pub octets : take len d.octets ≡ check_query id spelling

-- a reply went out to where the query came from
pub record Replied (Reads : List ℕ → Type 0) (from : Endpoint) (h : Host) (d : Done) : Type 0 where
  pub host : d.host ≡ h
  pub len : ℕ
  pub outcome : d.result ≡ Reply len
  pub to : d.to ≡ from
  pub octets : Reads (take len d.octets)

-- refused, with a number; the state is h as before
pub record RefusedWith (n : ℕ) (h : Host) (d : Done) : Type 0 where
  pub host : d.host ≡ h
  pub why : Report
  pub outcome : d.result ≡ Refused why
  pub is : number_in why ≡ n

pub refused_with : (n : ℕ) (h : Host) (out : List ℕ) (d : Done) → d ≡ refusal h out (number n) → RefusedWith n h d
refused_with n h out d e = record { host = ap (λ (x : Done). x.host) e; why = number n; outcome = ap (λ (x : Done). x.result) e; is = refl }

-- taken, and nothing went out
pub record Taken (h : Host) (o : CallResult) (d : Done) : Type 0 where
  pub host : d.host ≡ h
  pub outcome : d.result ≡ o

-- the timer of such a state has not run out
abbrev pub NotDue : NameState → ℕ → Type 0
NotDue Off t = Unit {0}
NotDue (Verifying n id timer) t = t < timer.due
NotDue IsUnique t = Unit {0}
NotDue (Defending id qtype qclass timer) t = ⊥
NotDue (HasStopped until) t = Unit {0}
NotDue NameState.Shared t = ⊥

-- a response can be for it
abbrev pub waits : NameState → Bool
waits Off = false
waits (Verifying n id timer) = true
waits IsUnique = false
waits (Defending id qtype qclass timer) = true
waits (HasStopped until) = false
waits NameState.Shared = false

-- the station's own address, and an address with the octets a
abbrev pub address : Link → List ℕ → Address
address L a = record { family = L.family; octets = a }

abbrev pub own : Link → Station → Address
own L s = address L (setting_of s s.interface).address

-- the calls of station s, with its own table, in such a state; a is the octets of a source address of the family
module _ (L : Link) (s : Station) where
  abbrev pub starting : NameState → ℕ → ℕ → ℕ → ℕ → Lent → Done
  starting x clock i k t v = start (host_with s x clock) s.table i k t v.id v.out

  abbrev pub ticking : NameState → ℕ → ℕ → ℕ → Lent → Done
  ticking x clock i t v = tick (host_with s x clock) s.table i t v.id v.out

  abbrev pub source : List ℕ → Receipt → Endpoint
  source a v = record { address = address L a; port = v.port }

  -- octets sent to that address are received on the used interface
  abbrev pub arrival : ℕ → Address → List ℕ → List ℕ → Receipt → Arrival
  arrival t to octets a v =
      record {
        table = s.table;
        interface = s.interface;
        from = source a v;
        to = to;
        datagram = octets;
        time = t;
        id = v.lent.id;
        out = v.lent.out;
      }

  -- a start's query with that ID and spelling is received
  abbrev pub asking : NameState → ℕ → ℕ → ℕ → List ℕ → List ℕ → Receipt → Done
  asking x clock t id y a v =
      receive (host_with s x clock) (arrival t (group_of L.family) (check_query id y) a v)

  -- the octets b are received at the host's own address
  abbrev pub responded : NameState → ℕ → ℕ → List ℕ → List ℕ → Receipt → Done
  responded x clock t b a v =
      receive (host_with s x clock) (arrival t (own L s) b a v)

-- of every station s of a link. ReplyTo id y t b: see Obligations
pub record Meets (ReplyTo : ℕ → List ℕ → Bool → List ℕ → Type 0) (L : Link) (s : Station) (o : OnLink L s) : Type 0 where
  -- a table has at most 8 names
  pub few : s.name < most_names
  -- set-up: that it is accepted is part of OnLink
  pub set_up_time : s.time ≤ top
  pub set_up_interval : 0 < L.interval
  pub set_up_off : (set_up s.table s.settings s.time s.id).host ≡ host_with s Off s.time
  -- start: a refusal leaves the state; an interface that is not used; the name while it is Off
  pub start_refused : (x : NameState) (clock i k t : ℕ) (v : Lent) (r : Report) → clock ≤ t → t ≤ top
      → (starting L s x clock i k t v).result ≡ Refused r → (starting L s x clock i k t v).host ≡ host_with s x clock
  pub start_unused : (x : NameState) (clock i k t : ℕ) (v : Lent) → clock ≤ t → t ≤ top → i ≢ s.interface
      → RefusedWith 3 (host_with s x clock) (starting L s x clock i k t v)
  pub start_off : (clock t : ℕ) (v : Lent) → clock ≤ t → t ≤ top
      → Asked L o.spelling v.id (host_with s (verifying 1 v.id (t + L.interval)) t) (starting L s Off clock s.interface s.name t v)
  -- tick: an interface that is not used; nothing due; a repeat; the end of verifying
  pub tick_unused : (x : NameState) (clock i t : ℕ) (v : Lent) → clock ≤ t → t ≤ top → i ≢ s.interface
      → RefusedWith 3 (host_with s x clock) (ticking L s x clock i t v)
  pub tick_quiet : (x : NameState) (clock t : ℕ) (v : Lent) → clock ≤ t → t ≤ top → NotDue x t
      → Taken (host_with s x t) Quiet (ticking L s x clock s.interface t v)
  pub tick_again : (sends id due clock t : ℕ) (v : Lent) → clock ≤ t → t ≤ top → id < 65536 → due ≤ t → sends < sends_in_all
      → Asked L o.spelling id (host_with s (verifying (suc sends) id (t + L.interval)) t)
      (ticking L s (verifying sends id due) clock s.interface t v)
  pub tick_unique : (sends id due clock t : ℕ) (v : Lent) → clock ≤ t → t ≤ top → due ≤ t → sends_in_all ≤ sends
      → Taken (host_with s IsUnique t) (Unique s.name) (ticking L s (verifying sends id due) clock s.interface t v)
  -- receive: a start's query for the name, from any address of the family
  pub query_off : (clock t id : ℕ) (y a : List ℕ) (v : Receipt) → clock ≤ t → t ≤ top → id < 65536 → SameName y L.name → Octets a → length a ≡ used_by6
      → RefusedWith 12 (host_with s Off clock) (asking L s Off clock t id y a v)
  pub query_verifying : (sends own due clock t id : ℕ) (y a : List ℕ) (v : Receipt) → clock ≤ t → t ≤ top → id < 65536 → SameName y L.name
      → Octets a → length a ≡ used_by6
      → Replied (ReplyTo id y true) (source L s a v) (host_with s (verifying sends own due) t) (asking L s (verifying sends own due) clock t id y a v)
  pub query_unique : (clock t id : ℕ) (y a : List ℕ) (v : Receipt) → clock ≤ t → t ≤ top → id < 65536 → SameName y L.name → Octets a → length a ≡ used_by6
      → Replied (ReplyTo id y false) (source L s a v) (host_with s IsUnique t) (asking L s IsUnique clock t id y a v)
  pub query_stopped : (until clock t id : ℕ) (y a : List ℕ) (v : Receipt) → clock ≤ t → t ≤ top → id < 65536 → SameName y L.name → Octets a → length a ≡ used_by6
      → RefusedWith 13 (host_with s (HasStopped until) clock) (asking L s (HasStopped until) clock t id y a v)
  -- receive: a reply to the host's own query (its ID), from an address that is not its own
  pub reply_clear : (sends id due clock t : ℕ) (y a b : List ℕ) (v : Receipt) → clock ≤ t → t ≤ top → id < 65536 → SameName y L.name
      → Octets a → length a ≡ used_by6 → same_address (address L a) (own L s) ≡ false → ReplyTo id y false b
      → (until : ℕ) × Taken (host_with s (HasStopped until) t) (Stopped s.name) (responded L s (verifying sends id due) clock t b a v)
  pub reply_below : (sends id due clock t : ℕ) (y a b : List ℕ) (v : Receipt) → clock ≤ t → t ≤ top → id < 65536 → SameName y L.name
      → Octets a → length a ≡ used_by6 → same_address (address L a) (own L s) ≡ false → ReplyTo id y true b
      → below_address (address L a) (own L s) ≡ true
      → (until : ℕ) × Taken (host_with s (HasStopped until) t) (Stopped s.name) (responded L s (verifying sends id due) clock t b a v)
  pub reply_above : (sends id due clock t : ℕ) (y a b : List ℕ) (v : Receipt) → clock ≤ t → t ≤ top → id < 65536 → SameName y L.name
      → Octets a → length a ≡ used_by6 → same_address (address L a) (own L s) ≡ false → ReplyTo id y true b
      → below_address (address L a) (own L s) ≡ false
      → Taken (host_with s (verifying sends id due) t) (Kept s.name) (responded L s (verifying sends id due) clock t b a v)
  -- while the name is not verifying it is unmatched
  pub reply_late : (x : NameState) (clock t id : ℕ) (y a b : List ℕ) (f : Bool) (v : Receipt) → clock ≤ t → t ≤ top → id < 65536 → SameName y L.name
      → Octets a → length a ≡ used_by6 → ReplyTo id y f b → waits x ≡ false
      → RefusedWith 15 (host_with s x clock) (responded L s x clock t b a v)

-- all of it
pub record Obligations : Type 1 where
  -- b is a reply to a start's query with this ID and spelling of the name, with T set or clear
  pub ReplyTo : ℕ → List ℕ → Bool → List ℕ → Type 0
  pub reply_t : (id : ℕ) (y : List ℕ) (t : Bool) (b : List ℕ) → ReplyTo id y t b → get_or b 2 0 % 2 ≡ cond t 1 0
  pub meets : (L : Link) → Conditions L → (s : Station) (o : OnLink L s) → Meets ReplyTo L s o
