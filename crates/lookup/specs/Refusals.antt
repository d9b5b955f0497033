-- When each refusal number is given: for start, receive and tick a list of number and condition, in the order of rules F for the call, with
-- the numbers of rules N. That a call gives a number exactly as its list says is shown in proofs/Refusals.antt.
use Rattle.std.specs.Prelude.{ℕ, ◌+◌, ◌<◌, ◌≤◌, ◌≡◌, ◌≢◌, ◌⊎◌, List, [], ◌∷◌, ◌++◌, map, Bool, true, false, length, get_or, take}
use Rattle.octets.specs.Octets.{part_of}
use Rattle.octets.specs.Addresses.{unused}
use Rattle.octets.specs.PlainAddresses.{IsGroup, IsOneOfOurs}
use Rattle.octets.specs.declared.Setting.{Setting}
use Rattle.refusal.specs.Cases.{Case, case}
use Rattle.names.specs.Names.{Labels, IsName, encode}
use Rattle.names.specs.Folding.{folded}
use Rattle.message.specs.declared.Question.{Question}
use Rattle.message.specs.Header.{header_of}
use Rattle.message.specs.Question.{IsQuestion}
use Rattle.message.specs.Records.{StopsAt}
use Rattle.lookup.specs.State.{setting_of}
use Rattle.lookup.specs.Receive.{Arrival}
use Rattle.lookup.specs.declared.Phase.{Phase}
use Rattle.lookup.specs.declared.Phase.TheVariants.{Asking, Collecting, Ended}
use Rattle.lookup.specs.declared.Lookup.{Lookup}

-- an interface's number is above 3, or its family is neither 4 nor 6
abbrev pub IsUnused : ℕ → Setting → Type 0
IsUnused i s = (3 < i) ⊎ ((s.family ≢ 4) × (s.family ≢ 6))

-- ---- Start: 1, 3, 4, 10, 22.

-- octets are a name to be looked up: one or more labels, and nothing after the name
pub record IsToLookUp (octets : List ℕ) : Type 0 where
  pub name : Labels
  pub is_name : IsName name
  pub not_root : name ≢ []
  pub octets_are : octets ≡ encode name

-- the labels in-addr, ip6 and arpa
abbrev pub in_addr : List ℕ
in_addr = 0x69 ∷ 0x6e ∷ 0x2d ∷ 0x61 ∷ 0x64 ∷ 0x64 ∷ 0x72 ∷ []

abbrev pub ip6 : List ℕ
ip6 = 0x69 ∷ 0x70 ∷ 0x36 ∷ []

abbrev pub arpa : List ℕ
arpa = 0x61 ∷ 0x72 ∷ 0x70 ∷ 0x61 ∷ []

-- a reverse name: its labels, with 65..90 raised by 32, are one or more labels and then in-addr, arpa or ip6, arpa
pub record IsReverse (name : Labels) : Type 0 where
  pub before : Labels
  pub some : 1 ≤ length before
  pub ends : (map (map folded) name ≡ before ++ (in_addr ∷ arpa ∷ [])) ⊎ (map (map folded) name ≡ before ++ (ip6 ∷ arpa ∷ []))

-- a name has several labels, and is not let by
pub record HasSeveral (permission : Bool) (name : Labels) : Type 0 where
  pub two : 2 ≤ length name
  pub no_permission : permission ≡ false
  pub not_reverse : IsReverse name → ⊥

-- the octets are a name to be looked up, and this holds of its labels
abbrev pub OfName : List ℕ → (Labels → Type 0) → Type 0
OfName octets c = (w : IsToLookUp octets) × c w.name

abbrev pub start_cases : List Setting → ℕ → List ℕ → Bool → ℕ → List ℕ → List Case
start_cases settings i name permission time out =
    case 1 (length out < 512)
    ∷ case 3 (IsUnused i (get_or settings i unused))
    ∷ case 4 (281474976710655 < time)
    ∷ case 10 (IsToLookUp name → ⊥)
    ∷ case 22 (OfName name (HasSeveral permission))
    ∷ []

-- ---- Receive: 1, 3 to 5, 15 for a query, 6 to 10, 15, 16, 17, 18.

-- in a phase a lookup waits for a response with C set or clear
abbrev pub Waits : Phase → Bool → Type 0
Waits (Asking sends timer) conflict = Unit
Waits (Collecting timer) conflict = conflict ≡ true
Waits Ended conflict = ⊥

-- the lookup waits for this response: its ID and question are those of its query, the name equal with 65..90 raised by 32, the same type,
-- and class 1
pub record IsAwaited (l : Lookup) (a : Arrival) (q : Question) : Type 0 where
  pub waits : Waits l.phase (header_of a.datagram).conflict
  pub id : (header_of a.datagram).id ≡ l.id
  pub qtype : q.qtype ≡ l.qtype
  pub class : q.class ≡ 1
  pub name : map folded (take l.len l.name) ≡ map folded (part_of a.datagram 12 (12 + q.name))

-- a question stands after the header, and this holds of it
abbrev pub OfQuestion : Arrival → (Question → Type 0) → Type 0
OfQuestion a c = (q : Question) × IsQuestion a.datagram 12 q × c q

-- after the question stand fewer records than ANCOUNT says: the next has a bad owner name, or its fixed octets or data run past the end
abbrev pub IsCutShort : Arrival → Question → Type 0
IsCutShort a q = (at : ℕ) × StopsAt a.datagram q.end (header_of a.datagram).answers at

abbrev pub receive_cases : Lookup → Arrival → List Case
receive_cases l a =
    case 1 (length a.out < 512)
    ∷ case 3 (IsUnused l.interface (setting_of l))
    ∷ case 4 ((281474976710655 < a.time) ⊎ (a.time < l.clock))
    ∷ case 5 ((length a.datagram < 12) ⊎ (9194 < length a.datagram))
    ∷ case 15 ((header_of a.datagram).response ≡ false)
    ∷ case 6 ((a.from.address.family ≢ (setting_of l).family) ⊎ (a.to.family ≢ (setting_of l).family) ⊎ IsGroup a.to)
    ∷ case 7 ((header_of a.datagram).opcode ≢ 0)
    ∷ case 8 ((header_of a.datagram).rcode ≢ 0)
    ∷ case 9 ((header_of a.datagram).questions ≢ 1)
    ∷ case 10 ((q : Question) → IsQuestion a.datagram 12 q → ⊥)
    ∷ case 15 (OfQuestion a (λ q. IsAwaited l a q → ⊥))
    ∷ case 16 (IsOneOfOurs l.settings a.from.address)
    ∷ case 17 ((header_of a.datagram).tentative ≡ true)
    ∷ case 18 (OfQuestion a (IsCutShort a))
    ∷ []

-- ---- Tick: 1, 4.

abbrev pub tick_cases : Lookup → ℕ → List ℕ → List Case
tick_cases l time out =
    case 1 (length out < 512)
    ∷ case 4 ((281474976710655 < time) ⊎ (time < l.clock))
    ∷ []
