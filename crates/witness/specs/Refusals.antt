-- When each refusal number is given: for set-up, start, tick and receive a list of number and condition, in the order of rules F for the
-- call. That a call gives a number exactly as its list says is shown in proofs/Refusals.antt and proofs/RefusedArrivals.antt.
use Rattle.std.specs.Prelude.{ℕ, ◌+◌, ◌<◌, ◌≤◌, ◌≡◌, ◌≢◌, ◌⊎◌, List, [], ◌∷◌, true, cond, length, get_or, None, Some}
use Rattle.octets.specs.Octets.{part_of}
use Rattle.octets.specs.Addresses.{address_of, unused}
use Rattle.octets.specs.PlainAddresses.{IsGroup}
use Rattle.octets.specs.declared.Setting.{Setting}
use Rattle.refusal.specs.Cases.{Case, case, case_at}
use Rattle.name_table.specs.Check.{Held, good, bad, check_table, find_name}
use Rattle.message.specs.declared.Question.{Question}
use Rattle.message.specs.Header.{header_of}
use Rattle.message.specs.Question.{question_at}
use Rattle.host.specs.State.{setting_of, state_of, HasStopped}
use Rattle.host.specs.Receive.{Arrival}
use Rattle.host.specs.declared.NameState.{NameState}
use Rattle.host.specs.declared.NameState.TheVariants.{Off, Verifying, Unique, Defending, Stopped, Shared}
use Rattle.host.specs.declared.Host.{Host}
use Rattle.witness.specs.States.{Ours, Matches}

-- ---- Set-up: 2, 4, 20.

-- a used interface whose address is a group address, or whose interval is neither 100 nor 1,000
abbrev pub IsBadSetting : Setting → Type 0
IsBadSetting s =
    ((s.family ≡ 4) ⊎ (s.family ≡ 6))
    × (IsGroup (address_of s) ⊎ ((s.interval ≢ 100) × (s.interval ≢ 1000)))

abbrev pub set_up_cases : List ℕ → List Setting → ℕ → List Case
set_up_cases table settings time =
    case_at 2 (λ at. check_table table ≡ bad at)
    ∷ case 4 (281474976710655 < time)
    ∷ case 20 ((i : ℕ) × (i < 4) × IsBadSetting (get_or settings i unused))
    ∷ []

-- ---- Every call after set-up: 1 to 4, then those that follow.

abbrev pub early_cases : Host → List ℕ → ℕ → ℕ → List ℕ → List Case → List Case
early_cases h table i time out rest =
    case 1 (length out < 512)
    ∷ case_at 2 (λ at. check_table table ≡ bad at)
    ∷ case 3 ((3 < i) ⊎ (((setting_of h i).family ≢ 4) × ((setting_of h i).family ≢ 6)))
    ∷ case 4 ((281474976710655 < time) ⊎ (time < h.clock))
    ∷ rest

-- Start of the k-th name: 1 to 4, 12, 19, 21.
abbrev pub start_cases : Host → List ℕ → ℕ → ℕ → ℕ → List ℕ → List Case
start_cases h table i k time out =
    early_cases h table i time out
    (case 12 ((names : List Held) × (check_table table ≡ good names) × (length names ≤ k))
    ∷ case 19 ((state_of h i k ≢ Off) × (HasStopped (state_of h i k) → ⊥))
    ∷ case 21 ((until : ℕ) × (state_of h i k ≡ Stopped until) × (time < until))
    ∷ [])

-- Tick: 1 to 4.
abbrev pub tick_cases : Host → List ℕ → ℕ → ℕ → List ℕ → List Case
tick_cases h table i time out = early_cases h table i time out []

-- ---- A datagram.

-- this holds of the table's names and of the question after the header
abbrev pub OfQuestion : Arrival → (List Held → Question → Type 0) → Type 0
OfQuestion a c =
    (names : List Held) × (q : Question) × (check_table a.table ≡ good names) × (question_at a.datagram 12 ≡ Some q) × c names q

-- it asks for the k-th of these names; for none of them
abbrev pub IsFor : Arrival → List Held → Question → ℕ → Type 0
IsFor a names q k = find_name names (part_of a.datagram 12 (12 + q.name)) ≡ Some k

abbrev pub IsForNone : Arrival → List Held → Question → Type 0
IsForNone a names q = find_name names (part_of a.datagram 12 (12 + q.name)) ≡ None

-- 5: below 12 or above 9,194 octets
abbrev pub IsBadLength : Arrival → Type 0
IsBadLength a = (length a.datagram < 12) ⊎ (9194 < length a.datagram)

-- 6: either address's family differs from the interface's, or the datagram was sent to the wrong place
abbrev pub IsBadAddress : Host → Arrival → Type 0 → Type 0
IsBadAddress h a wrong =
    (a.from.address.family ≢ (setting_of h a.interface).family) ⊎ (a.to.family ≢ (setting_of h a.interface).family) ⊎ wrong

-- 14: a conflict notification, C set, and the name is not Unique or the source is one of our addresses
abbrev pub IsBadNotification : Host → Arrival → Type 0
IsBadNotification h a =
    ((header_of a.datagram).conflict ≡ true)
    × (OfQuestion a (λ names q. (k : ℕ) × IsFor a names q k × (state_of h a.interface k ≢ Unique)) ⊎ Ours h a.from.address)

-- a name in this state waits for this ID and question: those of its query, which while Verifying is of type 255, class 1
abbrev pub IsAwaited : Arrival → Question → NameState → Type 0
IsAwaited a q Off = ⊥
IsAwaited a q (Verifying sends own timer) = Matches a q own 255 1
IsAwaited a q Unique = ⊥
IsAwaited a q (Defending own qtype class timer) = Matches a q own qtype class
IsAwaited a q (Stopped until) = ⊥
IsAwaited a q Shared = ⊥

-- A query: 1 to 7, 9 to 14.
abbrev pub query_cases : Host → Arrival → List Case
query_cases h a =
    early_cases h a.table a.interface a.time a.out
    (case 5 (IsBadLength a)
    ∷ case 6 (IsBadAddress h a (IsGroup a.to → ⊥))
    ∷ case 7 ((header_of a.datagram).opcode ≢ 0)
    ∷ case 9 (((header_of a.datagram).questions ≢ 1) ⊎ ((header_of a.datagram).answers ≢ 0) ⊎ ((header_of a.datagram).authorities ≢ 0))
    ∷ case 10 (question_at a.datagram 12 ≡ None)
    ∷ case 11 (OfQuestion a (λ names q. (q.class ≢ 1) × (q.class ≢ 255)))
    ∷ case 12 (OfQuestion a (λ names q. IsForNone a names q ⊎ ((k : ℕ) × IsFor a names q k × (state_of h a.interface k ≡ Off))))
    ∷ case 13 (OfQuestion a (λ names q. (k : ℕ) × IsFor a names q k × HasStopped (state_of h a.interface k)))
    ∷ case 14 (IsBadNotification h a)
    ∷ [])

-- A response: 1 to 10, 15, 16.
abbrev pub response_cases : Host → Arrival → List Case
response_cases h a =
    early_cases h a.table a.interface a.time a.out
    (case 5 (IsBadLength a)
    ∷ case 6 (IsBadAddress h a (IsGroup a.to))
    ∷ case 7 ((header_of a.datagram).opcode ≢ 0)
    ∷ case 8 ((header_of a.datagram).rcode ≢ 0)
    ∷ case 9 ((header_of a.datagram).questions ≢ 1)
    ∷ case 10 (question_at a.datagram 12 ≡ None)
    ∷ case 15 (OfQuestion a (λ names q. IsForNone a names q ⊎ ((k : ℕ) × IsFor a names q k × (IsAwaited a q (state_of h a.interface k) → ⊥))))
    ∷ case 16 (Ours h a.from.address)
    ∷ [])

-- Receive, by the QR bit.
abbrev pub receive_cases : Host → Arrival → List Case
receive_cases h a = cond (header_of a.datagram).response (response_cases h a) (query_cases h a)
