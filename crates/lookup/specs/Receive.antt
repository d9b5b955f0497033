-- Receive of a lookup: 1, 3 to 5, 15 for a query, 6 to 10, 15, 16, 17, 18; then the response is found, or is a part of what is collected.
use Rattle.std.specs.Prelude.{ℕ, ◌+◌, List, Bool, true, false, cond, not, length, eqb, Result, Ok, Err}
use Rattle.octets.specs.Tests.{◌and◌}
use Rattle.octets.specs.Octets.{part_of}
use Rattle.octets.specs.Addresses.{is_ours}
use Rattle.octets.specs.declared.Address.{Address}
use Rattle.octets.specs.declared.Endpoint.{Endpoint}
use Rattle.octets.specs.declared.Setting.{Setting}
use Rattle.refusal.specs.Numbers.{number}
use Rattle.refusal.specs.Checks.{Checks, fail, pass, Verdict, refused, passed, verdict}
use Rattle.names.specs.Folding.{same_name}
use Rattle.message.specs.Bounds.{header_octets, class_in}
use Rattle.message.specs.declared.Header.{Header}
use Rattle.message.specs.declared.Question.{Question}
use Rattle.message.specs.Header.{header_of}
use Rattle.message.specs.Question.{question_at, question_or}
use Rattle.message.specs.Records.{walk_from}
use Rattle.host.specs.Early.{no_room, no_interface, bad_clock}
use Rattle.host.specs.Receive.{bad_length, bad_address, message_checks}
use Rattle.lookup.specs.State.{setting_of, name_of, with_phase}
use Rattle.lookup.specs.Outcomes.{Done, refusal, silent, part, found}
use Rattle.lookup.specs.declared.Phase.{Phase}
use Rattle.lookup.specs.declared.Phase.TheVariants.{Asking, Collecting, Ended}
use Rattle.lookup.specs.declared.Lookup.{Lookup}

-- what a call of receive is given; the interface is the lookup's own
pub record Arrival : Type 0 where
  pub from : Endpoint
  pub to : Address
  pub datagram : List ℕ
  pub time : ℕ
  pub id : ℕ
  pub out : List ℕ

-- what is read of the datagram. A question that is bad reads as zeros; check 10 stands before any use of it.
abbrev pub header : Arrival → Header
header a = header_of a.datagram

abbrev pub question : Arrival → Question
question a = question_or (question_at a.datagram header_octets)

-- the name of a question after the header
abbrev pub name_in : List ℕ → Question → List ℕ
name_in datagram q = part_of datagram header_octets (header_octets + q.name)

-- a lookup waits for any response while it asks, and while it collects for one with C set
abbrev pub waits : Phase → Bool → Bool
waits (Asking sends timer) conflict = true
waits (Collecting timer) conflict = conflict
waits Ended conflict = false

-- a response has the ID and the question of a query: the name equal, the same type, and class 1
abbrev pub matches : ℕ → ℕ → List ℕ → Header → Question → List ℕ → Bool
matches id qtype name x q datagram =
    eqb x.id id and eqb q.qtype qtype and eqb q.class class_in and same_name name (name_in datagram q)

abbrev pub awaits : Lookup → Header → Question → List ℕ → Bool
awaits l x q datagram = waits l.phase x.conflict and matches l.id l.qtype (name_of l) x q datagram

-- the walk over ANCOUNT records stops at a bad one
abbrev pub is_stopped : Result ℕ ℕ → Bool
is_stopped (Ok at) = false
is_stopped (Err at) = true

-- the stages. 5, 15 for a query, 6 to 10: of the interface's family, the source's, the destination and the datagram. (11 is never given to
-- a response.)
abbrev pub response_checks : ℕ → ℕ → Address → List ℕ → Checks → Checks
response_checks family source to datagram rest =
    fail (bad_length datagram) (number 5)
    (fail (not (header_of datagram).response) (number 15)
    (fail (bad_address family source to (header_of datagram).response) (number 6)
    (message_checks (header_of datagram) (question_at datagram header_octets) rest)))

-- 15 to 18: of a response that is awaited or not, the settings, the source, and the header and question that were read
abbrev pub match_checks : Bool → List Setting → Address → Header → Question → List ℕ → Checks
match_checks awaited settings source x q datagram =
    fail (not awaited) (number 15)
    (fail (is_ours settings source) (number 16)
    (fail x.tentative (number 17)
    (fail (is_stopped (walk_from x.answers datagram q.end)) (number 18)
    pass)))

abbrev pub receive_checks : Lookup → Arrival → Checks
receive_checks l a =
    fail (no_room (length a.out)) (number 1)
    (fail (no_interface l.interface (setting_of l).family) (number 3)
    (fail (bad_clock l.clock a.time) (number 4)
    (response_checks (setting_of l).family a.from.address.family a.to a.datagram
    (match_checks (awaits l (header a) (question a) a.datagram) l.settings a.from.address (header a) (question a) a.datagram))))

-- With C set it stops repeating; when it is due stays as it was. With C clear it ends at once.
abbrev pub collecting : Phase → Phase
collecting (Asking sends timer) = Collecting timer
collecting (Collecting timer) = Collecting timer
collecting Ended = Ended

-- the offset after the question, where the answers begin, and ANCOUNT are handed out
abbrev pub heard : Lookup → Header → Question → ℕ → List ℕ → Done
heard l x q time out =
    cond x.conflict
    (silent (with_phase l (collecting l.phase) time) out (part q.end x.answers))
    (silent (with_phase l Ended time) out (found q.end x.answers))

abbrev pub receive_if : Verdict → Lookup → Arrival → Done
receive_if (refused t) l a = refusal l a.out t
receive_if passed l a = heard l (header a) (question a) a.time a.out

unfoldable pub receive : Lookup → Arrival → Done
receive l a = receive_if (verdict (receive_checks l a)) l a
