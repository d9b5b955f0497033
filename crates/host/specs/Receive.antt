-- Receive, in stages: opening (1 to 4), datagram (5 to 11), name (12 to 14; 15 and 16 for a response), then decision and effect.
use Rattle.std.specs.Prelude.{ℕ, ◌+◌, List, Bool, false, cond, not, length, ltb, eqb, Option}
use Rattle.octets.specs.Tests.{◌and◌, ◌or◌}
use Rattle.octets.specs.Octets.{part_of}
use Rattle.octets.specs.Addresses.{is_group, address_of, below_address}
use Rattle.octets.specs.declared.Address.{Address}
use Rattle.octets.specs.declared.Endpoint.{Endpoint}
use Rattle.refusal.specs.Numbers.{number}
use Rattle.refusal.specs.Checks.{Checks, fail, pass, Verdict, refused, passed, verdict}
use Rattle.name_table.specs.Check.{check_table, names_in, name_in, find_name, is_found, number_or}
use Rattle.message.specs.Bounds.{header_octets, class_in, type_any}
use Rattle.message.specs.declared.Header.{Header}
use Rattle.message.specs.declared.Question.{Question}
use Rattle.message.specs.declared.ReplyHead.{ReplyHead}
use Rattle.message.specs.Header.{header_of}
use Rattle.message.specs.Question.{question_at, question_or, is_bad_question}
use Rattle.message.specs.Query.{query_octets}
use Rattle.message.specs.Reply.{Written, answers_in, reply_written}
use Rattle.host.specs.Bounds.{reply_limit, shortest, longest, any_class}
use Rattle.host.specs.State.{setting_of, state_of, is_own, off, verifying, unique, stopped, shared, is, with_clock, with_state, timer_from}
use Rattle.host.specs.Outcomes.{Done, refusal, silent, reply, kept, stopped as stopped_name}
use Rattle.host.specs.Early.{early}
use Rattle.host.specs.Asking.{asking}
use Rattle.host.specs.Stopping.{stopped_until}
use Rattle.host.specs.declared.NameState.{NameState}
use Rattle.host.specs.declared.NameState.TheVariants.{Off, Verifying, Unique, Defending, Stopped, Shared}
use Rattle.host.specs.declared.Host.{Host}

-- what a call of receive is given
pub record Arrival : Type 0 where
  pub table : List ℕ
  pub interface : ℕ
  pub from : Endpoint
  pub to : Address
  pub datagram : List ℕ
  pub time : ℕ
  pub id : ℕ
  pub out : List ℕ

-- what is read of the datagram. A question that is bad reads as zeros; check 10 stands before any use of it.
abbrev pub header : Arrival → Header
header a = header_of a.datagram

abbrev pub question : Arrival → Question
question a = question_or (question_at a.datagram header_octets)

-- a question's octets as received, and its name
abbrev pub question_in : Arrival → Question → List ℕ
question_in a q = part_of a.datagram header_octets q.end

abbrev pub name_asked : Arrival → Question → List ℕ
name_asked a q = part_of a.datagram header_octets (header_octets + q.name)

-- 5: below 12 or above 9,194 octets
abbrev pub bad_length : List ℕ → Bool
bad_length datagram = ltb (length datagram) shortest or ltb longest (length datagram)

-- 6: either address's family differs from the interface's; a query not sent to the group; a response sent to it
abbrev pub bad_address : ℕ → ℕ → Address → Bool → Bool
bad_address family source to response =
    not (eqb source family)
    or not (eqb to.family family)
    or cond response (is_group to) (not (is_group to))

-- 9: query: QDCOUNT not 1, or ANCOUNT or NSCOUNT not 0; response: QDCOUNT not 1
abbrev pub bad_counts : Header → Bool
bad_counts x =
    not (eqb x.questions 1)
    or not x.response and (not (eqb x.answers 0) or not (eqb x.authorities 0))

-- 11: query class neither 1 nor 255
abbrev pub bad_class : ℕ → Bool
bad_class class = not (eqb class class_in or eqb class any_class)

-- the name asked for, if the table has it, and its state here
abbrev pub found : Arrival → Option ℕ
found a = find_name (names_in (check_table a.table)) (name_asked a (question a))

abbrev pub name_number : Arrival → ℕ
name_number a = number_or (found a)

abbrev pub state : Host → Arrival → NameState
state h a = state_of h a.interface (name_number a)

-- the source is one of our addresses
abbrev pub from_us : Host → Arrival → Bool
from_us h a = is_own h a.from.address

-- 12: name not in the table, or off on this interface
abbrev pub not_ours : Host → Arrival → Bool
not_ours h a = not (is_found (found a)) or is off (state h a)

-- 14: C set, and the name is not Unique or the source is one of our addresses
abbrev pub bad_notification : Host → Arrival → Bool
bad_notification h a = (header a).conflict and (not (is unique (state h a)) or from_us h a)

-- 15: no check waits here for this ID and question
abbrev pub awaits : NameState → ℕ → ℕ → ℕ → Bool
awaits (Verifying sends own timer) id qtype class = eqb id own and eqb qtype type_any and eqb class class_in
awaits (Defending own own_type own_class timer) id qtype class = eqb id own and eqb qtype own_type and eqb class own_class
awaits Off id qtype class = false
awaits Unique id qtype class = false
awaits (Stopped until) id qtype class = false
awaits Shared id qtype class = false

abbrev pub unmatched : Host → Arrival → Bool
unmatched h a =
    not (is_found (found a)) or not (awaits (state h a) (header a).id (question a).qtype (question a).class)

-- the stages. 7 to 11, of a header and of the question after it
abbrev pub message_checks : Header → Option Question → Checks → Checks
message_checks x q rest =
    fail (not (eqb x.opcode 0)) (number 7)
    (fail (x.response and not (eqb x.rcode 0)) (number 8)
    (fail (bad_counts x) (number 9)
    (fail (is_bad_question q) (number 10)
    (fail (not x.response and bad_class (question_or q).class) (number 11)
    rest))))

-- 5 to 11, of the interface's family, the source's, the destination and the datagram
abbrev pub datagram_checks : ℕ → ℕ → Address → List ℕ → Checks → Checks
datagram_checks family source to datagram rest =
    fail (bad_length datagram) (number 5)
    (fail (bad_address family source to (header_of datagram).response) (number 6)
    (message_checks (header_of datagram) (question_at datagram header_octets) rest))

abbrev pub query_checks : Host → Arrival → Checks
query_checks h a =
    fail (not_ours h a) (number 12)
    (fail (is stopped (state h a)) (number 13)
    (fail (bad_notification h a) (number 14)
    pass))

abbrev pub response_checks : Host → Arrival → Checks
response_checks h a =
    fail (unmatched h a) (number 15)
    (fail (from_us h a) (number 16)
    pass)

abbrev pub receive_checks : Host → Arrival → Checks
receive_checks h a =
    early h a.table a.interface a.time a.out
    (datagram_checks (setting_of h a.interface).family a.from.address.family a.to a.datagram
    (cond (header a).response (response_checks h a) (query_checks h a)))

-- what an accepted datagram calls for
pub data Decision : Type 0 where
  answer defend stop keep : Decision

-- Response while Verifying: T clear, Stopped; T set and source below the interface's address, Stopped; else kept. While Defending:
-- source below ours, Stopped; else kept.
abbrev pub loses : Host → Arrival → Bool
loses h a =
    is verifying (state h a) and not (header a).tentative
    or below_address a.from.address (address_of (setting_of h a.interface))

abbrev pub decision : Host → Arrival → Decision
decision h a =
    cond (header a).response (cond (loses h a) stop keep)
    (cond (header a).conflict defend answer)

-- a reply goes to where the query came from
abbrev pub replied : Host → Arrival → Written → Done
replied h a w =
    record { host = with_clock h a.time; result = reply w.len; to = a.from; octets = w.octets }

-- C set exactly while the state is Shared, T exactly while Verifying
abbrev pub reply_head_of : Arrival → NameState → ReplyHead
reply_head_of a state = record { id = (header a).id; conflict = is shared state; tentative = is verifying state }

-- the question q for the k-th name is answered, with those of its records that are valid on the interface asked
abbrev pub answered : Host → Arrival → Question → ℕ → Done
answered h a q k =
    replied h a
    (reply_written a.out reply_limit (reply_head_of a (state_of h a.interface k)) (question_in a q) q.qtype
    (answers_in a.interface a.table (name_in a.table k).end))

-- a query with the call's ID, flags 0 and the question's octets as received
abbrev pub defended : Host → Arrival → Question → ℕ → Done
defended h a q k =
    asking
    (with_state h a.interface k
    (Defending a.id q.qtype q.class (timer_from (setting_of h a.interface) a.time)) a.time)
    (setting_of h a.interface) k (query_octets a.id 0 (question_in a q)) a.out

abbrev pub effect : Decision → Host → Arrival → Question → ℕ → Done
effect answer h a q k = answered h a q k
effect defend h a q k = defended h a q k
effect stop h a q k =
    silent
    (with_state h a.interface k (Stopped (stopped_until a.time (header a).answers a.datagram q.end)) a.time)
    a.out (stopped_name k)
effect keep h a q k = silent (with_clock h a.time) a.out (kept k)

abbrev pub receive_if : Verdict → Host → Arrival → Done
receive_if (refused t) h a = refusal h a.out t
receive_if passed h a = effect (decision h a) h a (question a) (name_number a)

unfoldable pub receive : Host → Arrival → Done
receive h a = receive_if (verdict (receive_checks h a)) h a
