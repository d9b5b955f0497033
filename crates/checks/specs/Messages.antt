-- What the code reads of a datagram, in two steps: its header, after check 5; its question, after the checks 6 to 11. The checks are those of
-- the crate host. One that takes responses alone refuses a query with 15 between the two.
use Rattle.std.specs.Prelude.{ℕ, List, Bool, cond, not, ltb, eqb, None, Option, Some, Result, Ok, Err}
use Rattle.octets.specs.Bounds.{interfaces}
use Rattle.octets.specs.Tests.{◌and◌}
use Rattle.octets.specs.declared.Address.{Address}
use Rattle.refusal.specs.Numbers.{Report, number, report_of}
use Rattle.refusal.specs.Checks.{Checks, fail, pass, Verdict, refused, passed, verdict}
use Rattle.refusal.specs.declared.Refusal.{Refusal}
use Rattle.message.specs.Bounds.{header_octets}
use Rattle.message.specs.declared.Header.{Header}
use Rattle.message.specs.declared.Question.{Question}
use Rattle.message.specs.Header.{header_of}
use Rattle.message.specs.Question.{question_at, question_or}
use Rattle.host.specs.Receive.{bad_length, bad_address, bad_class, message_checks}
use Rattle.checks.specs.declared.Datagram.{Datagram}

-- the place of an interface in the state: a number above the last counts as 0
abbrev pub slot_of : ℕ → ℕ
slot_of i = cond (ltb i interfaces) i 0

-- none where the length is bad
unfoldable pub header_in : List ℕ → Option Header
header_in s = cond (bad_length s) None (Some (header_of s))

-- 8, and 11
abbrev pub failed : Bool → ℕ → Bool
failed response rcode = response and not (eqb rcode 0)

abbrev pub wrong_class : Bool → ℕ → Bool
wrong_class response class = not response and bad_class class

-- 6 to 11
abbrev pub address_checks : ℕ → ℕ → Address → Header → List ℕ → Checks → Checks
address_checks family source to x s rest =
    fail (bad_address family source to x.response) (number 6) (message_checks x (question_at s header_octets) rest)

-- refused, or read
pub data Reading : Type 0 where
  refuses : Report → Reading
  reads : Question → Reading

abbrev pub read_if : Verdict → List ℕ → Reading
read_if (refused t) s = refuses t
read_if passed s = reads (question_or (question_at s header_octets))

-- of the interface's family, the source's, the destination, the header and the octets
unfoldable pub message_read : ℕ → ℕ → Address → Header → List ℕ → Reading
message_read family source to x s = read_if (verdict (address_checks family source to x s pass)) s

-- what the code's reading says
abbrev pub read_by : Result Question Refusal → Reading
read_by (Ok q) = reads q
read_by (Err why) = refuses (report_of why)

-- ---- a datagram, in both steps

-- a query comes to one that takes responses alone
abbrev pub unasked : Bool → Bool → Bool
unasked responses response = responses and not response

-- 5, 15 for such a query, 6 to 11
abbrev pub read_checks : Bool → ℕ → ℕ → Address → List ℕ → Checks → Checks
read_checks responses family source to s rest =
    fail (bad_length s) (number 5)
    (fail (unasked responses (header_of s).response) (number 15)
    (address_checks family source to (header_of s) s rest))

-- refused, or read
pub data DatagramReading : Type 0 where
  refused_so : Report → DatagramReading
  read_so : Header → Question → DatagramReading

abbrev pub datagram_if : Verdict → List ℕ → DatagramReading
datagram_if (refused t) s = refused_so t
datagram_if passed s = read_so (header_of s) (question_or (question_at s header_octets))

unfoldable pub datagram_read : Bool → ℕ → ℕ → Address → List ℕ → DatagramReading
datagram_read responses family source to s = datagram_if (verdict (read_checks responses family source to s pass)) s

-- what the code's reading says
abbrev pub datagram_by : Result Datagram Refusal → DatagramReading
datagram_by (Ok d) = read_so d.header d.question
datagram_by (Err why) = refused_so (report_of why)
