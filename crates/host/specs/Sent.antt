-- What a host sends, as the host that gets it reads it.
use Rattle.std.specs.Prelude.{ℕ, ◌+◌, ◌%◌, ◌≤◌, ◌≡◌, List, Bool, false, cond, length, Some}
use Rattle.octets.specs.Octets.{octet_at, part_of}
use Rattle.names.specs.NameWalk.{labels_of, name_at}
use Rattle.message.specs.Bounds.{header_octets, class_in, type_any}
use Rattle.message.specs.declared.Header.{Header}
use Rattle.message.specs.declared.Question.{Question}
use Rattle.message.specs.Header.{header_of, header_at}
use Rattle.message.specs.Question.{question_at}
use Rattle.message.specs.Reply.{reply_header}
use Rattle.host.specs.Bounds.{reply_limit}
use Rattle.host.specs.State.{verifying, shared, is, state_of}
use Rattle.host.specs.Receive.{Arrival}
use Rattle.host.specs.declared.Host.{Host}

-- the header of a query that we send: an ID, all flags clear, one question and nothing else
abbrev pub query_header : ℕ → Header
query_header id =
    record {
      id = id;
      response = false;
      opcode = 0;
      conflict = false;
      truncated = false;
      tentative = false;
      rcode = 0;
      questions = 1;
      answers = 0;
      authorities = 0;
      additionals = 0;
    }

-- b is read as the query of a check for a name, with the labels that are read in its octets: type 255, class 1
pub record ReadAsCheck (b : List ℕ) (id : ℕ) (name : List ℕ) : Type 0 where
  pub header_is : header_at b ≡ Some (query_header id)
  pub question_is : question_at b header_octets
      ≡ Some (record { name = length name; labels = labels_of (name_at name 0); qtype = type_any; class = class_in; end = header_octets + length name + 4 })
  pub name_is : part_of b header_octets (header_octets + length name) ≡ name

-- b is read as a defence: a query with the call's ID and the question q of the notification
pub record ReadAsDefence (b : List ℕ) (a : Arrival) (q : Question) : Type 0 where
  pub header_is : header_at b ≡ Some (query_header a.id)
  pub question_is : question_at b header_octets ≡ Some q

-- b is read as the reply to the query that arrived, with the question q for the k-th name: QR set, its ID and question, C set exactly
-- while Shared, T exactly while Verifying
pub record ReadAsReply (b : List ℕ) (h : Host) (a : Arrival) (q : Question) (k : ℕ) : Type 0 where
  pub cut : Bool
  pub answers : ℕ
  pub header_is : header_at b
      ≡ Some (reply_header (header_of a.datagram).id (is shared (state_of h a.interface k)) cut (is verifying (state_of h a.interface k)) answers)
  pub question_is : question_at b header_octets ≡ Some q
  pub octets_are : part_of b header_octets q.end ≡ part_of a.datagram header_octets q.end
  pub name_is : part_of b header_octets (header_octets + q.name) ≡ part_of a.datagram header_octets (header_octets + q.name)
  -- T is the lowest bit of the third octet
  pub t_bit : octet_at b 2 % 2 ≡ cond (is verifying (state_of h a.interface k)) 1 0
  pub least : header_octets ≤ length b
  pub most : length b ≤ reply_limit
