-- What is read of a start's query, and of a reply to it.
use Rattle.std.proofs.Common.{Some, ℕ, ◌+◌, ◌%◌, ◌≤◌, ◌<◌, ◌≡◌, sym, subst, Bool, false, cond, List, arith, get_or, length}
use Rattle.octets.specs.Octets.{Octets, octet_at, part_of}
use Rattle.names.specs.Names.{encode}
use Rattle.names.specs.NameWalk.{labels_of, name_at}
use Rattle.message.specs.Bounds.{header_octets, class_in, type_any}
use Rattle.message.specs.declared.Header.{Header}
use Rattle.message.specs.declared.Question.{Question}
use Rattle.message.specs.Header.{header_of}
use Rattle.message.specs.Question.{question_at, question_octets}
use Rattle.message.specs.Reply.{reply_header}
use Rattle.message.proofs.Headers.{header_is}
use Rattle.message.proofs.Questions.{question_octets_lem}
use Rattle.names.proofs.Names.{encode_octets}
use Rattle.message.proofs.Query.{query_length, query_octets_lem}
use Rattle.host.specs.Bounds.{longest}
use Rattle.host.specs.Asking.{check_query}
use Rattle.host.specs.Sent.{query_header}
use Rattle.host.proofs.Sent.{check_read, check_fits}
use Rattle.uniqueness.specs.Link.{SameName}

-- the question of a check for the name y, behind the header
abbrev pub asks : List ℕ → Question
asks y = record { name = length y; labels = labels_of (name_at y 0); qtype = type_any; class = class_in; end = header_octets + length y + 4 }

pub record Reading (b y : List ℕ) (x : Header) : Type 0 where
  pub shortest : header_octets ≤ length b
  pub longest : length b ≤ longest
  pub header : header_of b ≡ x
  pub question : question_at b header_octets ≡ Some (asks y)
  pub name : part_of b header_octets (header_octets + length y) ≡ y

-- b is a reply to a start's query with this ID for the name y, with T set or clear
pub record ReplyTo (id : ℕ) (y : List ℕ) (t : Bool) (b : List ℕ) : Type 0 where
  pub cut : Bool
  pub answers : ℕ
  pub reads : Reading b y (reply_header id false cut t answers)
  pub t_bit : octet_at b 2 % 2 ≡ cond t 1 0

pub reply_t : (id : ℕ) (y : List ℕ) (t : Bool) (b : List ℕ) → ReplyTo id y t b → get_or b 2 0 % 2 ≡ cond t 1 0
reply_t id y t b r = r.t_bit

module _ (y z : List ℕ) (w : SameName y z) where
  pub query_is_octets : (id : ℕ) → id < 65536 → Octets (check_query id y)
  query_is_octets id h =
      let o : Octets y = subst Octets (sym w.first_octets) (encode_octets w.first w.first_name) in
      query_octets_lem id 0 (question_octets y type_any class_in) h (omega arith) (question_octets_lem y type_any class_in o (omega arith) (omega arith))

  pub reads_query : (id : ℕ) → Reading (check_query id y) y (query_header id)
  reads_query id =
      subst (λ (x : List ℕ). Reading (check_query id x) x (query_header id)) (sym w.first_octets)
      (let r = check_read id w.first w.first_name in
      let f = check_fits id w.first w.first_name in
      let q = query_length id 0 (question_octets (encode w.first) type_any class_in) in
      let l : header_octets ≤ length (check_query id (encode w.first)) = omega arith in
      record {
        shortest = l;
        longest = omega arith;
        header = header_is (check_query id (encode w.first)) (query_header id) r.header_is;
        question = r.question_is;
        name = r.name_is;
      })
