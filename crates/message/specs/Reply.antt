-- A reply: the query's ID; QR set, C, TC and T as they are; QDCOUNT 1; the question's octets as received; then the answers.
use Rattle.std.specs.Prelude.{ℕ, ◌+◌, ◌<◌, ◌≤◌, ◌≡◌, List, [], ◌∷◌, ◌++◌, map, Bool, true, false, cond, ◌↔◌, length, ltb, leb, eqb}
use Rattle.octets.specs.Tests.{◌and◌, ◌or◌}
use Rattle.octets.specs.Octets.{Octets, part_of, put, splice}
use Rattle.octets.specs.Words.{big_octets}
use Rattle.names.specs.RecordNameWalk.{expanded_at}
use Rattle.name_table.specs.Entries.{Answer}
use Rattle.name_table.specs.Records.{records_of, valid_on, answer_in}
use Rattle.message.specs.declared.Answers.{Answers}
use Rattle.message.specs.declared.Header.{Header}
use Rattle.message.specs.declared.ReplyHead.{ReplyHead}
use Rattle.message.specs.declared.ResourceRecord.{ResourceRecord}
use Rattle.message.specs.Bounds.{header_octets, class_in, type_any, reply_ttl}
use Rattle.message.specs.Query.{count_octets}
use Rattle.message.specs.Records.{AreRecords}

-- QR is 80 in the first flags octet, C 04, TC 02, T 01
abbrev pub reply_flags : Bool → Bool → Bool → List ℕ
reply_flags c tc t = (0x80 + cond c 0x04 0 + cond tc 0x02 0 + cond t 0x01 0) ∷ 0 ∷ []

-- the owner is a pointer to offset 12, where the question's name stands
abbrev pub answer_octets : Answer → List ℕ
answer_octets a =
    (0xC0 ∷ 0x0C ∷ []) ++ big_octets a.rtype ++ big_octets class_in ++ (0 ∷ 0 ∷ 0 ∷ reply_ttl ∷ [])
    ++ big_octets (length a.octets) ++ a.octets

abbrev pub answers_octets : List Answer → List ℕ
answers_octets [] = []
answers_octets (a ∷ rest) = answer_octets a ++ answers_octets rest

-- a record answers a question of its type, and a question for any type
abbrev pub is_asked : ℕ → ℕ → Bool
is_asked qtype rtype = eqb rtype qtype or eqb qtype type_any

pub record Taken : Type 0 where
  pub answers : List Answer
  pub cut : Bool

-- the answers that are asked for, after `used` octets, until the first that would pass the limit
unfoldable pub taken_from : ℕ → ℕ → ℕ → List Answer → Taken
taken_from limit qtype used [] = record { answers = []; cut = false }
taken_from limit qtype used (a ∷ rest) =
    cond (is_asked qtype a.rtype)
    (cond (ltb limit (used + length (answer_octets a)))
    (record { answers = []; cut = true })
    (record {
      answers = a ∷ (taken_from limit qtype (used + length (answer_octets a)) rest).answers;
      cut = (taken_from limit qtype (used + length (answer_octets a)) rest).cut;
    }))
    (taken_from limit qtype used rest)

-- the answers that are asked for
unfoldable pub asked_of : ℕ → List Answer → List Answer
asked_of qtype [] = []
asked_of qtype (a ∷ rest) = cond (is_asked qtype a.rtype) (a ∷ asked_of qtype rest) (asked_of qtype rest)

-- some answers are left out, the first of which would pass the limit
pub record LeftOut (limit end : ℕ) (rest : List Answer) : Type 0 where
  pub first : Answer
  pub more : List Answer
  pub are : rest ≡ first ∷ more
  pub passes : limit < end + length (answer_octets first)

-- In plain words: of the answers that are asked for the first are taken, within the limit; `cut` tells whether one is left out, and the
-- first left out would pass the limit.
pub record AreTaken (limit used : ℕ) (asked : List Answer) (t : Taken) : Type 0 where
  pub rest : List Answer
  pub first : asked ≡ t.answers ++ rest
  pub within : used + length (answers_octets t.answers) ≤ limit
  pub whole : (t.cut ≡ false) ↔ (rest ≡ [])
  pub left_out : t.cut ≡ true → LeftOut limit (used + length (answers_octets t.answers)) rest

abbrev pub taken_of : ℕ → ℕ → List ℕ → List Answer → Taken
taken_of limit qtype question answers = taken_from limit qtype (header_octets + length question) answers

-- the octets of a reply with these answers
unfoldable pub reply_octets : ℕ → Bool → Bool → List ℕ → Taken → List ℕ
reply_octets id c t question r =
    big_octets id ++ reply_flags c r.cut t ++ count_octets (length r.answers) ++ question ++ answers_octets r.answers

-- the header of a reply, with C, TC, T and so many answers
abbrev pub reply_header : ℕ → Bool → Bool → Bool → ℕ → Header
reply_header id c tc t n =
    record {
      id = id;
      response = true;
      opcode = 0;
      conflict = c;
      truncated = tc;
      tentative = t;
      rcode = 0;
      questions = 1;
      answers = n;
      authorities = 0;
      additionals = 0;
    }

-- the records of a name that are valid on interface i, from an offset of the table on
abbrev pub answers_in : ℕ → List ℕ → ℕ → List Answer
answers_in i table at = map (answer_in table) (valid_on i (records_of table at))

-- the reply to a question of a type, with those of some records that are asked for
abbrev pub reply_to : ℕ → ReplyHead → List ℕ → ℕ → List Answer → List ℕ
reply_to limit head question qtype answers =
    reply_octets head.id head.conflict head.tentative question (taken_of limit qtype question answers)

-- a reply is written if the buffer has as many octets as the limit, and header and question do not pass it
abbrev pub has_room : List ℕ → ℕ → List ℕ → Bool
has_room out limit question = leb limit (length out) and leb (header_octets + length question) limit

-- the length that the writer gives, and the buffer that it leaves
pub record Written : Type 0 where
  pub len : ℕ
  pub octets : List ℕ

unfoldable pub reply_written : List ℕ → ℕ → ReplyHead → List ℕ → ℕ → List Answer → Written
reply_written out limit head question qtype answers =
    cond (has_room out limit question)
    (record {
      len = length (reply_to limit head question qtype answers);
      octets = put out 0 (reply_to limit head question qtype answers);
    })
    (record { len = 0; octets = out })

-- a result and a buffer are those of these answers, written after `used` octets
pub record Filled (r : Answers) (used : ℕ) (before after : List ℕ) (t : Taken) : Type 0 where
  pub end : r.end ≡ used + length (answers_octets t.answers)
  pub count : r.count ≡ length t.answers
  pub cut : r.cut ≡ t.cut
  pub written : after ≡ splice before used (answers_octets t.answers)

-- a record that fits into a message: a 16-bit type, and octets as data
pub record IsData (a : Answer) : Type 0 where
  pub rtype : a.rtype < 65536
  pub octets : Octets a.octets

abbrev pub AreData : List Answer → Type 0
AreData [] = Unit
AreData (a ∷ rest) = IsData a × AreData rest

-- a record r, read at an offset, is the answer a to a question about a name: its owner is one pointer, which expands to that name; its
-- class is IN, its TTL 30 seconds
pub record IsAnswer (s : List ℕ) (at : ℕ) (asked : List ℕ) (a : Answer) (r : ResourceRecord) : Type 0 where
  pub owner_end : r.owner.next ≡ at + 2
  pub owner_len : r.owner.len ≡ length asked
  pub pointers : r.owner.pointers ≡ 1
  pub name : expanded_at s at ≡ asked
  pub rtype : r.rtype ≡ a.rtype
  pub class : r.class ≡ 1
  pub ttl : r.ttl ≡ 30
  pub len : r.len ≡ length a.octets
  pub octets : part_of s r.start r.next ≡ a.octets

-- records that follow one another are these answers, in order
abbrev pub AreAnswers : List ℕ → ℕ → List ℕ → List Answer → List ResourceRecord → Type 0
AreAnswers s at name [] [] = Unit
AreAnswers s at name [] (r ∷ rs) = ⊥
AreAnswers s at name (a ∷ rest) [] = ⊥
AreAnswers s at name (a ∷ rest) (r ∷ rs) = IsAnswer s at name a r × AreAnswers s r.next name rest rs

-- in plain words: answers stand in s as records, one after another, from an offset up to an end
pub record Answered (s : List ℕ) (at end : ℕ) (name : List ℕ) (answers : List Answer) : Type 0 where
  pub records : List ResourceRecord
  pub are_records : AreRecords s at records end
  pub are_answers : AreAnswers s at name answers records
