-- Queries: what is written is read back.
use Rattle.std.proofs.Common.{Some, ℕ, ◌+◌, ◌*◌, ◌/◌, ◌%◌, ◌<◌, ◌≤◌, ◌≡◌, refl, sym, ◌∙◌, List, [], ◌∷◌, ◌++◌, arith, length, drop, length-append}
use Rattle.octets.specs.Octets.{Octets, part_of, splice, put}
use Rattle.octets.specs.Words.{big_octets}
use Rattle.octets.proofs.Octets.{octets_append}
use Rattle.octets.proofs.Words.{big_octets_lem}
use Rattle.octets.proofs.Splice.{put_in, put_out, put_after}
use Rattle.names.specs.Names.{Labels, encode, IsName}
use Rattle.message.specs.Bounds.{header_octets}
use Rattle.message.specs.declared.Question.{Question}
use Rattle.message.specs.Header.{bits, is_set, header_of, header_at}
use Rattle.message.specs.Question.{question_at, IsQuestion, question_octets}
use Rattle.message.specs.Query.{count_octets, query_octets, query_with}
use Rattle.message.proofs.Headers.{header_good}
use Rattle.message.proofs.Questions.{question_back, question_moves}

-- A query has 12 octets more than its question.
pub query_length : (id flags : ℕ) (question : List ℕ) → length (query_octets id flags question) ≡ header_octets + length question
unfolding query_octets
query_length id flags question = omega arith

-- The octets of a header with one question and so many answers are octets,
pub header_octets_lem : (id : ℕ) (flags : List ℕ) (answers : ℕ) → id < 65536 → Octets flags → answers < 65536
    → Octets (big_octets id ++ flags ++ count_octets answers)
header_octets_lem id flags answers h o k =
    octets_append (big_octets id ++ flags) (count_octets answers) (octets_append (big_octets id) flags (big_octets_lem id h) o)
    (omega arith, (omega arith, octets_append (big_octets answers) (0 ∷ 0 ∷ 0 ∷ 0 ∷ []) (big_octets_lem answers k) (omega arith, (omega arith, (omega arith, (omega arith, tt))))))

-- and so are those of a query.
pub query_octets_lem : (id flags : ℕ) (question : List ℕ) → id < 65536 → flags < 65536 → Octets question → Octets (query_octets id flags question)
unfolding query_octets
query_octets_lem id flags question h k o =
    octets_append (big_octets id ++ big_octets flags ++ count_octets 0) question (header_octets_lem id (big_octets flags) 0 h (big_octets_lem flags k) (omega arith)) o

-- The question's octets stand in it from 12 on.
pub query_question : (id flags : ℕ) (question : List ℕ) → drop header_octets (query_octets id flags question) ≡ question
unfolding query_octets
query_question id flags question = refl

-- The header of a query is read back with the ID and the flags that were given, one question and no record, whatever stands after it.
pub query_header : (id flags : ℕ) (question r : List ℕ)
    → header_at (query_octets id flags question ++ r)
    ≡ Some
    (record {
      id = id;
      response = is_set flags 0x8000;
      opcode = bits flags 0x800 16;
      conflict = is_set flags 0x400;
      truncated = is_set flags 0x200;
      tentative = is_set flags 0x100;
      rcode = bits flags 1 16;
      questions = 1;
      answers = 0;
      authorities = 0;
      additionals = 0;
    })
unfolding header_of query_octets
query_header id flags question r =
    let e : id / 256 * 256 + id % 256 ≡ id = omega arith in
    let f : flags / 256 * 256 + flags % 256 ≡ flags = omega arith in
    header_good (query_octets id flags question ++ r) (omega arith) ∙ rw (e, f)

-- The question of a query is read back, whatever stands after it: the one that was given by name, type and class,
pub query_asks : (id flags : ℕ) (n : Labels) (qtype class : ℕ) (r : List ℕ) → IsName n
    → question_at (query_octets id flags (question_octets (encode n) qtype class) ++ r) header_octets
    ≡ Some (record { name = length (encode n); labels = length n; qtype = qtype; class = class; end = header_octets + length (encode n) + 4 })
unfolding query_octets
query_asks id flags n qtype class r h = question_back (query_octets id flags []) n qtype class r h

-- or the one whose octets were copied from another message.
pub query_copies : (id flags : ℕ) (s : List ℕ) (at : ℕ) (q : Question) (r : List ℕ) → Octets s → IsQuestion s at q
    → question_at (query_octets id flags (part_of s at q.end) ++ r) header_octets
    ≡ Some (record { name = q.name; labels = q.labels; qtype = q.qtype; class = q.class; end = header_octets + q.name + 4 })
unfolding query_octets
query_copies id flags s at q r o f = question_moves s at q o f (query_octets id flags []) r

-- A query with flags 0 is what the plain words say.
pub query_plain : (id : ℕ) (question : List ℕ) → query_octets id 0 question ≡ query_with id question
unfolding query_octets
query_plain id question = refl

-- ---- the writer

-- a query that does not fit
pub query_out : (id flags : ℕ) (out question : List ℕ) → length out < header_octets + length question
    → out ≡ put out 0 (query_octets id flags question)
query_out id flags out question h =
    sym (put_out out 0 (query_octets id flags question) (omega (arith, query_length id flags question)))

-- and one that does, whose question is written in two runs: five writes, one after another
pub query_written : (id flags : ℕ) (out xs ys : List ℕ) {a b d e f : List ℕ} → header_octets + length xs + length ys ≤ length out
    → a ≡ put out 0 (big_octets id)
    → b ≡ put a 2 (big_octets flags)
    → d ≡ put b 4 (count_octets 0)
    → e ≡ put d header_octets xs
    → f ≡ put e (header_octets + length xs) ys
    → f ≡ put out 0 (query_octets id flags (xs ++ ys))
unfolding query_octets
query_written id flags out xs ys {a} {b} {d} {e} {f} h p q r s t =
    let k = length-append xs ys in
    let start : List ℕ = query_octets id flags [] in
    let w1 : a ≡ splice out 0 (big_octets id) = p ∙ put_in out 0 (big_octets id) (omega arith) in
    let w2 : b ≡ splice out 0 (big_octets id ++ big_octets flags) =
    q ∙ put_after out (big_octets id) (big_octets flags) a 0 2 refl w1 (omega arith) in
    let w3 : d ≡ splice out 0 start = r ∙ put_after out (big_octets id ++ big_octets flags) (count_octets 0) b 0 4 refl w2 (omega arith) in
    let w4 : e ≡ splice out 0 (start ++ xs) = s ∙ put_after out start xs d 0 header_octets refl w3 (omega arith) in
    t
    ∙ put_after out (start ++ xs) ys e 0 (header_octets + length xs) (omega (arith, query_length id flags xs)) w4 (omega arith)
    ∙ sym (put_in out 0 (query_octets id flags (xs ++ ys)) (omega (arith, query_length id flags (xs ++ ys))))
