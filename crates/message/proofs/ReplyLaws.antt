-- What a reply is, in plain words: what is asked, its length, what stands in it, and its header as a reader finds it.
use Rattle.std.proofs.Common.{Some, ℕ, ◌+◌, ◌≤◌, ◌≡◌, refl, sym, ap, ◌∙◌, List, ◌++◌, Bool, true, false, ◌↔◌, ◌⊎◌, arith, length, take, drop, take_at, drop_at, drop-drop, le-ltb}
use mathlib.Core.Logic.Iff
use Rattle.octets.specs.Words.{big_at}
use Rattle.octets.proofs.Tests.{both, either, either_way, same_number, upto_number}
use Rattle.octets.proofs.Splice.{front}
use Rattle.names.specs.Names.{Stand}
use Rattle.name_table.specs.Entries.{Answer}
use Rattle.message.specs.Bounds.{header_octets}
use Rattle.message.specs.declared.Header.{Header}
use Rattle.message.specs.declared.ReplyHead.{ReplyHead}
use Rattle.message.specs.Header.{bits, is_set, header_of, header_at}
use Rattle.message.specs.Reply.{reply_flags, answers_octets, is_asked, Taken, taken_of, reply_octets, reply_header, reply_to, has_room, reply_written}
use Rattle.message.proofs.Reply.{taken_are, reply_length}

-- ---- what is asked

-- A question asks for the records of its type, and one of type 255 for all.
pub asked_is : (qtype rtype : ℕ) → (is_asked qtype rtype ≡ true) ↔ ((rtype ≡ qtype) ⊎ (qtype ≡ 255))
asked_is qtype rtype = Iff.trans (either _ _) (either_way (same_number _ _) (same_number _ _))

-- ---- lengths, and where things stand

-- There is room for a reply exactly if the limit is within the buffer, and header and question are within the limit.
pub has_room_lem : (out : List ℕ) (limit : ℕ) (question : List ℕ)
    → (has_room out limit question ≡ true) ↔ ((limit ≤ length out) × (header_octets + length question ≤ limit))
has_room_lem out limit question = Iff.trans (both _ _) (Iff.and (upto_number _ _) (upto_number _ _))

module _ (limit : ℕ) (head : ReplyHead) (question : List ℕ) (qtype : ℕ) (answers : List Answer) where
  -- A reply is at least a header.
  pub reply_has_header : header_octets ≤ length (reply_to limit head question qtype answers)
  reply_has_header = omega (arith, reply_length head.id head.conflict head.tentative question (taken_of limit qtype question answers))

  -- It is at most its limit.
  pub reply_within : header_octets + length question ≤ limit → length (reply_to limit head question qtype answers) ≤ limit
  reply_within h =
      omega
      (arith, reply_length head.id head.conflict head.tentative question (taken_of limit qtype question answers), (taken_are limit qtype (header_octets + length question) answers h).within)

  -- behind the header
  pub body_is : drop header_octets (reply_to limit head question qtype answers) ≡ question ++ answers_octets (taken_of limit qtype question answers).answers
  unfolding reply_octets
  body_is = refl

  -- The question's octets stand behind the header as they were received.
  pub question_stands : Stand (reply_to limit head question qtype answers) header_octets question
  question_stands =
      ap (take (length question)) body_is ∙ take_at question (answers_octets (taken_of limit qtype question answers).answers) (length question) refl

  -- The answers stand behind the question, and end where the reply ends.
  pub answers_stand : drop (header_octets + length question) (reply_to limit head question qtype answers) ≡ answers_octets (taken_of limit qtype question answers).answers
  answers_stand =
      sym (drop-drop (length question) header_octets (reply_to limit head question qtype answers))
      ∙ ap (drop (length question)) body_is
      ∙ drop_at question (answers_octets (taken_of limit qtype question answers).answers) (length question) refl

  -- Where there is room, the buffer begins with the reply, whose length the writer gives.
  pub written_is : (out : List ℕ) → has_room out limit question ≡ true
      → take (reply_written out limit head question qtype answers).len (reply_written out limit head question qtype answers).octets
      ≡ reply_to limit head question qtype answers
  unfolding reply_written
  written_is out e =
      let h = (has_room_lem out limit question).0 e in
      rw e (front out (reply_to limit head question qtype answers) (omega (arith, reply_within h.1, h.0)))

  -- Where there is none, nothing is written.
  pub none_written : (out : List ℕ) → has_room out limit question ≡ false
      → reply_written out limit head question qtype answers ≡ record { len = 0; octets = out }
  unfolding reply_written
  none_written out e = rw e

-- ---- the header

-- what stands in the header, as it is read, field by field
abbrev flags_word : Bool → Bool → Bool → ℕ
flags_word c tc t = big_at (reply_flags c tc t) 0

abbrev found : ℕ → Bool → Bool → Bool → ℕ → Header
found id c tc t n =
    record {
      id = id;
      response = is_set (flags_word c tc t) 0x8000;
      opcode = bits (flags_word c tc t) 0x800 16;
      conflict = is_set (flags_word c tc t) 0x400;
      truncated = is_set (flags_word c tc t) 0x200;
      tentative = is_set (flags_word c tc t) 0x100;
      rcode = bits (flags_word c tc t) 1 16;
      questions = 1;
      answers = n;
      authorities = 0;
      additionals = 0;
    }

flags_back : (id : ℕ) (c tc t : Bool) (n : ℕ) → found id c tc t n ≡ reply_header id c tc t n
flags_back id true true true n = refl
flags_back id true true false n = refl
flags_back id true false true n = refl
flags_back id true false false n = refl
flags_back id false true true n = refl
flags_back id false true false n = refl
flags_back id false false true n = refl
flags_back id false false false n = refl

header_back : (id : ℕ) (c t : Bool) (question : List ℕ) (r : Taken) (rest : List ℕ)
    → header_at (reply_octets id c t question r ++ rest) ≡ Some (reply_header id c r.cut t (length r.answers))
unfolding header_at header_of reply_octets
header_back id c t question r rest =
    let n : ℕ = length r.answers in
    let s : List ℕ = reply_octets id c t question r ++ rest in
    let l : header_octets ≤ length s = omega arith in
    let p : big_at s 0 ≡ id = omega arith in
    let q : big_at s 6 ≡ n = omega arith in
    rw (le-ltb _ _ l)
    (ap (λ (i : ℕ). Some (found i c r.cut t (big_at s 6))) p
    ∙ ap (λ (k : ℕ). Some (found id c r.cut t k)) q
    ∙ ap (λ (h : Header). Some h) (flags_back id c r.cut t n))

-- Whatever follows a reply, a reader finds the query's ID, QR set, C and T as they were given, TC set where an answer was left out, one
-- question, and as many answers as were taken.
pub reads_header : (limit : ℕ) (head : ReplyHead) (question : List ℕ) (qtype : ℕ) (answers : List Answer) (rest : List ℕ)
    → header_at (reply_to limit head question qtype answers ++ rest)
    ≡ Some
    (reply_header
    head.id
    head.conflict
    (taken_of limit qtype question answers).cut
    head.tentative
    (length (taken_of limit qtype question answers).answers))
reads_header limit head question qtype answers rest = header_back head.id head.conflict head.tentative question (taken_of limit qtype question answers) rest
