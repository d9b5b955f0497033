-- The answers of a reply, in plain words: what a reader finds behind the question.
use Rattle.std.proofs.Common.{ℕ, suc, zero, ◌+◌, ◌-◌, ◌<◌, ◌≤◌, ◌≡◌, refl, sym, ap, ◌∙◌, subst, List, [], ◌∷◌, ◌++◌, map, Bool, true, false, cond, arith, length, take, drop, length-append, length-drop, take_at, drop_at, drop-drop, eqb}
use Rattle.std.proofs.lemmas.List.{take-append-le}
use Rattle.octets.specs.Octets.{Octets, part_of}
use Rattle.octets.specs.Words.{big_at, big_octets}
use Rattle.octets.proofs.Tests.{split}
use Rattle.octets.proofs.Octets.{octets_append, octets_part, part_in}
use Rattle.octets.proofs.Words.{big_drop}
use Rattle.names.specs.Names.{encode, NameAt}
use Rattle.names.specs.Readings.{pointer, ReadingAt}
use Rattle.names.proofs.Names.{encode_some, name_inside}
use Rattle.names.proofs.Readings.{expands}
use Rattle.names.proofs.Plain.{plain_reading, reading_labels}
use Rattle.name_table.specs.Bounds.{everywhere, entry_head, type_a, type_aaaa, type_ptr}
use Rattle.name_table.specs.Entries.{Answer}
use Rattle.name_table.specs.Kinds.{kind_of}
use Rattle.name_table.specs.Masks.{is_valid}
use Rattle.name_table.specs.Check.{is_whole, kind_at, length_at}
use Rattle.name_table.specs.Records.{record_by, record_at, on_record, records_from, valid_on, answer_in}
use Rattle.name_table.specs.declared.Record.{Record}
use Rattle.name_table.specs.declared.RecordRead.{RecordRead}
use Rattle.name_table.specs.declared.RecordRead.TheVariants.{Good as Found, Mask, End}
use Rattle.message.specs.declared.ReplyHead.{ReplyHead}
use Rattle.message.specs.declared.ResourceRecord.{ResourceRecord}
use Rattle.message.specs.Bounds.{header_octets, class_in, reply_ttl, owner_octets, before_data}
use Rattle.message.specs.Query.{count_octets}
use Rattle.message.specs.Records.{IsRecord}
use Rattle.message.specs.Reply.{reply_flags, answer_octets, answers_octets, is_asked, Taken, asked_of, taken_of, reply_octets, answers_in, reply_to, IsData, AreData, IsAnswer, Answered}
use Rattle.message.proofs.Query.{header_octets_lem}
use Rattle.message.proofs.Reply.{octets_count, taken_are, reply_length}
use Rattle.message.proofs.ReplyLaws.{body_is, answers_stand}

-- ---- the answers, as records

-- one answer, that stands in s at p with octets behind it
module _ (s : List ℕ) (p : ℕ) (a : Answer) (rest : List ℕ) (e : drop p s ≡ answer_octets a ++ rest) where
  word_there : (j k : ℕ) → j ≡ p + k → big_at s j ≡ big_at (answer_octets a ++ rest) k
  word_there j k q = ap (λ (i : ℕ). big_at s i) q ∙ big_drop s p k ∙ ap (λ (l : List ℕ). big_at l k) e

  ends_inside : p + before_data + length a.octets ≤ length s
  ends_inside = omega (arith, length-drop p s, ap length e, length-append a.octets rest)

  behind_it : drop (p + before_data + length a.octets) s ≡ rest
  behind_it =
      let z : p + before_data + length a.octets ≡ p + length (answer_octets a) = omega arith in
      ap (λ (k : ℕ). drop k s) z
      ∙ sym (drop-drop (length (answer_octets a)) p s)
      ∙ ap (drop (length (answer_octets a))) e
      ∙ drop_at (answer_octets a) rest (length (answer_octets a)) refl

  data_there : part_of s (p + before_data) (p + before_data + length a.octets) ≡ a.octets
  data_there =
      let h : p + before_data ≤ p + before_data + length a.octets = omega arith in
      let z : length a.octets ≡ p + before_data + length a.octets - (p + before_data) = omega arith in
      part_in s (p + before_data) (p + before_data + length a.octets) h ends_inside
      ∙ ap (take (p + before_data + length a.octets - (p + before_data))) (sym (drop-drop before_data p s) ∙ ap (drop before_data) e)
      ∙ take_at a.octets rest _ z

-- the record that a reader finds at p for an answer, whose owner expands to len octets and so many labels
abbrev record_for : ℕ → ℕ → ℕ → Answer → ResourceRecord
record_for len count p a =
    record {
      owner = record { next = p + owner_octets; len = len; pointers = 1; labels = count };
      rtype = a.rtype;
      class = class_in;
      ttl = reply_ttl;
      len = length a.octets;
      start = p + before_data;
      next = p + before_data + length a.octets;
    }

-- a message in which a name stands behind the header
module _ (s : List ℕ) (o : Octets s) (len : ℕ) (f : NameAt s header_octets len) where
  name_reading : ReadingAt s header_octets (record { next = header_octets + len; len = len; pointers = 0; labels = length f.name })
  name_reading = plain_reading s header_octets len f

  module _ (p : ℕ) (a : Answer) (rest : List ℕ) (h : header_octets < p) (e : drop p s ≡ answer_octets a ++ rest) where
    -- its owner is the pointer and then the name's labels
    owner_there : ReadingAt s p (record { next = p + owner_octets; len = len; pointers = 1; labels = length f.name })
    owner_there =
        let w = word_there s p a rest e p 0 (omega arith) in
        record {
          steps = pointer header_octets ∷ name_reading.steps;
          reads = (
            record { inside = omega (arith, ends_inside s p a rest e); word = omega arith; after_header = omega arith; backwards = h },
            name_reading.reads,
          );
          next_is = refl;
          len_is = name_reading.len_is;
          pointers_are = omega (arith, name_reading.pointers_are);
          labels_are = name_reading.labels_are;
          short = name_reading.short;
          few = omega arith;
        }

    is_record : IsRecord s p (record_for len (length f.name) p a)
    is_record =
        let w2 = word_there s p a rest e (p + owner_octets) owner_octets refl in
        let w4 = word_there s p a rest e (p + owner_octets + 2) 4 (omega arith) in
        let w6 = word_there s p a rest e (p + owner_octets + 4) 6 (omega arith) in
        let w8 = word_there s p a rest e (p + owner_octets + 6) 8 (omega arith) in
        let w10 = word_there s p a rest e (p + owner_octets + 8) 10 (omega arith) in
        record {
          owner = owner_there;
          rtype = omega arith;
          class = omega arith;
          ttl = omega arith;
          len = omega arith;
          start = omega arith;
          next = refl;
          whole = ends_inside s p a rest e;
        }

    is_answer : IsAnswer s p (encode f.name) a (record_for len (length f.name) p a)
    unfolding owner_there name_reading
    is_answer =
        record {
          owner_end = refl;
          owner_len = f.len_is;
          pointers = refl;
          name = expands s p _ o owner_there ∙ ap encode (reading_labels s header_octets len f);
          rtype = refl;
          class = refl;
          ttl = refl;
          len = refl;
          octets = data_there s p a rest e;
        }

  answered : (p end : ℕ) (xs : List Answer) → header_octets < p → drop p s ≡ answers_octets xs → p + length (answers_octets xs) ≡ end
      → Answered s p end (encode f.name) xs
  answered p end [] h e n = record { records = []; are_records = omega arith; are_answers = tt }
  answered p end (a ∷ xs) h e n =
      let q : ℕ = p + before_data + length a.octets in
      let r = answered q end xs (omega arith) (behind_it s p a (answers_octets xs) e) (omega (arith, length-append (answer_octets a) (answers_octets xs))) in
      record {
        records = record_for len (length f.name) p a ∷ r.records;
        are_records = (is_record p a (answers_octets xs) h e, r.are_records);
        are_answers = (is_answer p a (answers_octets xs) h e, r.are_answers);
      }

-- ---- the octets

answer_octets_lem : (a : Answer) → IsData a → length a.octets < 65536 → Octets (answer_octets a)
answer_octets_lem a d h =
    let t = d.rtype in
    (omega arith, (omega arith, (omega arith, (omega arith, (omega arith, (omega arith, (omega arith, (omega arith, (omega arith, (omega arith, (omega arith, (omega arith, d.octets))))))))))))

answers_octets_lem : (xs : List Answer) → AreData xs → length (answers_octets xs) < 65536 → Octets (answers_octets xs)
answers_octets_lem [] d h = tt
answers_octets_lem (a ∷ xs) d h =
    let n = length-append (answer_octets a) (answers_octets xs) in
    octets_append (answer_octets a) (answers_octets xs) (answer_octets_lem a d.0 (omega arith)) (answers_octets_lem xs d.1 (omega arith))

flags_octet : (c tc t : Bool) → 0x80 + cond c 0x04 0 + cond tc 0x02 0 + cond t 0x01 0 < 256
flags_octet c tc t = omega (arith, most c 0x04, most tc 0x02, most t 0x01)
  where
    most : (b : Bool) (n : ℕ) → cond b n 0 ≤ n
    most true n = omega arith
    most false n = omega arith

octets_of_reply : (id : ℕ) (c t : Bool) (question : List ℕ) (r : Taken) → id < 65536 → length r.answers < 65536 → Octets question
    → Octets (answers_octets r.answers) → Octets (reply_octets id c t question r)
unfolding reply_octets
octets_of_reply id c t question r h n q o =
    octets_append (big_octets id ++ reply_flags c r.cut t ++ count_octets (length r.answers)) (question ++ answers_octets r.answers)
    (header_octets_lem id (reply_flags c r.cut t) (length r.answers) h (flags_octet c r.cut t, (omega arith, tt)) n)
    (octets_append question (answers_octets r.answers) q o)

-- what holds of all answers holds of those that are taken
data_first : (xs ys : List Answer) → AreData (xs ++ ys) → AreData xs
data_first [] ys d = tt
data_first (a ∷ xs) ys d = (d.0, data_first xs ys d.1)

data_asked : (qtype : ℕ) (xs : List Answer) → AreData xs → AreData (asked_of qtype xs)
unfolding asked_of
data_asked qtype [] d = tt
data_asked qtype (a ∷ xs) d =
    split (is_asked qtype a.rtype) (λ e. rw e (d.0, data_asked qtype xs d.1)) (λ e. rw e (data_asked qtype xs d.1))

-- ---- a reply to a question about a name

module _ (limit : ℕ) (head : ReplyHead) (question : List ℕ) (qtype : ℕ) (answers : List Answer)
    (room : header_octets + length question ≤ limit) (short : limit < 65536) (id : head.id < 65536) (q : Octets question) (d : AreData answers) where
  -- Every number of a reply is an octet.
  pub reply_octets_lem : Octets (reply_to limit head question qtype answers)
  reply_octets_lem =
      let t : Taken = taken_of limit qtype question answers in
      let r = taken_are limit qtype (header_octets + length question) answers room in
      let x : AreData t.answers = data_first t.answers r.rest (subst (λ (l : List Answer). AreData l) r.first (data_asked qtype answers d)) in
      let w : length (answers_octets t.answers) < 65536 = omega (arith, r.within) in
      octets_of_reply head.id head.conflict head.tentative question t id (omega (arith, octets_count t.answers)) q (answers_octets_lem t.answers x w)

  module _ (len : ℕ) (f : NameAt question 0 len) where
    -- A name that the question begins with stands in the reply behind the header.
    pub name_stands : NameAt (reply_to limit head question qtype answers) header_octets len
    name_stands =
        let n : List ℕ = encode f.name in
        let h : length n ≤ length question = omega (arith, name_inside question 0 len f, f.len_is) in
        record {
          name = f.name;
          is_name = f.is_name;
          len_is = f.len_is;
          octets =
              ap (take (length n)) (body_is limit head question qtype answers)
              ∙ take-append-le (length n) question (answers_octets (taken_of limit qtype question answers).answers) h
              ∙ f.octets;
        }

    -- Behind the question a reader finds the answers that were taken, in order, up to the end of the reply: each is a record of its
    -- type, of class IN, with a TTL of 30 seconds, its data as it is in the table, and the question's name as its owner.
    pub reads_answers : Answered
        (reply_to limit head question qtype answers)
        (header_octets + length question)
        (length (reply_to limit head question qtype answers))
        (encode f.name)
        (taken_of limit qtype question answers).answers
    unfolding name_stands
    reads_answers =
        let t : Taken = taken_of limit qtype question answers in
        let p : header_octets < header_octets + length question = omega (arith, name_inside question 0 len f, f.len_is, encode_some f.name) in
        answered (reply_to limit head question qtype answers) reply_octets_lem len name_stands (header_octets + length question) _ t.answers p
        (answers_stand limit head question qtype answers)
        (sym (reply_length head.id head.conflict head.tentative question t))

-- ---- the answers of a table

type_of : (n : ℕ) (u : List ℕ) (start end : ℕ) (r : Record) → record_by (kind_of n) u start end ≡ Found r → r.rtype < 65536
unfolding record_by kind_of
type_of n u start end r e =
    split (eqb n 1) (λ k1. absurd (let z : ◌≡◌ {A = ℕ} 0 1 = cc (rw k1 at e) in omega arith)) λ k1.
    split (eqb n 2) (λ k2. absurd (let z : ◌≡◌ {A = ℕ} 0 1 = cc (rw (k1, k2) at e) in omega arith)) λ k2.
    split (eqb n 3) (λ k3. known type_a (rw (k1, k2, k3) at e) (omega arith)) λ k3.
    split (eqb n 4) (λ k4. known type_aaaa (rw (k1, k2, k3, k4) at e) (omega arith)) λ k4.
    split (eqb n 5) (λ k5. known type_ptr (rw (k1, k2, k3, k4, k5) at e) (omega arith)) λ k5.
    split (eqb n 6) (λ k6. absurd (let z : ◌≡◌ {A = ℕ} 0 1 = cc (rw (k1, k2, k3, k4, k5, k6) at e) in omega arith)) λ k6.
    absurd (let z : ◌≡◌ {A = ℕ} 0 1 = cc (rw (k1, k2, k3, k4, k5, k6) at e) in omega arith)
  where
    known : (t : ℕ) → Found (record { rtype = t; start = start; end = end }) ≡ Found r → t < 65536 → r.rtype < 65536
    known t f h =
        let q : record { rtype = t; start = start; end = end } ≡ r = cc in
        omega (arith, ap (λ (v : Record). v.rtype) q)

record_data : (table : List ℕ) (at : ℕ) (r : Record) → Octets table → record_at table at ≡ Found r → IsData (answer_in table r)
unfolding record_at
record_data table at r o e =
    split (is_whole (drop at table))
    (λ p. record {
      rtype = type_of (kind_at (drop at table)) (drop at table) (at + entry_head) (at + length_at (drop at table)) r (rw p at e);
      octets = octets_part table r.start r.end o;
    })
    (λ p. absurd (let z : ◌≡◌ {A = ℕ} 0 1 = cc (rw p at e) in omega arith))

records_data : (i k : ℕ) (table : List ℕ) (m at : ℕ) → Octets table → AreData (map (answer_in table) (valid_on i (records_from k table m at)))
unfolding records_from valid_on
records_data i zero table m at o = tt
records_data i (suc k) table m at o = go (record_at table at) refl (λ l end. records_data i k table l end o)
  where
    go : (x : RecordRead) → record_at table at ≡ x
        → ((l end : ℕ) → AreData (map (answer_in table) (valid_on i (records_from k table l end))))
        → AreData (map (answer_in table) (valid_on i (on_record x m (records_from k table))))
    go (Found r) e f = split (is_valid m i) (λ v. rw v (record_data table at r o e, f m r.end)) (λ v. rw v (f m r.end))
    go (Mask l end) e f = f l end
    go End e f = tt

-- Every record of a table fits into a message.
pub table_data : (i : ℕ) (table : List ℕ) (at : ℕ) → Octets table → AreData (answers_in i table at)
table_data i table at o = records_data i (suc (length table)) table everywhere at o
