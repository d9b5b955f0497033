-- What receive replies is the whole reply of specs/Replies.antt.
use Rattle.std.proofs.Common.{Some, ℕ, ◌+◌, ◌-◌, ◌<◌, ◌≤◌, ◌≡◌, refl, sym, ap, ◌∙◌, subst, ◌↔◌, List, [], ◌∷◌, ◌++◌, map, append_assoc, append-nil, Bool, true, false, cond, arith, length, get_or, take, drop, take_at, drop_at}
use Rattle.octets.specs.Octets.{Octets, part_of, put}
use Rattle.octets.specs.Words.{big_at, big_octets}
use Rattle.octets.proofs.Octets.{part_in, length_part, octets_part}
use Rattle.octets.proofs.Words.{big_word, big_there}
use Rattle.octets.proofs.Splice.{put_in, splice_start, length_put, front}
use Rattle.names.specs.Names.{Labels, encode, NameAt}
use Rattle.names.specs.Folding.{folded_name}
use Rattle.name_table.specs.Check.{Held, good, check_table, name_in, find_name}
use Rattle.name_table.specs.Entries.{Data, names, Owned, owned, located, valid_for, Answer, answer_of, GoodTable}
use Rattle.name_table.proofs.Meaning.{good_iff}
use Rattle.name_table.proofs.Numbers.{finds}
use Rattle.name_table.proofs.Records.{valid_are}
use Rattle.message.specs.declared.ReplyHead.{ReplyHead}
use Rattle.message.specs.Header.{header_at}
use Rattle.message.specs.Question.{question_at, IsQuestion}
use Rattle.message.specs.Query.{count_octets}
use Rattle.message.specs.Reply.{Taken, AreTaken, AreData, Answered, reply_flags, reply_header, answer_octets, answers_octets, asked_of, taken_of, answers_in, reply_to, has_room, reply_written}
use Rattle.message.proofs.Questions.{question_part, reads_a_question, question_moves}
use Rattle.message.proofs.Reply.{taken_are, reply_length}
use Rattle.message.proofs.ReplyLaws.{has_room_lem, reads_header, reply_within}
use Rattle.message.proofs.ReplyAnswers.{reads_answers, table_data}
use Rattle.host.specs.State.{state_of, verifying, shared, is}
use Rattle.host.specs.Outcomes.{Done}
use Rattle.host.specs.Receive.{Arrival, reply_head_of, replied, receive}
use Rattle.host.specs.ExactlyWhen.{RepliesWhen}
use Rattle.host.specs.declared.NameState.{NameState}
use Rattle.host.specs.declared.Host.{Host}
use Rattle.host.proofs.Received.{replies}
use Rattle.witness.specs.Replies.{asked_for, records_octets, reply_of, is_shared, is_verifying, flags_of, DoesNotFit, WholeReply, AsksTheName, ReplyFrom}
use Rattle.witness.proofs.Laid.{owns, all_octets, many, asked_are, Parts, parts, shared_is, verifying_is, reply_plain, reply_laid, written, id_is}

-- ---- the question

module _ (h : Host) (a : Arrival) (w : RepliesWhen h a) (o : Octets a.datagram) where
  pub is_question : IsQuestion a.datagram 12 w.q
  is_question = (reads_a_question a.datagram 12 w.q o).0 w.query.arrives.question

  abbrev pub labels : Labels
  labels = is_question.name.name

  pub named : part_of a.datagram 12 (12 + w.q.name) ≡ encode labels
  named =
      let f = is_question in
      let z : 12 + w.q.name - 12 ≡ length (encode f.name.name) = omega (arith, f.name.len_is) in
      part_in a.datagram 12 (12 + w.q.name) (omega arith) (omega (arith, f.whole)) ∙ rw z f.name.octets

  abbrev pub asked : List ℕ
  asked = part_of a.datagram 12 w.q.end

  pub asked_end : 12 + length asked ≡ w.q.end
  asked_end =
      let f = is_question in
      let x : 12 ≤ w.q.end = omega (arith, f.end) in
      let y : w.q.end ≤ length a.datagram = omega (arith, f.end, f.whole) in
      omega (arith, length_part a.datagram 12 w.q.end x y)

  asked_short : 12 + length asked ≤ 512
  asked_short = omega (arith, asked_end, is_question.end, is_question.name.len_is, is_question.name.is_name.short)

  pub asked_octets : asked ≡ encode labels ++ (big_octets w.q.qtype ++ big_octets w.q.class)
  asked_octets = question_part a.datagram 12 w.q o is_question ∙ append_assoc (encode labels) (big_octets w.q.qtype) (big_octets w.q.class)

  abbrev name_first : NameAt asked 0 w.q.name
  name_first =
      record {
        name = labels;
        is_name = is_question.name.is_name;
        len_is = is_question.name.len_is;
        octets = ap (take (length (encode labels))) asked_octets ∙ take_at (encode labels) (big_octets w.q.qtype ++ big_octets w.q.class) (length (encode labels)) refl;
      }

  pub same_question : Some (record { name = w.q.name; labels = w.q.labels; qtype = w.q.qtype; class = w.q.class; end = 12 + w.q.name + 4 }) ≡ Some w.q
  same_question = ap (λ (e : ℕ). Some (record { name = w.q.name; labels = w.q.labels; qtype = w.q.qtype; class = w.q.class; end = e })) (sym is_question.end)

  room_is : has_room a.out 512 asked ≡ true
  room_is = (has_room_lem a.out 512 asked).1 (w.query.arrives.called.room, asked_short)

  -- ---- the name

  module _ (ot : Octets a.table) (t : GoodTable a.table) where
    good_names : check_table a.table ≡ good (located 0 t.entries)
    good_names = (good_iff a.table (located 0 t.entries) ot).1 (t, refl)

    names_are : w.names ≡ located 0 t.entries
    names_are = let e = w.query.arrives.called.good_table in let f = good_names in cc

    found : (j : ℕ) → (find_name (located 0 t.entries) (encode labels) ≡ Some j)
        ↔ ((j < length (names t.entries)) × (folded_name (get_or (names t.entries) j []) ≡ folded_name labels))
    found j = finds a.table t labels is_question.name.is_name j

    found_here : find_name (located 0 t.entries) (encode labels) ≡ Some w.k
    found_here =
        ap (λ (x : List Held). find_name x (encode labels)) (sym names_are) ∙ ap (find_name w.names) (sym named) ∙ w.name

    number_is : (j k : ℕ) → Some j ≡ Some k → j ≡ k
    number_is j k e = cc

    asks : AsksTheName a w.q t.entries w.k (get_or (names t.entries) w.k [])
    asks =
        record {
          question = is_question;
          labels = labels;
          is_name = is_question.name.is_name;
          octets = named;
          equal = ((found w.k).0 found_here).1;
          alone = λ j l e. number_is j w.k (sym ((found j).1 (l, e)) ∙ found_here);
        }

    abbrev all_records : List Owned
    all_records = get_or (owned t.entries) w.k []

    -- on interface i
    pub valid_there : (i : ℕ) → answers_in i a.table (name_in a.table w.k).end ≡ map answer_of (valid_for i all_records)
    valid_there i = rw good_names (valid_are a.table t w.k ((found w.k).0 found_here).0 i)

    abbrev records : List Data
    records = valid_for a.interface all_records

    answers_are : answers_in a.interface a.table (name_in a.table w.k).end ≡ map answer_of records
    answers_are = valid_there a.interface

    -- ---- the reply

    abbrev state : NameState
    state = state_of h a.interface w.k

    abbrev head : ReplyHead
    head = reply_head_of a state

    abbrev taken : Taken
    taken = taken_of 512 w.q.qtype asked (map answer_of records)

    abbrev octets : List ℕ
    octets = reply_to 512 head asked w.q.qtype (map answer_of records)

    are_taken : AreTaken 512 (12 + length asked) (asked_of w.q.qtype (map answer_of records)) taken
    are_taken = taken_are 512 w.q.qtype (12 + length asked) (map answer_of records) asked_short

    split_records : Parts (asked_for w.q.qtype records) taken.answers are_taken.rest
    split_records = parts _ _ _ (sym (asked_are w.q.qtype records) ∙ are_taken.first)

    abbrev given : List Data
    given = split_records.given

    abbrev left : List Data
    left = split_records.left

    abbrev plain : List ℕ
    plain = reply_of (take 2 a.datagram) (flags_of state taken.cut) asked given

    octets_plain : octets ≡ plain
    octets_plain =
        let l : 0 + 2 ≤ length a.datagram = omega (arith, w.query.arrives.shortest) in
        reply_plain head.id (is shared state) (is verifying state) asked taken given split_records.first
        ∙ ap (λ (i : ℕ). reply_of (big_octets i) (128 + cond (is shared state) 4 0 + cond taken.cut 2 0 + cond (is verifying state) 1 0) asked given) (id_is a.datagram)
        ∙ ap (λ (i : List ℕ). reply_of i (128 + cond (is shared state) 4 0 + cond taken.cut 2 0 + cond (is verifying state) 1 0) asked given) (big_there a.datagram 0 o l)
        ∙ ap (λ (c : Bool). reply_of (take 2 a.datagram) (128 + cond c 4 0 + cond taken.cut 2 0 + cond (is verifying state) 1 0) asked given) (shared_is state)
        ∙ ap (λ (v : Bool). reply_of (take 2 a.datagram) (128 + cond (is_shared state) 4 0 + cond taken.cut 2 0 + cond v 1 0) asked given) (verifying_is state)

    abbrev done : Done
    done = replied h a (record { len = length octets; octets = put a.out 0 octets })

    done_is : receive h a ≡ done
    done_is =
        replies h a w
        ∙ ap (λ (x : List Answer). replied h a (reply_written a.out 512 head asked w.q.qtype x)) answers_are
        ∙ ap (replied h a) (written a.out 512 head asked w.q.qtype (map answer_of records) room_is)

    within : length octets ≤ 512
    within = reply_within 512 head asked w.q.qtype (map answer_of records) asked_short

    fits : length octets ≤ length a.out
    fits = omega (arith, within, w.query.arrives.called.room)

    first_octets : take (length octets) (put a.out 0 octets) ≡ octets
    first_octets = front a.out octets fits

    buffer : put a.out 0 octets ≡ octets ++ drop (length octets) a.out
    buffer = put_in a.out 0 octets (omega (arith, fits)) ∙ splice_start a.out octets

    given_length : length (answers_octets taken.answers) ≡ length (records_octets given)
    given_length = ap (λ (x : List Answer). length (answers_octets x)) split_records.first ∙ ap length (all_octets given)

    length_is : length octets ≡ w.q.end + length (records_octets given)
    length_is = omega (arith, reply_length head.id head.conflict head.tentative asked taken, asked_end, given_length)

    none_left : (taken.cut ≡ false) ↔ (left ≡ [])
    none_left = (λ e. empty left (sym split_records.rest ∙ are_taken.whole.0 e), λ e. are_taken.whole.1 (split_records.rest ∙ ap (map answer_of) e))
      where
        empty : (ds : List Data) → map answer_of ds ≡ [] → ds ≡ []
        empty [] e = refl
        empty (d ∷ ds) e = absurd (omega (arith, ap length e))

    does_not_fit : taken.cut ≡ true → DoesNotFit (length octets) left
    does_not_fit e = go left split_records.rest
      where
        go : (ds : List Data) → are_taken.rest ≡ map answer_of ds → DoesNotFit (length octets) ds
        go [] r = absurd (omega (arith, ap length (sym r ∙ (are_taken.left_out e).are)))
        go (d ∷ ds) r =
            let l = are_taken.left_out e in
            let x : answer_of d ∷ map answer_of ds ≡ l.first ∷ l.more = sym r ∙ l.are in
            let y : l.first ≡ answer_of d = cc in
            let z : 512 < 12 + length asked + length (answers_octets taken.answers) + length (answer_octets (answer_of d)) = subst (λ (v : Answer). 512 < 12 + length asked + length (answers_octets taken.answers) + length (answer_octets v)) y l.passes in
            record {
              first = d;
              more = ds;
              are = refl;
              passes = omega (arith, z, reply_length head.id head.conflict head.tentative asked taken);
            }

    header_is : header_at octets
        ≡ Some (reply_header (big_at a.datagram 0) (is_shared state) taken.cut (is_verifying state) (length given))
    header_is =
        ap header_at (sym (append-nil octets))
        ∙ reads_header 512 head asked w.q.qtype (map answer_of records) []
        ∙ ap (λ (i : ℕ). Some (reply_header i (is shared state) taken.cut (is verifying state) (length taken.answers))) (id_is a.datagram)
        ∙ ap (λ (c : Bool). Some (reply_header (big_at a.datagram 0) c taken.cut (is verifying state) (length taken.answers))) (shared_is state)
        ∙ ap (λ (v : Bool). Some (reply_header (big_at a.datagram 0) (is_shared state) taken.cut v (length taken.answers))) (verifying_is state)
        ∙ ap (λ (n : ℕ). Some (reply_header (big_at a.datagram 0) (is_shared state) taken.cut (is_verifying state) n)) (ap length split_records.first ∙ many given)

    question_is : question_at octets 12 ≡ Some w.q
    question_is =
        ap (λ (x : List ℕ). question_at x 12) (reply_laid 512 head asked w.q.qtype (map answer_of records))
        ∙ question_moves a.datagram 12 w.q o is_question
        (big_octets head.id ++ reply_flags head.conflict taken.cut head.tentative ++ count_octets (length taken.answers))
        (answers_octets taken.answers)
        ∙ same_question

    records_read : Answered octets w.q.end (length octets) (part_of a.datagram 12 (12 + w.q.name)) (map answer_of given)
    records_read =
        let id : head.id < 65536 = omega (arith, id_is a.datagram, big_word a.datagram 0 o) in
        let fit : AreData (map answer_of records) = subst AreData answers_are (table_data a.interface a.table (name_in a.table w.k).end ot) in
        let r = reads_answers 512 head asked w.q.qtype (map answer_of records) asked_short (omega arith) id (octets_part a.datagram 12 w.q.end o) fit w.q.name name_first in
        subst (λ (x : List Answer). Answered octets w.q.end (length octets) (part_of a.datagram 12 (12 + w.q.name)) x) split_records.first
        (subst (λ (x : List ℕ). Answered octets w.q.end (length octets) x taken.answers) (sym named)
        (subst (λ (x : ℕ). Answered octets x (length octets) (encode labels) taken.answers) asked_end r))

    whole_reply : WholeReply h a w.q state records done
    whole_reply =
        record {
          given = given;
          left = left;
          asked = split_records.are;
          cut = taken.cut;
          whole = none_left;
          len = length octets;
          left_out = does_not_fit;
          most = within;
          len_is = length_is;
          result = refl;
          to = refl;
          interfaces = refl;
          clock = refl;
          octets = buffer ∙ ap (λ (x : List ℕ). x ++ drop (length octets) a.out) octets_plain;
          reply_is = first_octets ∙ octets_plain;
          stay = ap (drop (length octets)) buffer ∙ drop_at octets (drop (length octets) a.out) (length octets) refl;
          size = length_put a.out 0 octets;
          reads_header = ap header_at first_octets ∙ header_is;
          reads_question = ap (λ (x : List ℕ). question_at x 12) first_octets ∙ question_is;
          reads_records = subst (λ (x : List ℕ). Answered x w.q.end (length octets) (part_of a.datagram 12 (12 + w.q.name)) (map answer_of given)) (sym first_octets) records_read;
        }

-- Where a reply goes out, it is the whole reply with the records of the one name that is asked for.
pub reply_whole : (h : Host) (a : Arrival) (w : RepliesWhen h a) → Octets a.datagram → Octets a.table → (t : GoodTable a.table)
    → ReplyFrom h a w.q w.k t.entries (receive h a)
reply_whole h a w o ot t =
    record {
      name = get_or (names t.entries) w.k [];
      records = get_or (owned t.entries) w.k [];
      owns = owns t.entries w.k ((found h a w o ot t w.k).0 (found_here h a w o ot t)).0;
      asks = asks h a w o ot t;
      whole = subst (λ (d : Done). WholeReply h a w.q (state_of h a.interface w.k) (valid_for a.interface (get_or (owned t.entries) w.k [])) d) (sym (done_is h a w o ot t)) (whole_reply h a w o ot t);
    }
