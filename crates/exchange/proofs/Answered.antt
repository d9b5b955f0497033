-- A reply that our own host sends to a lookup's query, with T and C clear, ends that lookup with the reply's ANCOUNT and the offset of its
-- first answer.
use Rattle.std.proofs.Common.{ℕ, suc, ◌+◌, ◌≡◌, refl, sym, ap, ◌∙◌, subst, List, [], ◌∷◌, ◌++◌, map, append-nil, append_assoc, true, false, arith, length, take, drop, length-take}
use Rattle.std.proofs.lemmas.List.{length-map}
use Rattle.octets.specs.Octets.{part_of}
use Rattle.octets.specs.Words.{big_at, big_octets}
use Rattle.names.specs.Names.{encode}
use Rattle.names.specs.Folding.{folded}
use Rattle.name_table.specs.Entries.{Answer, answer_of, valid_for}
use Rattle.message.specs.declared.Header.{Header}
use Rattle.message.specs.declared.Question.{Question}
use Rattle.message.specs.declared.ResourceRecord.{ResourceRecord}
use Rattle.message.specs.Header.{header_of, header_at}
use Rattle.message.specs.Question.{question_at, question_or, question_octets}
use Rattle.message.specs.Reply.{AreAnswers, Answered}
use Rattle.message.proofs.Headers.{header_is, reads_a_header}
use Rattle.message.proofs.Questions.{reads_a_question}
use Rattle.message.proofs.Query.{query_header, query_asks, query_question, query_length}
use Rattle.host.specs.State.{state_of}
use Rattle.host.specs.Outcomes.{reply, Done as HostDone}
use Rattle.host.specs.Receive.{Arrival as HostArrival, receive as host_receive}
use Rattle.host.specs.declared.NameState.{NameState}
use Rattle.host.specs.declared.Host.{Host}
use Rattle.host.proofs.Sent.{behind, reply_read}
use Rattle.witness.specs.Replies.{WholeReply, is_shared, is_verifying}
use Rattle.witness.proofs.Laid.{id_is}
use Rattle.witness.proofs.Replies.{reply_whole}
use Rattle.lookup.specs.State.{name_of, with_phase}
use Rattle.lookup.specs.Outcomes.{CallResult, found, silent, query_for}
use Rattle.lookup.specs.Receive.{Arrival, receive}
use Rattle.lookup.specs.Refusals.{IsAwaited}
use Rattle.lookup.specs.ExactlyWhen.{HearsWhen}
use Rattle.lookup.specs.declared.Phase.TheVariants.{Ended}
use Rattle.lookup.specs.declared.Lookup.{Lookup}
use Rattle.lookup.proofs.Started.{query_is}
use Rattle.lookup.proofs.Received.{found_is}
use Rattle.exchange.specs.Answered.{Asked, Owned, unique, defending, Gets, EndsWith}

-- there are as many records as answers
as_many : (s : List ℕ) (at : ℕ) (name : List ℕ) (xs : List Answer) (rs : List ResourceRecord) → AreAnswers s at name xs rs → length rs ≡ length xs
as_many s at name [] [] h = refl
as_many s at name [] (r ∷ rs) h = absurd h
as_many s at name (x ∷ xs) [] h = absurd h
as_many s at name (x ∷ xs) (r ∷ rs) h = ap suc (as_many s r.next name xs rs h.1)

not_shared : {s : NameState} → Owned s → is_shared s ≡ false
not_shared unique = refl
not_shared (defending id qtype class timer) = refl

not_verifying : {s : NameState} → Owned s → is_verifying s ≡ false
not_verifying unique = refl
not_verifying (defending id qtype class timer) = refl

module _ (l : Lookup) (h : Host) (a : HostArrival) (w : Asked l h a) where
  -- the query as the host reads it
  abbrev q : Question
  q = w.replies.q

  abbrev name : List ℕ
  name = encode w.name.name

  datagram_is : a.datagram ≡ query_for l.id name l.qtype
  datagram_is = w.query ∙ sym (query_is l.id (name_of l) l.qtype) ∙ ap (λ (x : List ℕ). query_for l.id x l.qtype) w.name.octets_are

  question_is : q ≡ record { name = length name; labels = length w.name.name; qtype = l.qtype; class = 1; end = 12 + length name + 4 }
  question_is =
      ap question_or
      (sym w.replies.query.arrives.question
      ∙ ap (λ (x : List ℕ). question_at x 12) (datagram_is ∙ sym (append-nil _))
      ∙ query_asks l.id 0 w.name.name l.qtype 1 [] w.name.is_name)

  id_asked : (header_of a.datagram).id ≡ l.id
  id_asked =
      ap (λ (x : Header). x.id)
      (header_is a.datagram _ (ap header_at (datagram_is ∙ sym (append-nil _)) ∙ query_header l.id 0 (question_octets name l.qtype 1) []))

  name_asked : part_of a.datagram 12 (12 + length name) ≡ name
  name_asked =
      let d : drop 12 a.datagram ≡ name ++ (big_octets l.qtype ++ big_octets 1) =
      ap (drop 12) datagram_is ∙ query_question l.id 0 (question_octets name l.qtype 1) ∙ append_assoc name (big_octets l.qtype) (big_octets 1) in
      behind a.datagram name _ (12 + length name) d (omega (arith, ap length datagram_is, query_length l.id 0 (question_octets name l.qtype 1))) refl

  -- the reply
  abbrev from_host : HostDone
  from_host = host_receive h a

  abbrev whole : WholeReply h a q (state_of h a.interface w.replies.k) (valid_for a.interface (reply_whole h a w.replies w.octets w.table_octets w.table).records) from_host
  whole = (reply_whole h a w.replies w.octets w.table_octets w.table).whole

  module _ (own : Owned (state_of h a.interface w.replies.k)) (b : Arrival) (len : ℕ) (e : from_host.result ≡ reply len) (g : Gets l b (take len from_host.octets)) where
    len_is : whole.len ≡ len
    len_is = let r = whole.result in cc

    here : take whole.len from_host.octets ≡ b.datagram
    here = ap (λ (n : ℕ). take n from_host.octets) len_is ∙ sym g.datagram

    header_here : header_of b.datagram
        ≡ record {
          id = big_at a.datagram 0;
          response = true;
          opcode = 0;
          conflict = is_shared (state_of h a.interface w.replies.k);
          truncated = whole.cut;
          tentative = is_verifying (state_of h a.interface w.replies.k);
          rcode = 0;
          questions = 1;
          answers = length whole.given;
          authorities = 0;
          additionals = 0;
        }
    header_here = header_is b.datagram _ (ap header_at (sym here) ∙ whole.reads_header)

    name_here : part_of b.datagram 12 (12 + q.name) ≡ name
    name_here =
        ap (λ (x : List ℕ). part_of x 12 (12 + q.name)) g.datagram
        ∙ (reply_read h a len w.replies w.octets e).name_is
        ∙ ap (λ (x : Question). part_of a.datagram 12 (12 + x.name)) question_is
        ∙ name_asked

    records_here : Answered b.datagram q.end whole.len (part_of a.datagram 12 (12 + q.name)) (map answer_of whole.given)
    records_here = subst (λ (x : List ℕ). Answered x q.end whole.len (part_of a.datagram 12 (12 + q.name)) (map answer_of whole.given)) here whole.reads_records

    awaited : IsAwaited l b q
    awaited =
        record {
          waits = rw g.phase tt;
          id = ap (λ (x : Header). x.id) header_here ∙ sym (id_is a.datagram) ∙ id_asked;
          qtype = ap (λ (x : Question). x.qtype) question_is;
          class = ap (λ (x : Question). x.class) question_is;
          name = ap (map folded) (w.name.octets_are ∙ sym name_here);
        }

    hears : HearsWhen l b q
    hears =
        let r = (reads_a_header b.datagram _ g.octets).0 (ap header_at (sym here) ∙ whole.reads_header) in
        record {
          room = g.room;
          used = g.used;
          latest = g.latest;
          in_order = g.in_order;
          shortest = r.whole;
          longest = omega (arith, ap length g.datagram, length-take len from_host.octets, whole.most, len_is);
          is_response = ap (λ (x : Header). x.response) header_here;
          from_family = g.from_family;
          to_family = g.to_family;
          not_to_group = g.not_to_group;
          opcode = ap (λ (x : Header). x.opcode) header_here;
          rcode = ap (λ (x : Header). x.rcode) header_here;
          one_question = ap (λ (x : Header). x.questions) header_here;
          question = (reads_a_question b.datagram 12 q g.octets).0 (ap (λ (x : List ℕ). question_at x 12) (sym here) ∙ whole.reads_question);
          awaited = awaited;
          not_ours = g.not_ours;
          t_clear = ap (λ (x : Header). x.tentative) header_here ∙ not_verifying own;
          records = records_here.records;
          end = whole.len;
          are_records = records_here.are_records;
          as_many =
              as_many b.datagram q.end _ (map answer_of whole.given) records_here.records records_here.are_answers
              ∙ length-map whole.given answer_of
              ∙ sym (ap (λ (x : Header). x.answers) header_here);
        }

    -- The lookup ends with the numbers of the reply.
    pub reply_ends_lookup : EndsWith l b len (receive l b)
    reply_ends_lookup =
        let n : name ≡ name_of l = sym w.name.octets_are in
        let at : q.end ≡ 12 + length (name_of l) + 4 = ap (λ (x : Question). x.end) question_is ∙ ap (λ (x : List ℕ). 12 + length x + 4) n in
        record {
          given = whole.given;
          comes =
              found_is l b g.octets q (record { hears = hears; c_clear = ap (λ (x : Header). x.conflict) header_here ∙ not_shared own })
              ∙ ap (λ (r : CallResult). silent (with_phase l Ended b.time) b.out r)
              (ap (λ (x : ℕ). found x (header_of b.datagram).answers) at ∙ ap (λ (x : Header). found (12 + length (name_of l) + 4) x.answers) header_here);
          answers =
              subst (λ (x : ℕ). Answered b.datagram x len (name_of l) (map answer_of whole.given)) at
              (subst (λ (x : List ℕ). Answered b.datagram q.end len x (map answer_of whole.given))
              (ap (λ (x : Question). part_of a.datagram 12 (12 + x.name)) question_is ∙ name_asked ∙ n)
              (subst (λ (x : ℕ). Answered b.datagram q.end x (part_of a.datagram 12 (12 + q.name)) (map answer_of whole.given)) len_is records_here));
        }
