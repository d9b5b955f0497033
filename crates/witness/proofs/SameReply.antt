-- Two queries with the same ID and the same question get the same reply, whatever else they hold, and wherever they arrived if the same
-- records of the name are valid there.
use Rattle.std.proofs.Common.{Some, ℕ, ◌+◌, ◌-◌, ◌*◌, ◌/◌, ◌<◌, ◌≤◌, ◌≡◌, refl, sym, ap, ◌∙◌, subst, List, [], ◌∷◌, ◌++◌, map, Bool, arith, length, get_or, take, drop, take-append-drop, take_at, take-take, length-take-le, eqb, ltb, ltb-true, ltb-false}
use Rattle.std.proofs.Math.Logic.{⊎_map}
use Rattle.octets.specs.Octets.{Octets, octet_at, part_of}
use Rattle.octets.specs.Words.{big_octets}
use Rattle.octets.proofs.Octets.{part_in, part_past, octet_at_lem}
use Rattle.names.specs.Names.{Labels, encode}
use Rattle.name_table.specs.Check.{name_in, find_name}
use Rattle.name_table.specs.Entries.{Owned, owned, valid_for, Answer, answer_of, GoodTable}
use Rattle.message.specs.declared.Question.{Question}
use Rattle.message.specs.Header.{bits, header_of}
use Rattle.message.specs.Question.{question_at}
use Rattle.message.specs.Reply.{reply_written, answers_in}
use Rattle.message.proofs.Questions.{question_moves}
use Rattle.octets.specs.declared.Endpoint.{Endpoint}
use Rattle.host.specs.State.{state_of, verifying, shared, is, with_clock}
use Rattle.host.specs.Outcomes.{Done, reply}
use Rattle.host.specs.Receive.{Arrival, answered, receive}
use Rattle.host.specs.ExactlyWhen.{RepliesWhen}
use Rattle.host.specs.declared.NameState.{NameState}
use Rattle.host.specs.declared.Host.{Host}
use Rattle.host.proofs.Received.{replies}
use Rattle.witness.specs.Replies.{Owns}
use Rattle.witness.specs.SameReply.{SameAsked, AlikeStates, SameQuery, with_datagram, AlikeInterface, on_interface}
use Rattle.witness.proofs.Replies.{is_question, labels, named, asked_end, asked_octets, same_question, valid_there}
use Rattle.witness.proofs.OnlyItsOwn.{records_of}
use Rattle.witness.proofs.Laid.{id_is, shared_is, verifying_is}
use Rattle.octets.proofs.Tests.{split}

-- ---- what a reply depends on

abbrev reply_by : Host → ℕ → Endpoint → List ℕ → List Answer → ℕ → Bool → Bool → List ℕ → ℕ → Done
reply_by h time from out answers id c t question qtype =
    let w = reply_written out 512 (record { id = id; conflict = c; tentative = t }) question qtype answers in
    record { host = with_clock h time; result = reply w.len; to = from; octets = w.octets }

by_parts : (h : Host) (a : Arrival) (q : Question) (k : ℕ) → answered h a q k
    ≡ reply_by h a.time a.from a.out (answers_in a.interface a.table (name_in a.table k).end) (header_of a.datagram).id
    (is shared (state_of h a.interface k)) (is verifying (state_of h a.interface k)) (part_of a.datagram 12 q.end) q.qtype
by_parts h a q k = refl

-- ---- the name in a question's octets

name_of : (h : Host) (a : Arrival) (w : RepliesWhen h a) (o : Octets a.datagram)
    → part_of a.datagram 12 (12 + w.q.name) ≡ take w.q.name (part_of a.datagram 12 w.q.end)
name_of h a w o =
    named h a w o
    ∙ sym (ap (take w.q.name) (asked_octets h a w o)
    ∙ take_at (encode (labels h a w o)) (big_octets w.q.qtype ++ big_octets w.q.class) w.q.name (sym (is_question h a w o).name.len_is))

-- the question that its octets make, behind twelve others
abbrev twelve : List ℕ
twelve = 0 ∷ 0 ∷ 0 ∷ 0 ∷ 0 ∷ 0 ∷ 0 ∷ 0 ∷ 0 ∷ 0 ∷ 0 ∷ 0 ∷ []

question_of : (h : Host) (a : Arrival) (w : RepliesWhen h a) (o : Octets a.datagram)
    → question_at (twelve ++ (part_of a.datagram 12 w.q.end ++ [])) 12 ≡ Some w.q
question_of h a w o = question_moves a.datagram 12 w.q o (is_question h a w o) twelve [] ∙ same_question h a w o

-- ---- the same reply

module _ (h : Host) (a b : Arrival) (v : RepliesWhen h a) (w : RepliesWhen h b) (oa : Octets a.datagram) (ob : Octets b.datagram)
    (s : SameAsked a b v.q w.q) where
  same_q : v.q ≡ w.q
  same_q =
      let e : Some v.q ≡ Some w.q = sym (question_of h a v oa) ∙ ap (λ (x : List ℕ). question_at (twelve ++ (x ++ [])) 12) s.question ∙ question_of h b w ob in
      cc

  same_id : (header_of a.datagram).id ≡ (header_of b.datagram).id
  same_id = id_is a.datagram ∙ omega (arith, s.id 0 (omega arith), s.id 1 (omega arith)) ∙ sym (id_is b.datagram)

  -- Two queries that both get a reply and ask the same get the same: the same octets, the same destination. The interfaces count only
  -- in so far as the name's states there are Shared or Verifying, and by which of its records are valid there.
  pub same_reply : AlikeStates (state_of h a.interface v.k) (state_of h b.interface w.k)
      → answers_in a.interface a.table (name_in a.table v.k).end ≡ answers_in b.interface b.table (name_in b.table w.k).end
      → receive h a ≡ receive h b
  same_reply l n =
      let x : NameState = state_of h a.interface v.k in
      let y : NameState = state_of h b.interface w.k in
      let c : is shared x ≡ is shared y = shared_is x ∙ l.shared ∙ sym (shared_is y) in
      let t : is verifying x ≡ is verifying y = verifying_is x ∙ l.verifying ∙ sym (verifying_is y) in
      replies h a v
      ∙ by_parts h a v.q v.k
      ∙ parts_same _ _ _ _ _ _ _ _ _ s.time s.from s.out n same_id c t s.question (ap (λ (q : Question). q.qtype) same_q)
      ∙ sym (by_parts h b w.q w.k)
      ∙ sym (replies h b w)
    where
      parts_same : (time : ℕ) (from : Endpoint) (out : List ℕ) (answers : List Answer) (id : ℕ) (c t : Bool) (question : List ℕ) (qtype : ℕ)
          {time₂ : ℕ} {from₂ : Endpoint} {out₂ : List ℕ} {answers₂ : List Answer} {id₂ : ℕ} {c₂ t₂ : Bool} {question₂ : List ℕ} {qtype₂ : ℕ}
          → time ≡ time₂ → from ≡ from₂ → out ≡ out₂ → answers ≡ answers₂ → id ≡ id₂ → c ≡ c₂ → t ≡ t₂ → question ≡ question₂ → qtype ≡ qtype₂
          → reply_by h time from out answers id c t question qtype ≡ reply_by h time₂ from₂ out₂ answers₂ id₂ c₂ t₂ question₂ qtype₂
      parts_same time from out answers id c t question qtype e0 e1 e2 e3 e4 e5 e6 e7 e8 = rw (e0, e1, e2, e3, e4, e5, e6, e7, e8)

-- ---- a datagram that holds the same query

same_bits : (x y u v : ℕ) → x / 4 ≡ u / 4 → y < 256 → v < 256
    → (bits (x * 256 + y) 0x8000 2 ≡ bits (u * 256 + v) 0x8000 2)
    × (bits (x * 256 + y) 0x800 16 ≡ bits (u * 256 + v) 0x800 16)
    × (bits (x * 256 + y) 0x400 2 ≡ bits (u * 256 + v) 0x400 2)
same_bits x y u v e h k = (omega arith, omega arith, omega arith)

-- QR, opcode and C
same_head : (d e : List ℕ) → Octets d → Octets e → octet_at d 2 / 4 ≡ octet_at e 2 / 4
    → ((header_of e).response ≡ (header_of d).response) × ((header_of e).opcode ≡ (header_of d).opcode) × ((header_of e).conflict ≡ (header_of d).conflict)
unfolding header_of
same_head d e o p q =
    let b = same_bits (octet_at e 2) (octet_at e 3) (octet_at d 2) (octet_at d 3) (sym q) (octet_at_lem e 3 p) (octet_at_lem d 3 o) in
    (ap (λ (n : ℕ). eqb n 1) b.0, b.1, ap (λ (n : ℕ). eqb n 1) b.2)

same_counts : (d e : List ℕ) → ((i : ℕ) → 4 ≤ i → i < 10 → octet_at d i ≡ octet_at e i)
    → ((header_of e).questions ≡ (header_of d).questions) × ((header_of e).answers ≡ (header_of d).answers) × ((header_of e).authorities ≡ (header_of d).authorities)
unfolding header_of
same_counts d e c = (
  omega (arith, c 4 (omega arith) (omega arith), c 5 (omega arith) (omega arith)),
  omega (arith, c 6 (omega arith) (omega arith), c 7 (omega arith) (omega arith)),
  omega (arith, c 8 (omega arith) (omega arith), c 9 (omega arith) (omega arith)),
)

module _ (h : Host) (a : Arrival) (v : RepliesWhen h a) (o : Octets a.datagram) (e : List ℕ) (p : Octets e)
    (s : SameQuery a.datagram e v.q.end) where
  from_twelve : 12 ≤ v.q.end
  from_twelve = omega (arith, (is_question h a v o).end)

  inside : v.q.end ≤ length e
  inside =
      split (ltb (length e) v.q.end)
      (λ t. absurd (omega (arith, ap length (s.question ∙ part_past e 12 v.q.end (ltb-true _ _ t)), asked_end h a v o, (is_question h a v o).end)))
      (λ t. ltb-false _ _ t)

  part_is : take (v.q.end - 12) (drop 12 e) ≡ part_of a.datagram 12 v.q.end
  part_is = sym (part_in e 12 v.q.end from_twelve inside) ∙ sym s.question

  asks_it : question_at e 12 ≡ Some v.q
  asks_it =
      let r : List ℕ = drop (v.q.end - 12) (drop 12 e) in
      let n : length (take 12 e) ≡ 12 = length-take-le 12 e (omega (arith, from_twelve, inside)) in
      let laid : e ≡ take 12 e ++ (part_of a.datagram 12 v.q.end ++ r) =
      sym (take-append-drop 12 e)
      ∙ ap (λ (x : List ℕ). take 12 e ++ x) (sym (take-append-drop (v.q.end - 12) (drop 12 e)) ∙ ap (λ (x : List ℕ). x ++ r) part_is) in
      ap (λ (x : List ℕ). question_at x 12) laid
      ∙ subst (λ (x : ℕ). question_at (take 12 e ++ (part_of a.datagram 12 v.q.end ++ r)) x
      ≡ Some (record { name = v.q.name; labels = v.q.labels; qtype = v.q.qtype; class = v.q.class; end = x + v.q.name + 4 })) n
      (question_moves a.datagram 12 v.q o (is_question h a v o) (take 12 e) r)
      ∙ same_question h a v o

  name_there : part_of e 12 (12 + v.q.name) ≡ part_of a.datagram 12 (12 + v.q.name)
  name_there =
      let f = is_question h a v o in
      let l : v.q.name ≤ v.q.end - 12 = omega (arith, f.end) in
      let z : 12 + v.q.name - 12 ≡ v.q.name = omega arith in
      part_in e 12 (12 + v.q.name) (omega arith) (omega (arith, f.end, inside))
      ∙ ap (λ (n : ℕ). take n (drop 12 e)) z
      ∙ sym (take-take v.q.name (v.q.end - 12) (drop 12 e) l)
      ∙ ap (take v.q.name) part_is
      ∙ sym (name_of h a v o)

  -- It gets a reply too,
  pub replies_too : RepliesWhen h (with_datagram a e)
  replies_too =
      let x = v.query.arrives in
      let b = same_head a.datagram e o p s.flags in
      let c = same_counts a.datagram e s.counts in
      record {
        names = v.names;
        q = v.q;
        k = v.k;
        query =
            record {
              arrives =
                  record {
                    called = x.called;
                    shortest = omega (arith, from_twelve, inside);
                    longest = s.longest;
                    from_family = x.from_family;
                    to_family = x.to_family;
                    opcode = b.1 ∙ x.opcode;
                    one_question = c.0 ∙ x.one_question;
                    question = asks_it;
                  };
              is_query = b.0 ∙ v.query.is_query;
              to_group = v.query.to_group;
              no_answers = c.1 ∙ v.query.no_answers;
              no_authorities = c.2 ∙ v.query.no_authorities;
              class = v.query.class;
            };
        name = ap (find_name v.names) name_there ∙ v.name;
        c_clear = b.2 ∙ v.c_clear;
        not_off = v.not_off;
        not_stopped = v.not_stopped;
      }

  -- and the same one: the octets, the destination and the host after it are the same.
  pub no_difference : receive h (with_datagram a e) ≡ receive h a
  unfolding replies_too
  no_difference =
      sym (same_reply h a (with_datagram a e) v replies_too o p
      (record { from = refl; time = refl; out = refl; id = s.id; question = s.question })
      (record { shared = refl; verifying = refl }) refl)

-- ---- another interface

module _ (h : Host) (a : Arrival) (v : RepliesWhen h a) (o : Octets a.datagram) (ot : Octets a.table) (t : GoodTable a.table)
    (n : Labels) (records : List Owned) (owns : Owns t.entries v.k n records) (j : ℕ) (s : AlikeInterface h a.interface j v.k records) where
  -- The same query on an interface where the name's state is alike gets a reply too,
  pub replies_there : RepliesWhen h (on_interface a j)
  replies_there =
      let x = v.query.arrives in
      let c = x.called in
      record {
        names = v.names;
        q = v.q;
        k = v.k;
        query =
            record {
              arrives =
                  record {
                    called =
                        record {
                          room = c.room;
                          good_table = c.good_table;
                          interface = s.inside;
                          used = ⊎_map (λ e. s.family ∙ e) (λ e. s.family ∙ e) c.used;
                          latest = c.latest;
                          in_order = c.in_order;
                        };
                    shortest = x.shortest;
                    longest = x.longest;
                    from_family = x.from_family ∙ sym s.family;
                    to_family = x.to_family ∙ sym s.family;
                    opcode = x.opcode;
                    one_question = x.one_question;
                    question = x.question;
                  };
              is_query = v.query.is_query;
              to_group = v.query.to_group;
              no_answers = v.query.no_answers;
              no_authorities = v.query.no_authorities;
              class = v.query.class;
            };
        name = v.name;
        c_clear = v.c_clear;
        not_off = s.not_off;
        not_stopped = s.not_stopped;
      }

  same_valid : valid_for a.interface (get_or (owned t.entries) v.k []) ≡ valid_for j (get_or (owned t.entries) v.k [])
  same_valid =
      let e = records_of t.entries v.k n records owns in
      ap (valid_for a.interface) e ∙ s.valid ∙ ap (valid_for j) (sym e)

  -- and the same one, if the same of its records are valid there.
  pub on_any_interface : receive h (on_interface a j) ≡ receive h a
  unfolding replies_there
  on_any_interface =
      sym (same_reply h a (on_interface a j) v replies_there o o
      (record { from = refl; time = refl; out = refl; id = λ i l. refl; question = refl })
      s.alike
      (valid_there h a v o ot t a.interface ∙ ap (map answer_of) same_valid ∙ sym (valid_there h a v o ot t j)))
