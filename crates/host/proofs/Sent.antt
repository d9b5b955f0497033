-- What start, tick and receive send is read as what it is.
use Rattle.std.proofs.Common.{Some, ℕ, ◌+◌, ◌-◌, ◌%◌, ◌<◌, ◌≤◌, ◌≡◌, refl, sym, ap, ◌∙◌, subst, List, [], ◌++◌, append_assoc, append-nil, Bool, true, false, cond, arith, length, get_or, take, drop, length-append, length-drop, take_at, ltb}
use Rattle.octets.specs.Octets.{Octets, octet_at, part_of, put}
use Rattle.octets.specs.Words.{big_octets}
use Rattle.octets.proofs.Tests.{split}
use Rattle.octets.proofs.Octets.{part_in, length_part}
use Rattle.octets.proofs.Splice.{front}
use Rattle.names.specs.Names.{Labels, IsName, encode}
use Rattle.names.proofs.Names.{reads_alone}
use Rattle.name_table.specs.Check.{Held, good, check_table, no_name, names_in, name_in}
use Rattle.name_table.specs.Entries.{Answer}
use Rattle.name_table.proofs.Held.{held_name}
use Rattle.message.specs.Bounds.{header_octets, class_in, type_any}
use Rattle.message.specs.declared.Question.{Question}
use Rattle.message.specs.declared.ReplyHead.{ReplyHead}
use Rattle.message.specs.Query.{query_octets, count_octets}
use Rattle.message.specs.Question.{question_at, question_octets, IsQuestion}
use Rattle.message.specs.Header.{header_at}
use Rattle.message.specs.Reply.{Taken, reply_octets, reply_flags, answers_octets, taken_of, answers_in, reply_to, reply_written}
use Rattle.message.proofs.Questions.{question_length, question_part, reads_a_question, question_moves}
use Rattle.message.proofs.Query.{query_length, query_question, query_header, query_asks, query_copies}
use Rattle.message.proofs.ReplyLaws.{has_room_lem, written_is, reads_header, reply_has_header, reply_within}
use Rattle.host.specs.Bounds.{room, reply_limit, sends_in_all}
use Rattle.host.specs.State.{state_of, verifying, shared, is}
use Rattle.host.specs.Outcomes.{Done, query, reply}
use Rattle.host.specs.Asking.{check_query}
use Rattle.host.specs.Start.{start}
use Rattle.host.specs.Tick.{serve, tick}
use Rattle.host.specs.Receive.{Arrival, header, question_in, reply_head_of, receive}
use Rattle.host.specs.ExactlyWhen.{ArrivesWell, RepliesWhen, DefendsWhen}
use Rattle.host.specs.Served.{ServesWhen}
use Rattle.host.specs.Sent.{ReadAsCheck, ReadAsDefence, ReadAsReply}
use Rattle.host.specs.declared.NameState.{NameState}
use Rattle.host.specs.declared.NameState.TheVariants.{Off, Verifying, Unique, Defending, Stopped, Shared}
use Rattle.host.specs.declared.Host.{Host}
use Rattle.host.proofs.Received.{replies, defends}
use Rattle.host.proofs.Started.{start_sends}
use Rattle.host.proofs.Ticked.{Ticks, refuses, rests, serves, tick_is}

-- a part behind the header
pub behind : (b xs r : List ℕ) (e : ℕ) → drop header_octets b ≡ xs ++ r → header_octets ≤ length b → e ≡ header_octets + length xs → part_of b header_octets e ≡ xs
behind b xs r e d l q =
    let n : length b - header_octets ≡ length xs + length r = sym (length-drop header_octets b) ∙ ap length d ∙ length-append xs r in
    let m : length xs ≡ e - header_octets = omega arith in
    part_in b header_octets e (omega arith) (omega arith) ∙ ap (take (e - header_octets)) d ∙ take_at xs r (e - header_octets) m

-- ---- the query of a check

-- for a name that is one
pub check_read : (id : ℕ) (n : Labels) → IsName n → ReadAsCheck (check_query id (encode n)) id (encode n)
check_read id n h =
    let x : List ℕ = encode n in
    let q : List ℕ = question_octets x type_any class_in in
    let b : List ℕ = check_query id x in
    let e : b ++ [] ≡ b = append-nil b in
    let d : drop header_octets b ≡ x ++ (big_octets type_any ++ big_octets class_in) =
    query_question id 0 q ∙ append_assoc x (big_octets type_any) (big_octets class_in) in
    record {
      header_is = ap header_at (sym e) ∙ query_header id 0 q [];
      question_is = rw (reads_alone n h) (ap (λ (u : List ℕ). question_at u header_octets) (sym e) ∙ query_asks id 0 n type_any class_in [] h);
      name_is = behind b x (big_octets type_any ++ big_octets class_in) (header_octets + length x) d (omega (arith, query_length id 0 q)) refl;
    }

-- it has room in every buffer that is lent
pub check_fits : (id : ℕ) (n : Labels) → IsName n → length (check_query id (encode n)) ≤ room
check_fits id n h = omega (arith, h.short, query_length id 0 (question_octets (encode n) type_any class_in), question_length (encode n) type_any class_in)

-- so it stands at the front of the buffer, whatever name of a good table it asks for
pub check_sent : (table : List ℕ) (hs : List Held) (k id : ℕ) (out : List ℕ) → Octets table → check_table table ≡ good hs → k < length hs → room ≤ length out
    → (take (length (check_query id (name_in table k).octets)) (put out 0 (check_query id (name_in table k).octets)) ≡ check_query id (name_in table k).octets)
    × ReadAsCheck (check_query id (name_in table k).octets) id (name_in table k).octets
check_sent table hs k id out o e h r =
    let n = held_name table hs o e k h in
    let x : (name_in table k).octets ≡ encode n.0 = ap (λ (y : List Held). (get_or y k no_name).octets) (ap names_in e) ∙ n.2 in
    let f = check_fits id n.0 n.1 in
    let l : length (check_query id (name_in table k).octets) ≤ length out = subst (λ (y : List ℕ). length (check_query id y) ≤ length out) (sym x) (omega arith) in
    (front out (check_query id (name_in table k).octets) l, subst (λ (y : List ℕ). ReadAsCheck (check_query id y) id y) (sym x) (check_read id n.0 n.1))

check_written : (table : List ℕ) (hs : List Held) (k id : ℕ) (out : List ℕ) → Octets table → check_table table ≡ good hs → k < length hs → room ≤ length out
    → ReadAsCheck (take (length (check_query id (name_in table k).octets)) (put out 0 (check_query id (name_in table k).octets))) id (name_in table k).octets
check_written table hs k id out o e h r =
    let s = check_sent table hs k id out o e h r in
    subst (λ (b : List ℕ). ReadAsCheck b id (name_in table k).octets) (sym s.0) s.1

-- What a start sends is read as the query of a check, with the call's ID, for the name as in the table.
pub start_read : (h : Host) (table : List ℕ) (i k time id : ℕ) (out : List ℕ) (len : ℕ) → Octets table → (start h table i k time id out).result ≡ query k len
    → ReadAsCheck (take len (start h table i k time id out).octets) id (name_in table k).octets
start_read h table i k time id out len o e =
    let s = start_sends h table i k time id out len e in
    let g = s.gives in
    let n : length (check_query id (name_in table k).octets) ≡ len = cc in
    subst (λ (b : List ℕ). ReadAsCheck b id (name_in table k).octets)
    (ap (λ (m : ℕ). take m (put out 0 (check_query id (name_in table k).octets))) n ∙ ap (λ (d : Done). take len d.octets) (sym g))
    (check_written table (names_in (check_table table)) k id out o s.called.good_table s.in_table s.called.room)

-- What a tick sends is read as the query of a check, with the first ID, for the name as in the table.
pub tick_read : (h : Host) (table : List ℕ) (i k time id : ℕ) (out : List ℕ) (len : ℕ) → Octets table → (tick h table i time id out).result ≡ query k len
    → (own : ℕ) × ReadAsCheck (take len (tick h table i time id out).octets) own (name_in table k).octets
tick_read h table i k time id out len o = go (tick_is h table i time out id)
  where
    by : (s : NameState) (j : ℕ) → ServesWhen h table i time out j → (serve s h table i j time out).result ≡ query k len
        → (own : ℕ) × ReadAsCheck (take len (serve s h table i j time out).octets) own (name_in table k).octets
    by (Verifying sends own timer) j c e =
        split (ltb sends sends_in_all)
        (λ t. let r : query j (length (check_query own (name_in table j).octets)) ≡ query k len = rw t at e in
        let m : j ≡ k = cc in
        let n : length (check_query own (name_in table j).octets) ≡ len = cc in
        let w = check_written table c.names j own out o c.called.good_table c.in_table c.called.room in
        rw t (
          own,
          subst (λ (x : ℕ). ReadAsCheck (take len (put out 0 (check_query own (name_in table j).octets))) own (name_in table x).octets) m
              (subst (λ (x : ℕ). ReadAsCheck (take x (put out 0 (check_query own (name_in table j).octets))) own (name_in table j).octets) n w),
        ))
        (λ t. absurd (let z : ◌≡◌ {A = ℕ} 0 1 = cc (rw t at e) in omega arith))
    by Off j c e = absurd (let z : ◌≡◌ {A = ℕ} 0 1 = cc in omega arith)
    by Unique j c e = absurd (let z : ◌≡◌ {A = ℕ} 0 1 = cc in omega arith)
    by (Defending own t q timer) j c e = absurd (let z : ◌≡◌ {A = ℕ} 0 1 = cc in omega arith)
    by (Stopped until) j c e = absurd (let z : ◌≡◌ {A = ℕ} 0 1 = cc in omega arith)
    by Shared j c e = absurd (let z : ◌≡◌ {A = ℕ} 0 1 = cc in omega arith)

    go : {d : Done} → Ticks h table i time out d → d.result ≡ query k len → (own : ℕ) × ReadAsCheck (take len d.octets) own (name_in table k).octets
    go (refuses t) e = absurd (let z : ◌≡◌ {A = ℕ} 0 1 = cc in omega arith)
    go rests e = absurd (let z : ◌≡◌ {A = ℕ} 0 1 = cc in omega arith)
    go (serves j w) e = by (state_of h i j) j w e

-- ---- the question that arrived

module _ (h : Host) (a : Arrival) (o : Octets a.datagram) (hs : List Held) (q : Question) (w : ArrivesWell h a hs q) where
  is_question : IsQuestion a.datagram header_octets q
  is_question = (reads_a_question a.datagram header_octets q o).0 w.question

  asked_length : length (question_in a q) ≡ q.name + 4
  asked_length =
      let f = is_question in
      let x : header_octets ≤ q.end = omega (arith, f.end) in
      let y : q.end ≤ length a.datagram = omega (arith, f.end, f.whole) in
      length_part a.datagram header_octets q.end x y ∙ omega (arith, f.end)

  asked_short : header_octets + length (question_in a q) ≤ reply_limit
  asked_short = omega (arith, asked_length, is_question.name.len_is, is_question.name.is_name.short)

  same_question : Some (record { name = q.name; labels = q.labels; qtype = q.qtype; class = q.class; end = header_octets + q.name + 4 }) ≡ Some q
  same_question = ap (λ (e : ℕ). Some (record { name = q.name; labels = q.labels; qtype = q.qtype; class = q.class; end = e })) (sym is_question.end)

  -- its name stands after the header of every message that has the question there
  name_copied : (b r : List ℕ) → drop header_octets b ≡ question_in a q ++ r → header_octets ≤ length b
      → part_of b header_octets (header_octets + q.name) ≡ part_of a.datagram header_octets (header_octets + q.name)
  name_copied b r d l =
      let f = is_question in
      let n : List ℕ = encode f.name.name in
      let e : drop header_octets b ≡ n ++ ((big_octets q.qtype ++ big_octets q.class) ++ r) =
      d ∙ ap (λ (x : List ℕ). x ++ r) (question_part a.datagram header_octets q o f) ∙ simp append_assoc in
      let there : part_of a.datagram header_octets (header_octets + q.name) ≡ n =
      part_in a.datagram header_octets (header_octets + q.name) (omega arith) (omega (arith, f.whole))
      ∙ (let z : header_octets + q.name - header_octets ≡ length n = omega (arith, f.name.len_is) in rw z f.name.octets) in
      behind b n _ (header_octets + q.name) e l (ap (λ (x : ℕ). header_octets + x) f.name.len_is) ∙ sym there

-- What a defence sends is read as a query with the call's ID and the question as received.
pub defence_read : (h : Host) (a : Arrival) (k len : ℕ) (w : DefendsWhen h a k) → Octets a.datagram → (receive h a).result ≡ query k len
    → ReadAsDefence (take len (receive h a).octets) a w.q
defence_read h a k len w o e =
    let d = defends h a k w in
    let v = w.query.arrives in
    let q = w.q in
    let b : List ℕ = query_octets a.id 0 (question_in a q) in
    let n : length b ≡ len = cc in
    let l : length b ≤ length a.out = omega (arith, query_length a.id 0 (question_in a q), asked_short h a o _ q v, v.called.room) in
    let f : take len (receive h a).octets ≡ b =
    ap (λ (x : Done). take len x.octets) d ∙ ap (λ (x : ℕ). take x (put a.out 0 b)) (sym n) ∙ front a.out b l in
    let z : b ++ [] ≡ b = append-nil b in
    subst (λ (x : List ℕ). ReadAsDefence x a q) (sym f)
    (record {
      header_is = ap header_at (sym z) ∙ query_header a.id 0 (question_in a q) [];
      question_is =
          ap (λ (x : List ℕ). question_at x header_octets) (sym z)
          ∙ query_copies a.id 0 a.datagram header_octets q [] o (is_question h a o _ q v)
          ∙ same_question h a o _ q v;
    })

-- ---- the reply

-- T is the lowest bit of the first flags octet
flags_lowest : (c tc t : Bool) → (0x80 + cond c 0x04 0 + cond tc 0x02 0 + cond t 0x01 0) % 2 ≡ cond t 1 0
flags_lowest true true true = refl
flags_lowest true true false = refl
flags_lowest true false true = refl
flags_lowest true false false = refl
flags_lowest false true true = refl
flags_lowest false true false = refl
flags_lowest false false true = refl
flags_lowest false false false = refl

reply_laid : (limit : ℕ) (head : ReplyHead) (question : List ℕ) (qtype : ℕ) (answers : List Answer) → reply_to limit head question qtype answers
    ≡ (big_octets head.id ++ reply_flags head.conflict (taken_of limit qtype question answers).cut head.tentative ++ count_octets (length (taken_of limit qtype question answers).answers))
    ++ (question ++ answers_octets (taken_of limit qtype question answers).answers)
unfolding reply_octets
reply_laid limit head question qtype answers = refl

-- What a host replies is read as the reply to the query that arrived.
pub reply_read : (h : Host) (a : Arrival) (len : ℕ) (w : RepliesWhen h a) → Octets a.datagram → (receive h a).result ≡ reply len
    → ReadAsReply (take len (receive h a).octets) h a w.q w.k
reply_read h a len w o e =
    let d = replies h a w in
    let v = w.query.arrives in
    let q = w.q in
    let asked : List ℕ = question_in a q in
    let state : NameState = state_of h a.interface w.k in
    let head : ReplyHead = reply_head_of a state in
    let answers : List Answer = answers_in a.interface a.table (name_in a.table w.k).end in
    let taken : Taken = taken_of reply_limit q.qtype asked answers in
    let front_octets : List ℕ = big_octets (header a).id ++ reply_flags (is shared state) taken.cut (is verifying state) ++ count_octets (length taken.answers) in
    let s = asked_short h a o _ q v in
    let b : List ℕ = reply_to reply_limit head asked q.qtype answers in
    let n : (reply_written a.out reply_limit head asked q.qtype answers).len ≡ len = cc in
    let f : take len (receive h a).octets ≡ b =
    ap (λ (x : Done). take len x.octets) d
    ∙ ap (λ (x : ℕ). take x (reply_written a.out reply_limit head asked q.qtype answers).octets) (sym n)
    ∙ written_is reply_limit head asked q.qtype answers a.out ((has_room_lem a.out reply_limit asked).1 (omega (arith, v.called.room), s)) in
    let laid : b ≡ front_octets ++ (asked ++ answers_octets taken.answers) = reply_laid reply_limit head asked q.qtype answers in
    let least = reply_has_header reply_limit head asked q.qtype answers in
    subst (λ (x : List ℕ). ReadAsReply x h a q w.k) (sym f)
    (record {
      cut = taken.cut;
      answers = length taken.answers;
      header_is = ap header_at (sym (append-nil b)) ∙ reads_header reply_limit head asked q.qtype answers [];
      question_is =
          ap (λ (x : List ℕ). question_at x header_octets) laid
          ∙ question_moves a.datagram header_octets q o (is_question h a o _ q v) front_octets (answers_octets taken.answers)
          ∙ same_question h a o _ q v;
      octets_are = behind b asked (answers_octets taken.answers) q.end (ap (drop header_octets) laid) least (omega (arith, asked_length h a o _ q v, (is_question h a o _ q v).end));
      name_is = name_copied h a o _ q v b (answers_octets taken.answers) (ap (drop header_octets) laid) least;
      t_bit = ap (λ (x : List ℕ). octet_at x 2 % 2) laid ∙ flags_lowest (is shared state) taken.cut (is verifying state);
      least = least;
      most = reply_within reply_limit head asked q.qtype answers s;
    })
