-- Receive is the plain one of specs/Whole.antt, and nothing else is. It leaves a host with four interfaces of eight names.
use Rattle.std.proofs.Common.{Some, ℕ, ◌+◌, ◌-◌, ◌<◌, ◌≡◌, refl, sym, ap, ◌∙◌, subst, List, [], ◌∷◌, true, false, not, arith, length, take, drop}
use Rattle.octets.specs.Tests.{◌or◌}
use Rattle.octets.specs.Octets.{Octets}
use Rattle.octets.specs.Addresses.{address_of, below_address}
use Rattle.octets.proofs.Tests.{split, never, only_first, not_not}
use Rattle.refusal.specs.Checks.{Clear}
use Rattle.names.specs.Folding.{same_name}
use Rattle.name_table.specs.Check.{Held, check_table, names_in, find_from, is_found, number_or}
use Rattle.name_table.specs.Entries.{GoodTable, Owned, valid_for}
use Rattle.name_table.proofs.Held.{few_held}
use Rattle.name_table.proofs.Meaning.{good_iff}
use Rattle.message.specs.declared.Question.{Question}
use Rattle.message.specs.Header.{header_of}
use Rattle.message.specs.Question.{question_or}
use Rattle.message.specs.Query.{query_with}
use Rattle.host.specs.State.{state_of, setting_of, off, unique, is, due_at}
use Rattle.host.specs.Outcomes.{Done, stopped}
use Rattle.host.specs.Laws.{Accepted}
use Rattle.host.specs.Receive.{Arrival, header, question, found, name_number, state, from_us, awaits, query_checks, response_checks, receive_checks, receive}
use Rattle.host.specs.ExactlyWhen.{ArrivesWell, RepliesWhen}
use Rattle.host.specs.declared.NameState.{NameState}
use Rattle.host.specs.declared.NameState.TheVariants.{Off, Verifying, Unique, Defending, Stopped, Shared}
use Rattle.host.specs.declared.Host.{Host}
use Rattle.host.proofs.Accepted.{receive_checked}
use Rattle.host.proofs.Arrives.{after_11, query_is, response_is}
use Rattle.host.proofs.Conditions.{found_at, not_off, not_stopped, has_interval}
use Rattle.host.proofs.Laws.{receive_refused}
use Rattle.host.proofs.Stopping.{until_exactly}
use Rattle.witness.specs.Refusals.{receive_cases}
use Rattle.witness.specs.Replies.{WholeReply, ReplyFrom}
use Rattle.witness.specs.States.{Interval, Ours, Place, Becomes, Asks, Notification, FromBelow, Stops, Response}
use Rattle.witness.specs.Whole.{Full, ForName, Heard, PlainReceive}
use Rattle.witness.proofs.RefusedArrivals.{awaited_is, receive_refused_exactly}
use Rattle.witness.proofs.Replies.{reply_whole}
use Rattle.witness.proofs.OneReply.{one_reply}
use Rattle.witness.proofs.OnlyItsOwn.{owns_one}
use Rattle.witness.proofs.Ours.{ours_is, is_below, from_below}
use Rattle.witness.proofs.States.{notification, response}
use Rattle.witness.proofs.Whole.{moves_full, same_full, becomes_one, asks_one, leaves_one, not_refused, same_if_accepted, full_if_accepted, refused_exactly, place_in}

-- ---- the name that is found

-- it is one of those that were searched
found_below : (n : ℕ) (hs : List Held) (x : List ℕ) (k : ℕ) → find_from n hs x ≡ Some k → k < n + length hs
unfolding find_from
found_below n [] x k e = let z : ◌≡◌ {A = ℕ} 0 1 = cc in absurd (omega arith)
found_below n (y ∷ hs) x k e =
    split (same_name y.octets x)
    (λ t. let p : n ≡ k = cc (rw t at e) in omega arith)
    (λ t. omega (arith, found_below (n + 1) hs x k (rw t at e)))

module _ (h : Host) (a : Arrival) where
  abbrev done : Done
  done = receive h a

  abbrev names : List Held
  names = names_in (check_table a.table)

  -- there is one such name
  found_one : (hs : List Held) (q : Question) (k : ℕ) → ForName a hs q k → (P : Question → ℕ → Type 0) → P (question a) (name_number a) → P q k
  found_one hs q k f P x =
      let n : names ≡ hs = ap names_in f.good_table in
      let e : question a ≡ q = ap question_or f.question in
      let m : found a ≡ Some k = cc f.name in
      subst (P q) (ap number_or m) (subst (λ (p : Question). P p (name_number a)) e x)

  -- ---- what has been passed

  module _ (c : Clear (receive_checks h a)) (qr : (header_of a.datagram).response ≡ false) where
    query_clear : Clear (query_checks h a)
    query_clear = rw qr at (after_11 h a c)

    query_found : found a ≡ Some (name_number a)
    query_found = found_at (found a) ((only_first (is_found (found a)) (is off (state h a))).0 query_clear.0).0

    query_name : ForName a names (question a) (name_number a)
    query_name =
        let w = query_is h a c qr in
        record { good_table = w.arrives.called.good_table; question = w.arrives.question; name = query_found }

    replies_when : (header_of a.datagram).conflict ≡ false → RepliesWhen h a
    replies_when e =
        record {
          names = names;
          q = question a;
          k = name_number a;
          query = query_is h a c qr;
          name = query_found;
          c_clear = e;
          not_off = (not_off (state h a)).0 ((only_first (is_found (found a)) (is off (state h a))).0 query_clear.0).1;
          not_stopped = (not_stopped (state h a)).0 query_clear.1.0;
        }

    not_ours : (header_of a.datagram).conflict ≡ true → Ours h a.from.address → ⊥
    not_ours e o =
        let n : (not (is unique (state h a)) or from_us h a) ≡ false = rw e at query_clear.1.1.0 in
        never ((ours_is h a.from.address).1 o) ((only_first (is unique (state h a)) (from_us h a)).0 n).1

  module _ (c : Clear (receive_checks h a)) (qr : (header_of a.datagram).response ≡ true) where
    response_clear : Clear (response_checks h a)
    response_clear = rw qr at (after_11 h a c)

    matched : (is_found (found a) ≡ true) × (not (awaits (state h a) (header a).id (question a).qtype (question a).class) ≡ false)
    matched = (only_first _ _).0 response_clear.0

    response_found : found a ≡ Some (name_number a)
    response_found = found_at (found a) matched.0

    response_name : ForName a names (question a) (name_number a)
    response_name =
        let w = response_is h a c qr in
        record { good_table = w.arrives.called.good_table; question = w.arrives.question; name = response_found }

    awaited : awaits (state h a) (header a).id (question a).qtype (question a).class ≡ true
    awaited = (not_not _).0 matched.1

    elsewhere : Ours h a.from.address → ⊥
    elsewhere o = never ((ours_is h a.from.address).1 o) response_clear.1.0

  -- ---- what an accepted datagram comes to

  module _ (ot : Octets a.table) (od : Octets a.datagram) (full : Full h) where
    place : a.interface < 4 → ForName a names (question a) (name_number a) → Place h a.interface (name_number a)
    place l f =
        place_in h a.interface (name_number a) full l
        (omega (arith, found_below 0 names _ (name_number a) f.name, few_held a.table names ot f.good_table))

    answers : Accepted done → (header_of a.datagram).response ≡ false → (header_of a.datagram).conflict ≡ false
        → (hs : List Held) (q : Question) (k : ℕ) → ForName a hs q k → (t : GoodTable a.table) → ReplyFrom h a q k t.entries done
    unfolding replies_when
    answers x qr e hs q k f t =
        found_one hs q k f (λ p j. ReplyFrom h a p j t.entries done) (reply_whole h a (replies_when (receive_checked h a x) qr e) od ot t)

    defends : Accepted done → (header_of a.datagram).response ≡ false → (header_of a.datagram).conflict ≡ true
        → (hs : List Held) (q : Question) (k : ℕ) → ForName a hs q k → (n : ℕ) → Interval h a.interface n
        → Asks h a.interface k (Defending a.id q.qtype q.class (due_at (a.time + n))) a.time
        (query_with a.id (take (q.end - 12) (drop 12 a.datagram))) a.out done
    defends x qr e hs q k f n v =
        found_one hs q k f (λ p j. Asks h a.interface j (Defending a.id p.qtype p.class (due_at (a.time + n))) a.time (query_with a.id (take (p.end - 12) (drop 12 a.datagram))) a.out done)
        (let c = receive_checked h a x in
        let w = query_is h a c qr in
        let m = query_name c qr in
        go (state h a) (notification h a names (question a) (name_number a) w m.name n od (place w.arrives.called.interface m) v e (not_ours c qr e)))
      where
        go : (s : NameState) → Notification h a (question a) (name_number a) n s done
            → Asks h a.interface (name_number a) (Defending a.id (question a).qtype (question a).class (due_at (a.time + n))) a.time (query_with a.id (take ((question a).end - 12) (drop 12 a.datagram))) a.out done
        go Off r = not_refused h a.out 12 done x r
        go (Verifying sends own timer) r = not_refused h a.out 14 done x r
        go Unique r = r
        go (Defending own qtype class timer) r = not_refused h a.out 14 done x r
        go (Stopped until) r = not_refused h a.out 13 done x r
        go Shared r = not_refused h a.out 14 done x r

    hears : Accepted done → (header_of a.datagram).response ≡ true → (hs : List Held) (q : Question) (k : ℕ) → ForName a hs q k
        → Heard h a q k (state_of h a.interface k) done
    hears x qr hs q k f =
        found_one hs q k f (λ p j. Heard h a p j (state_of h a.interface j) done)
        (let w = response_is h a c qr in
        let m = response_name c qr in
        go (state h a) (awaited c qr) (response h a names (question a) (name_number a) w m.name od (place w.arrives.called.interface m)))
      where
        c : Clear (receive_checks h a)
        c = receive_checked h a x

        go : (s : NameState) → awaits s (header a).id (question a).qtype (question a).class ≡ true
            → Response h a (question a) (name_number a) s done → Heard h a (question a) (name_number a) s done
        go Off t r = never t refl
        go (Verifying sends own timer) t r =
            r.awaited ((awaited_is a (question a) (Verifying sends own timer)).0 t) (elsewhere c qr)
        go Unique t r = never t refl
        go (Defending own qtype class timer) t r =
            r.awaited ((awaited_is a (question a) (Defending own qtype class timer)).0 t) (elsewhere c qr)
        go (Stopped until) t r = never t refl
        go Shared t r = never t refl

    -- What receive gives is plain,
    pub receive_is_plain : PlainReceive h a (receive h a)
    receive_is_plain =
        record {
          refusals = refused_exactly _ _ _ _ (receive_refused_exactly h a) (receive_refused h a);
          clear_query = answers;
          notification = defends;
          response = hears;
        }

-- ---- there is no other

-- a reply from the entries of a table
from_one : (h : Host) (a : Arrival) (q : Question) (k : ℕ) (t : GoodTable a.table) (d e : Done)
    → ReplyFrom h a q k t.entries d → ReplyFrom h a q k t.entries e → d ≡ e
from_one h a q k t d e v w =
    one_reply h a q (state_of h a.interface k) (valid_for a.interface v.records) d e v.whole
    (subst (λ (rs : List Owned). WholeReply h a q (state_of h a.interface k) (valid_for a.interface rs) e)
    (owns_one t.entries k w.name v.name w.records v.records w.owns v.owns) w.whole)

-- the source is below our address, or not
below : {A : Type 0} (h : Host) (a : Arrival) (names : List Held) (q : Question) → ArrivesWell h a names q → (FromBelow h a → A)
    → ((FromBelow h a → ⊥) → A) → A
below h a names q w f g =
    split (below_address a.from.address (address_of (setting_of h a.interface)))
    (λ t. f (from_below h a w.from_family w.called.used t))
    (λ t. g (λ b. never (is_below h a w.from_family b) t))

-- a name that stops, which is told until when in one way
stops_one : (h : Host) (a : Arrival) (q : Question) (k : ℕ) → Octets a.datagram → (d e : Done) → Stops h a q k d → Stops h a q k e → d ≡ e
stops_one h a q k od d e v u =
    becomes_one _ _ _ _ _ _ _ d e v.becomes (subst (λ (t : ℕ). Becomes h a.interface k (Stopped t) a.time a.out (stopped k) e) one u.becomes)
  where
    one : u.until ≡ v.until
    one =
        (until_exactly a.time (header_of a.datagram).answers a.datagram q.end od u.until).1 u.until_is
        ∙ sym ((until_exactly a.time (header_of a.datagram).answers a.datagram q.end od v.until).1 v.until_is)

-- a response
heard_one : (h : Host) (a : Arrival) (names : List Held) (q : Question) (k : ℕ) → ArrivesWell h a names q → (s : NameState) (d e : Done)
    → Octets a.datagram → Heard h a q k s d → Heard h a q k s e → d ≡ e
heard_one h a names q k w Off d e od v u = absurd v
heard_one h a names q k w (Verifying sends own timer) d e od v u =
    split (header_of a.datagram).tentative
    (λ t.
    below h a names q w (λ b. stops_one h a q k od d e (v.t_set_below t b) (u.t_set_below t b))
    (λ n. leaves_one _ _ _ _ d e (v.t_set_else t n) (u.t_set_else t n)))
    (λ t. stops_one h a q k od d e (v.t_clear t) (u.t_clear t))
heard_one h a names q k w Unique d e od v u = absurd v
heard_one h a names q k w (Defending own qtype class timer) d e od v u =
    below h a names q w (λ b. stops_one h a q k od d e (v.below b) (u.below b)) (λ n. leaves_one _ _ _ _ d e (v.else n) (u.else n))
heard_one h a names q k w (Stopped until) d e od v u = absurd v
heard_one h a names q k w Shared d e od v u = absurd v

heard_full : (h : Host) (a : Arrival) (names : List Held) (q : Question) (k : ℕ) → ArrivesWell h a names q → (s : NameState) (d : Done)
    → Heard h a q k s d → Full h → Full d.host
heard_full h a names q k w Off d v f = absurd v
heard_full h a names q k w (Verifying sends own timer) d v f =
    split (header_of a.datagram).tentative
    (λ t.
    below h a names q w (λ b. moves_full h a.interface k _ a.time d f (v.t_set_below t b).becomes.moves)
    (λ n. same_full h d.host f (v.t_set_else t n).states))
    (λ t. moves_full h a.interface k _ a.time d f (v.t_clear t).becomes.moves)
heard_full h a names q k w Unique d v f = absurd v
heard_full h a names q k w (Defending own qtype class timer) d v f =
    below h a names q w (λ b. moves_full h a.interface k _ a.time d f (v.below b).becomes.moves) (λ n. same_full h d.host f (v.else n).states)
heard_full h a names q k w (Stopped until) d v f = absurd v
heard_full h a names q k w Shared d v f = absurd v

-- and nothing else is.
pub plain_is_receive : (h : Host) (a : Arrival) → Octets a.table → Octets a.datagram → Full h → (d : Done) → PlainReceive h a d → d ≡ receive h a
plain_is_receive h a ot od full d p =
    same_if_accepted h a.out (receive_cases h a) d (receive h a) p.refusals (receive_is_plain h a ot od full).refusals same
  where
    same : Accepted d → Accepted (receive h a) → d ≡ receive h a
    same x y =
        let c = receive_checked h a y in
        split (header_of a.datagram).response
        (λ qr.
        let f = response_name h a c qr in
        heard_one h a (names h a) (question a) (name_number a) (response_is h a c qr).arrives (state h a) d (receive h a) od
        (p.response x qr (names h a) (question a) (name_number a) f) (hears h a ot od full y qr (names h a) (question a) (name_number a) f))
        (λ qr.
        let f = query_name h a c qr in
        split (header_of a.datagram).conflict
        (λ e.
        let n = has_interval (setting_of h a.interface) in
        asks_one _ _ _ _ _ _ _ d (receive h a) (p.notification x qr e (names h a) (question a) (name_number a) f n.0 n.1)
        (defends h a ot od full y qr e (names h a) (question a) (name_number a) f n.0 n.1))
        (λ e.
        let t = ((good_iff a.table (names h a) ot).0 f.good_table).0 in
        from_one h a (question a) (name_number a) t d (receive h a) (p.clear_query x qr e (names h a) (question a) (name_number a) f t)
        (answers h a ot od full y qr e (names h a) (question a) (name_number a) f t)))

-- A full host stays full.
pub receive_full : (h : Host) (a : Arrival) → Octets a.table → Octets a.datagram → Full h → Full (receive h a).host
receive_full h a ot od full = full_if_accepted h a.out (receive_cases h a) (receive h a) full (receive_is_plain h a ot od full).refusals stays
  where
    stays : Accepted (receive h a) → Full (receive h a).host
    stays y =
        let c = receive_checked h a y in
        split (header_of a.datagram).response
        (λ qr.
        heard_full h a (names h a) (question a) (name_number a) (response_is h a c qr).arrives (state h a) (receive h a)
        (hears h a ot od full y qr (names h a) (question a) (name_number a) (response_name h a c qr)) full)
        (λ qr.
        let f = query_name h a c qr in
        split (header_of a.datagram).conflict
        (λ e.
        let n = has_interval (setting_of h a.interface) in
        moves_full h a.interface (name_number a) _ a.time (receive h a) full
        (defends h a ot od full y qr e (names h a) (question a) (name_number a) f n.0 n.1).moves)
        (λ e.
        let t = ((good_iff a.table (names h a) ot).0 f.good_table).0 in
        same_full h (receive h a).host full
        (answers h a ot od full y qr e (names h a) (question a) (name_number a) f t).whole.interfaces))
