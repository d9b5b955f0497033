-- What receive gives, whole, under the plain conditions of specs/ExactlyWhen.antt: a reply, a defence, a stop, a response that is kept, and
-- the refusals 1 to 4, 12, 13, 15 and 16.
use Rattle.std.proofs.Common.{Option, ℕ, ◌≡◌, ap, ◌∙◌, ◌↔◌, ⊎_elim, List, Bool, true, false, not}
use Rattle.octets.specs.Tests.{◌and◌, ◌or◌}
use Rattle.octets.proofs.Tests.{only_first, not_not, not_is}
use Rattle.octets.specs.Addresses.{address_of, below_address}
use Rattle.refusal.specs.Numbers.{Report, number}
use Rattle.refusal.specs.Checks.{passed, refused, Gives, next, stop, done}
use Rattle.name_table.specs.Check.{Held, is_found}
use Rattle.message.specs.declared.Question.{Question}
use Rattle.host.specs.State.{setting_of, state_of, off, verifying, stopped, is, with_clock, with_state}
use Rattle.host.specs.Outcomes.{refusal, silent, kept, stopped as stopped_name}
use Rattle.host.specs.Receive.{Arrival, header, question, found, name_number, state, from_us, not_ours, bad_notification, awaits, unmatched, query_checks, response_checks, Decision, answer, defend, keep, loses, decision, effect, answered, defended, receive}
use Rattle.host.specs.Receive.{stop as stops}
use Rattle.host.specs.Stopping.{stopped_until}
use Rattle.host.specs.ExactlyWhen.{state_here, QueryArrives, ResponseArrives, AsksFor, RepliesWhen, DefendsWhen, IsAwaited, IsTaken, StopsWhen, KeepsWhen, NotOursWhen, StoppedWhen, UnmatchedWhen, OwnWhen}
use Rattle.host.specs.Served.{RefusedFirst}
use Rattle.host.specs.declared.NameState.{NameState}
use Rattle.host.specs.declared.NameState.TheVariants.{Stopped}
use Rattle.host.specs.declared.Host.{Host}
use Rattle.host.proofs.Conditions.{not_off, not_stopped, waits_is, taken_is}
use Rattle.host.proofs.Called.{first_gives}
use Rattle.host.proofs.Arrives.{receive_by, question_is, asks_none, is_found_lem, number_is, state_is, query_gives, response_gives}

-- ---- refused by one of the checks 1 to 4

pub receive_refuses : (h : Host) (a : Arrival) (t : Report) → RefusedFirst h a.table a.interface a.time a.out t → receive h a ≡ refusal h a.out t
receive_refuses h a t r = receive_by h a (refused t) (first_gives h a.table a.interface a.time a.out _ r)

module _ (h : Host) (a : Arrival) where
  -- what an accepted datagram comes to
  done_is : (d : Decision) (q : Question) (k : ℕ) → question a ≡ q → name_number a ≡ k → decision h a ≡ d → effect (decision h a) h a (question a) (name_number a) ≡ effect d h a q k
  done_is d q k eq ek ed = ap (λ (x : Decision). effect x h a (question a) (name_number a)) ed ∙ ap (λ (x : Question). effect d h a x (name_number a)) eq ∙ ap (effect d h a q) ek

  -- the tests of a name's state here, plainly
  awaited_is : (q : Question) (k : ℕ) → (awaits (state_here h a k) (header a).id q.qtype q.class ≡ true) ↔ IsAwaited h a q k
  awaited_is q k = waits_is (state_here h a k) (header a).id q.qtype q.class

  pub lost_is : (q : Question) (k : ℕ) → IsAwaited h a q k
      → ((is verifying (state_here h a k) and not (header a).tentative or below_address a.from.address (address_of (setting_of h a.interface))) ≡ true) ↔ IsTaken h a k
  lost_is q k m = taken_is (state_here h a k) (header a).id q.qtype q.class (header a).tentative a.from.address (address_of (setting_of h a.interface)) m

  -- ---- queries

  module _ (names : List Held) (q : Question) (w : QueryArrives h a names q) where
    refused_query : (t : Report) → Gives (query_checks h a) (refused t) → receive h a ≡ refusal h a.out t
    refused_query t g = receive_by h a (refused t) (query_gives h a names q w g)

    module _ (k : ℕ) (f : AsksFor a names q k) where
      abbrev here : NameState
      here = state_of h a.interface k

      ours_is : is off here ≡ false → not_ours h a ≡ false
      ours_is o = (only_first _ _).1 (is_found_lem h a names q w.arrives k f, ap (is off) (state_is h a names q w.arrives k f) ∙ o)

      started_is : is stopped here ≡ false → is stopped (state h a) ≡ false
      started_is p = ap (is stopped) (state_is h a names q w.arrives k f) ∙ p

      taken_query : (d : Decision) → is off here ≡ false → is stopped here ≡ false → bad_notification h a ≡ false → decision h a ≡ d
          → receive h a ≡ effect d h a q k
      taken_query d o p n e =
          receive_by h a passed (query_gives h a names q w (next (ours_is o) (next (started_is p) (next n done))))
          ∙ done_is d q k (question_is h a names q w.arrives) (number_is h a names q w.arrives k f) e

  -- A reply goes out to where the query came from.
  pub replies : (w : RepliesWhen h a) → receive h a ≡ answered h a w.q w.k
  replies w =
      let n : bad_notification h a ≡ false = rw w.c_clear in
      let d : decision h a ≡ answer = rw (w.query.is_query, w.c_clear) in
      taken_query w.names w.q w.query w.k w.name answer ((not_off _).1 w.not_off) ((not_stopped _).1 w.not_stopped) n d

  -- A query with the call's ID goes out to the group, and the name is Defending.
  pub defends : (k : ℕ) (w : DefendsWhen h a k) → receive h a ≡ defended h a w.q k
  defends k w =
      let s = state_is h a w.names w.q w.query.arrives k w.name ∙ w.unique in
      let n : bad_notification h a ≡ false = rw (w.c_set, s) w.not_ours in
      let d : decision h a ≡ defend = rw (w.query.is_query, w.c_set) in
      taken_query w.names w.q w.query k w.name defend (rw w.unique) (rw w.unique) n d

  -- 12
  pub not_ours_lem : NotOursWhen h a → receive h a ≡ refusal h a.out (number 12)
  not_ours_lem w =
      refused_query w.names w.q w.query (number 12)
      (stop
      (⊎_elim
      (λ f. ap (λ (x : Option ℕ). not (is_found x) or is off (state h a)) (asks_none h a w.names w.q w.query.arrives f))
      (λ t.
      let e = is_found_lem h a w.names w.q w.query.arrives t.0 t.1 in
      let s = ap (is off) (state_is h a w.names w.q w.query.arrives t.0 t.1 ∙ t.2) in
      off_there e s)
      w.none))
    where
      off_there : is_found (found a) ≡ true → is off (state h a) ≡ true → not_ours h a ≡ true
      off_there e s = rw (e, s)

  -- 13
  pub has_stopped : StoppedWhen h a → receive h a ≡ refusal h a.out (number 13)
  has_stopped w =
      let s = state_is h a w.names w.q w.query.arrives w.k w.name ∙ w.stopped.1 in
      refused_query w.names w.q w.query (number 13)
      (next (ours_is w.names w.q w.query w.k w.name (rw w.stopped.1)) (stop (rw s)))

  -- ---- responses

  module _ (names : List Held) (q : Question) (w : ResponseArrives h a names q) where
    refused_response : (t : Report) → Gives (response_checks h a) (refused t) → receive h a ≡ refusal h a.out t
    refused_response t g = receive_by h a (refused t) (response_gives h a names q w g)

    module _ (k : ℕ) (f : AsksFor a names q k) where
      abbrev awaits_here : Bool
      awaits_here = awaits (state_of h a.interface k) (header a).id q.qtype q.class

      awaits_is : awaits (state h a) (header a).id (question a).qtype (question a).class ≡ awaits_here
      awaits_is =
          ap (λ (s : NameState). awaits s (header a).id (question a).qtype (question a).class) (state_is h a names q w.arrives k f)
          ∙ ap (λ (x : Question). awaits (state_of h a.interface k) (header a).id x.qtype x.class) (question_is h a names q w.arrives)

      matched : IsAwaited h a q k → unmatched h a ≡ false
      matched m = (only_first _ _).1 (is_found_lem h a names q w.arrives k f, (not_not _).1 (awaits_is ∙ (awaited_is q k).1 m))

      loses_is : (b : Bool) → (is verifying (state_of h a.interface k) and not (header a).tentative
          or below_address a.from.address (address_of (setting_of h a.interface))) ≡ b → loses h a ≡ b
      loses_is b e = rw (state_is h a names q w.arrives k f) e

      taken_response : (d : Decision) → IsAwaited h a q k → from_us h a ≡ false → decision h a ≡ d → receive h a ≡ effect d h a q k
      taken_response d m o e =
          receive_by h a passed (response_gives h a names q w (next (matched m) (next o done)))
          ∙ done_is d q k (question_is h a names q w.arrives) (number_is h a names q w.arrives k f) e

  -- The name stops, and remembers until when; nothing is sent.
  pub stops_it : (k : ℕ) (w : StopsWhen h a k)
      → receive h a
      ≡ silent (with_state h a.interface k (Stopped (stopped_until a.time (header a).answers a.datagram w.q.end)) a.time) a.out (stopped_name k)
  stops_it k w =
      let m = w.match in
      let lost = loses_is w.names w.q m.response k m.name true ((lost_is w.q k m.awaited).1 w.taken) in
      let d : decision h a ≡ stops = rw (m.response.is_response, lost) in
      taken_response w.names w.q m.response k m.name stops m.awaited m.not_ours d

  -- The response is kept: nothing but the clock changes, and nothing is sent.
  pub keeps_it : (k : ℕ) → KeepsWhen h a k → receive h a ≡ silent (with_clock h a.time) a.out (kept k)
  keeps_it k w =
      let m = w.match in
      let lost = loses_is w.names w.q m.response k m.name false ((not_is _ (lost_is w.q k m.awaited)).1 w.not_taken) in
      let d : decision h a ≡ keep = rw (m.response.is_response, lost) in
      taken_response w.names w.q m.response k m.name keep m.awaited m.not_ours d

  -- 15
  pub not_awaited : UnmatchedWhen h a → receive h a ≡ refusal h a.out (number 15)
  not_awaited w =
      refused_response w.names w.q w.response (number 15)
      (stop
      (⊎_elim
      (λ f. let e = asks_none h a w.names w.q w.response.arrives f in
      ap (λ (x : Option ℕ). not (is_found x) or not (awaits (state h a) (header a).id (question a).qtype (question a).class)) e)
      (λ t.
      let e = is_found_lem h a w.names w.q w.response.arrives t.0 t.1 in
      let s : awaits (state h a) (header a).id (question a).qtype (question a).class ≡ false =
      awaits_is w.names w.q w.response t.0 t.1 ∙ (not_is _ (awaited_is w.q t.0)).1 t.2 in
      unawaited e s)
      w.none))
    where
      unawaited : is_found (found a) ≡ true → awaits (state h a) (header a).id (question a).qtype (question a).class ≡ false → unmatched h a ≡ true
      unawaited e s = rw (e, s)

  -- 16
  pub own_address : OwnWhen h a → receive h a ≡ refusal h a.out (number 16)
  own_address w =
      refused_response w.names w.q w.response (number 16)
      (next (matched w.names w.q w.response w.k w.name w.awaited) (stop w.ours))
