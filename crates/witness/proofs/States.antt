-- The table of states by events of specs/States.antt, a row a theorem: starts, queries and responses.
use Rattle.std.proofs.Common.{Some, ℕ, ◌+◌, ◌-◌, ◌<◌, ◌≡◌, refl, sym, ap, ◌∙◌, subst, inl, inr, ⊎_elim, List, true, false, not, arith, length, get_or, take, drop}
use Rattle.octets.specs.Tests.{◌or◌}
use Rattle.octets.specs.Octets.{Octets}
use Rattle.octets.specs.Addresses.{address_of, below_address}
use Rattle.octets.proofs.Tests.{never, not_is}
use Rattle.refusal.specs.Numbers.{number}
use Rattle.refusal.specs.Checks.{refused, next, stop}
use Rattle.name_table.specs.Check.{Held, no_name}
use Rattle.message.specs.declared.Question.{Question}
use Rattle.message.specs.Header.{header_of}
use Rattle.message.specs.Query.{query_with}
use Rattle.message.specs.Reply.{reply_header}
use Rattle.host.specs.State.{is_own, setting_of, state_of, HasStopped, off, unique, stopped, shared, verifying, is, timer_from, due_at}
use Rattle.host.specs.Outcomes.{Done, shared as shared_name, kept, stopped as stopped_name}
use Rattle.host.specs.Start.{start}
use Rattle.host.specs.Receive.{Arrival, state, not_ours, bad_notification, receive}
use Rattle.host.specs.ExactlyWhen.{CalledWell, QueryArrives, ResponseArrives, AsksFor, state_here, WaitsFor, TakenBy, MatchArrives, RepliesWhen}
use Rattle.host.specs.Served.{MayStart, StartsWhen}
use Rattle.host.specs.declared.NameState.{NameState}
use Rattle.host.specs.declared.NameState.TheVariants.{Off, Verifying, Unique, Defending, Stopped, Shared}
use Rattle.host.specs.declared.Host.{Host}
use Rattle.host.proofs.Arrives.{receive_by, is_found_lem, state_is, query_gives}
use Rattle.host.proofs.Conditions.{not_off, not_stopped, interval_is}
use Rattle.host.proofs.Started.{start_asks, start_shares, is_busy, is_too_soon_lem}
use Rattle.host.proofs.Stopping.{until_exactly}
use Rattle.host.proofs.Received.{replies, defends, stops_it, keeps_it, not_ours_lem, has_stopped, not_awaited, own_address}
use Rattle.host.proofs.Sent.{reply_read}
use Rattle.witness.specs.States.{Interval, Ours, Place, Refuses, Replies, Becomes, Asks, check_of, TriedAgain, UniqueStarts, SharedStarts, ClearQuery, Notification, OwnNotification, FromBelow, Stops, Keeps, Response}
use Rattle.witness.proofs.Comes.{question_out, refuses, leaves, becomes, asks, asks_check}
use Rattle.witness.proofs.Ours.{ours_is, is_below, from_below}

-- ---- starts

module _ (h : Host) (table : List ℕ) (names : List Held) (i k time id : ℕ) (out : List ℕ) (called : CalledWell h table i time out names)
    (in_table : k < length names) where
  abbrev name : List ℕ
  name = (get_or names k no_name).octets

  busy : (s : NameState) → state_of h i k ≡ s → is off s ≡ false → is stopped s ≡ false → Refuses h out 19 (start h table i k time id out)
  busy s e o p =
      refuses h out 19 _
      (is_busy h table i k time id out
      (record {
        names = names;
        called = called;
        in_table = in_table;
        not_off = (not_off _).0 (ap (is off) e ∙ o);
        not_stopped = (not_stopped _).0 (ap (is stopped) e ∙ p);
      }))

  may : (kind : ℕ) → (get_or names k no_name).kind ≡ kind → MayStart (state_of h i k) time → StartsWhen h table i k time out kind
  may kind e s = record { names = names; called = called; in_table = in_table; may_start = s; kind_is = e }

  -- a stopped name
  again : {taken : Type 0} (until : ℕ) → state_of h i k ≡ Stopped until → (MayStart (state_of h i k) time → taken)
      → TriedAgain h out until time (start h table i k time id out) taken
  again until e f =
      record {
        too_soon = λ l. refuses h out 21 _
            (is_too_soon_lem h table i k time id out
            (record { names = names; called = called; in_table = in_table; until = until; stopped = e; before = l }));
        then = λ l. f (inr (until, e, l));
      }

  -- A unique name: Off can be started, and Stopped from the time on that it remembers; the other four are 19.
  pub unique_starts : (n : ℕ) → Octets table → Place h i k → Interval h i n → (get_or names k no_name).kind ≡ 1
      → UniqueStarts h i k n time id (get_or names k no_name).octets out (state_of h i k) (start h table i k time id out)
  unique_starts n o p v e = go (state_of h i k) refl
    where
      starts : MayStart (state_of h i k) time → Asks h i k (Verifying 1 id (due_at (time + n))) time (check_of id name) out (start h table i k time id out)
      starts s =
          subst (λ (m : ℕ). Asks h i k (Verifying 1 id (due_at (time + m))) time (check_of id name) out (start h table i k time id out)) (interval_is _ n v)
          (asks_check h i k p _ time id table names out _ o called in_table (start_asks h table i k time id out (may 1 e s)))

      go : (s : NameState) → state_of h i k ≡ s → UniqueStarts h i k n time id name out s (start h table i k time id out)
      go Off q = starts (inl q)
      go (Verifying sends own timer) q = busy _ q refl refl
      go Unique q = busy _ q refl refl
      go (Defending own qtype class timer) q = busy _ q refl refl
      go (Stopped until) q = again until q starts
      go Shared q = busy _ q refl refl

  -- A shared name likewise: nothing is sent.
  pub shared_starts : Place h i k → (get_or names k no_name).kind ≡ 2 → SharedStarts h i k time out (state_of h i k) (start h table i k time id out)
  shared_starts p e = go (state_of h i k) refl
    where
      starts : MayStart (state_of h i k) time → Becomes h i k Shared time out (shared_name k) (start h table i k time id out)
      starts s = becomes h i k p Shared time out (shared_name k) _ (start_shares h table i k time id out (may 2 e s))

      go : (s : NameState) → state_of h i k ≡ s → SharedStarts h i k time out s (start h table i k time id out)
      go Off q = starts (inl q)
      go (Verifying sends own timer) q = busy _ q refl refl
      go Unique q = busy _ q refl refl
      go (Defending own qtype class timer) q = busy _ q refl refl
      go (Stopped until) q = again until q starts
      go Shared q = busy _ q refl refl

-- ---- queries

module _ (h : Host) (a : Arrival) (names : List Held) (q : Question) (k : ℕ) (w : QueryArrives h a names q) (f : AsksFor a names q k) where
  abbrev sent : List ℕ
  sent = query_with a.id (take (q.end - 12) (drop 12 a.datagram))

  refused_12 : state_here h a k ≡ Off → Refuses h a.out 12 (receive h a)
  refused_12 e = refuses h a.out 12 _ (not_ours_lem h a (record { names = names; q = q; query = w; none = inr (k, f, e) }))

  refused_13 : HasStopped (state_here h a k) → Refuses h a.out 13 (receive h a)
  refused_13 e = refuses h a.out 13 _ (has_stopped h a (record { names = names; q = q; k = k; query = w; name = f; stopped = e }))

  -- 14: C set, and the state is not Unique or the source is ours
  refused_14 : (s : NameState) → state_here h a k ≡ s → is off s ≡ false → is stopped s ≡ false → (header_of a.datagram).conflict ≡ true
      → (not (is unique s) or is_own h a.from.address) ≡ true → Refuses h a.out 14 (receive h a)
  refused_14 s e o p c b =
      let t = state_is h a names q w.arrives k f ∙ e in
      let there = is_found_lem h a names q w.arrives k f in
      let ours : not_ours h a ≡ false = rw (there, t) o in
      let not_stopped : is stopped (state h a) ≡ false = rw t p in
      let bad : bad_notification h a ≡ true = rw (c, t) b in
      refuses h a.out 14 _ (receive_by h a (refused (number 14)) (query_gives h a names q w (next ours (next not_stopped (stop bad)))))

  -- C clear: answered wherever the source is.
  pub clear_query : Octets a.datagram → (header_of a.datagram).conflict ≡ false → ClearQuery h a (state_here h a k) (receive h a)
  clear_query octets c = go (state_here h a k) refl
    where
      answers : (s : NameState) → state_here h a k ≡ s → is off s ≡ false → is stopped s ≡ false → Replies h a (is shared s) (is verifying s) (receive h a)
      answers s e o p =
          let r : RepliesWhen h a =
          record {
            names = names;
            q = q;
            k = k;
            query = w;
            name = f;
            c_clear = c;
            not_off = (not_off _).0 (ap (is off) e ∙ o);
            not_stopped = (not_stopped _).0 (ap (is stopped) e ∙ p);
          } in
          let d = replies h a r in
          let b = reply_read h a _ r octets (ap (λ (x : Done). x.result) d) in
          record {
            len = _;
            result = ap (λ (x : Done). x.result) d;
            states = ap (λ (x : Done). x.host.interfaces) d;
            clock = ap (λ (x : Done). x.host.clock) d;
            to = ap (λ (x : Done). x.to) d;
            cut = b.cut;
            answers = b.answers;
            header = b.header_is ∙ ap (λ (x : NameState). Some (reply_header (header_of a.datagram).id (is shared x) b.cut (is verifying x) b.answers)) e;
          }

      go : (s : NameState) → state_here h a k ≡ s → ClearQuery h a s (receive h a)
      go Off e = refused_12 e
      go (Verifying sends own timer) e = answers _ e refl refl
      go Unique e = answers _ e refl refl
      go (Defending own qtype class timer) e = answers _ e refl refl
      go (Stopped until) e = refused_13 (until, e)
      go Shared e = answers _ e refl refl

  -- C set, from none of our addresses: taken while Unique, and only then.
  pub notification : (n : ℕ) → Octets a.datagram → Place h a.interface k → Interval h a.interface n → (header_of a.datagram).conflict ≡ true
      → (Ours h a.from.address → ⊥) → Notification h a q k n (state_here h a k) (receive h a)
  notification n octets p v c o = go (state_here h a k) refl
    where
      defended : state_here h a k ≡ Unique → Asks h a.interface k (Defending a.id q.qtype q.class (due_at (a.time + n))) a.time sent a.out (receive h a)
      defended e =
          let s = question_out a q octets w.arrives.question in
          let b = asks h a.interface k p _ a.time _ a.out _ w.arrives.called.used (omega (arith, s.1, w.arrives.called.room))
          (defends h a k (record { names = names; q = q; query = w; name = f; c_set = c; unique = e; not_ours = (not_is _ (ours_is h _)).1 o })) in
          subst (λ (m : ℕ). Asks h a.interface k (Defending a.id q.qtype q.class (due_at (a.time + m))) a.time sent a.out (receive h a)) (interval_is _ n v)
          (subst (λ (x : List ℕ). Asks h a.interface k (Defending a.id q.qtype q.class (timer_from (setting_of h a.interface) a.time)) a.time x a.out (receive h a)) s.0 b)

      go : (s : NameState) → state_here h a k ≡ s → Notification h a q k n s (receive h a)
      go Off e = refused_12 e
      go (Verifying sends own timer) e = refused_14 _ e refl refl c refl
      go Unique e = defended e
      go (Defending own qtype class timer) e = refused_14 _ e refl refl c refl
      go (Stopped until) e = refused_13 (until, e)
      go Shared e = refused_14 _ e refl refl c refl

  -- C set, from one of our addresses: never taken.
  pub own_notification : (header_of a.datagram).conflict ≡ true → Ours h a.from.address
      → OwnNotification h a (state_here h a k) (receive h a)
  own_notification c o = go (state_here h a k) refl
    where
      go : (s : NameState) → state_here h a k ≡ s → OwnNotification h a s (receive h a)
      go Off e = refused_12 e
      go (Verifying sends own timer) e = refused_14 _ e refl refl c refl
      go Unique e = refused_14 _ e refl refl c ((ours_is h _).1 o)
      go (Defending own qtype class timer) e = refused_14 _ e refl refl c refl
      go (Stopped until) e = refused_13 (until, e)
      go Shared e = refused_14 _ e refl refl c refl

-- ---- responses

module _ (h : Host) (a : Arrival) (names : List Held) (q : Question) (k : ℕ) (w : ResponseArrives h a names q) (f : AsksFor a names q k) where
  -- 15: no check waits in this state
  refused_15 : (x : NameState) → state_here h a k ≡ x → (WaitsFor x (header_of a.datagram).id q.qtype q.class → ⊥) → Refuses h a.out 15 (receive h a)
  refused_15 x e free =
      refuses h a.out 15 _
      (not_awaited h a
      (record {
        names = names;
        q = q;
        response = w;
        none = inr (k, f, λ m. free (subst (λ (y : NameState). WaitsFor y (header_of a.datagram).id q.qtype q.class) e m));
      }))

  -- 16: it is awaited, and comes from our own address
  refused_16 : (x : NameState) → state_here h a k ≡ x → WaitsFor x (header_of a.datagram).id q.qtype q.class → Ours h a.from.address
      → Refuses h a.out 16 (receive h a)
  refused_16 x e m o =
      refuses h a.out 16 _
      (own_address h a
      (record {
        names = names;
        q = q;
        k = k;
        response = w;
        name = f;
        awaited = subst (λ (y : NameState). WaitsFor y (header_of a.datagram).id q.qtype q.class) (sym e) m;
        ours = (ours_is h _).1 o;
      }))

  module _ (p : Place h a.interface k) (o : is_own h a.from.address ≡ false) (x : NameState) (e : state_here h a k ≡ x)
      (m : WaitsFor x (header_of a.datagram).id q.qtype q.class) where
    match : MatchArrives h a names q k
    match =
        record {
          response = w;
          name = f;
          awaited = subst (λ (y : NameState). WaitsFor y (header_of a.datagram).id q.qtype q.class) (sym e) m;
          not_ours = o;
        }

    abbrev TakenIn : NameState → Type 0
    TakenIn y = TakenBy y (header_of a.datagram).tentative a.from.address (address_of (setting_of h a.interface))

    stops : Octets a.datagram → TakenIn x → Stops h a q k (receive h a)
    stops od t =
        record {
          until = _;
          until_is = (until_exactly a.time (header_of a.datagram).answers a.datagram q.end od _).0 refl;
          becomes =
              becomes h a.interface k p _ a.time a.out (stopped_name k) _
              (stops_it h a k (record { names = names; q = q; match = match; taken = subst TakenIn (sym e) t }));
        }

    keeps : (TakenIn x → ⊥) → Keeps h a k (receive h a)
    keeps n = leaves h a.time a.out (kept k) _ (keeps_it h a k (record { names = names; q = q; match = match; not_taken = λ t. n (subst TakenIn e t) }))

  -- What is awaited is stopped or kept; four states wait for nothing, and are 15.
  pub response : Octets a.datagram → Place h a.interface k → Response h a q k (state_here h a k) (receive h a)
  response od p = go (state_here h a k) refl
    where
      below : FromBelow h a → below_address a.from.address (address_of (setting_of h a.interface)) ≡ true
      below = is_below h a w.arrives.from_family

      not_below : (FromBelow h a → ⊥) → below_address a.from.address (address_of (setting_of h a.interface)) ≡ true → ⊥
      not_below n b = n (from_below h a w.arrives.from_family w.arrives.called.used b)

      elsewhere : (Ours h a.from.address → ⊥) → is_own h a.from.address ≡ false
      elsewhere o = (not_is _ (ours_is h _)).1 o

      go : (x : NameState) → state_here h a k ≡ x → Response h a q k x (receive h a)
      go Off e = refused_15 _ e (λ z. z)
      go (Verifying sends own timer) e =
          record {
            awaited =
                λ m o.
                record {
                  t_clear = λ t. stops p (elsewhere o) _ e m od (inl t);
                  t_set_below = λ t b. stops p (elsewhere o) _ e m od (inr (below b));
                  t_set_else = λ t n. keeps p (elsewhere o) _ e m (⊎_elim (λ c. never t c) (not_below n));
                };
            own = λ m o. refused_16 _ e m o;
            else = λ n. refused_15 _ e n;
          }
      go Unique e = refused_15 _ e (λ z. z)
      go (Defending own qtype class timer) e =
          record {
            awaited =
                λ m o. record { below = λ b. stops p (elsewhere o) _ e m od (below b); else = λ n. keeps p (elsewhere o) _ e m (not_below n) };
            own = λ m o. refused_16 _ e m o;
            else = λ n. refused_15 _ e n;
          }
      go (Stopped until) e = refused_15 _ e (λ z. z)
      go Shared e = refused_15 _ e (λ z. z)
