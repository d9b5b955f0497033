-- A reply goes out, a defence goes out, a name stops, a response is kept: exactly when specs/ExactlyWhen.antt says. That they do then is
-- shown in proofs/Received.antt; here, that they do only then.
use Rattle.std.proofs.Common.{ℕ, ◌≡◌, refl, ap, ◌∙◌, subst, ◌↔◌, Bool, true, false, cond, not, arith, length}
use Rattle.octets.specs.Tests.{◌or◌}
use Rattle.octets.proofs.Tests.{never, not_not, only_first}
use Rattle.refusal.specs.Numbers.{Report}
use Rattle.refusal.specs.Checks.{Verdict, refused as refused_by, passed, verdict, Clear}
use Rattle.refusal.proofs.Checks.{clear}
use Rattle.name_table.specs.Check.{check_table, names_in, is_found}
use Rattle.message.specs.Query.{query_octets}
use Rattle.host.specs.State.{off, unique, stopped, is}
use Rattle.host.specs.Outcomes.{Done, CallResult, refusal, refused, ready, quiet, query, reply, kept, unique as unique_name, shared as shared_name, stopped as stopped_name}
use Rattle.host.specs.Receive.{Arrival, header, question, question_in, found, name_number, state, from_us, bad_notification, query_checks, response_checks, receive_checks, Decision, answer, defend, stop, keep, loses, decision, effect, receive_if, receive}
use Rattle.host.specs.ExactlyWhen.{Replies, RepliesWhen, Asks, DefendsWhen, IsTaken, MatchArrives, StopsWhen, KeepsWhen}
use Rattle.host.specs.declared.Host.{Host}
use Rattle.host.proofs.Conditions.{found_at, not_off, not_stopped, is_unique, waits_is}
use Rattle.host.proofs.Arrives.{after_11, query_is, response_is}
use Rattle.host.proofs.Received.{lost_is, replies, defends, stops_it, keeps_it}

-- ---- what receive does

pub data Receives (h : Host) (a : Arrival) : Done → Type 0 where
  refuses : (t : Report) → Receives h a (refusal h a.out t)
  accepts : (d : Decision) → Clear (receive_checks h a) → decision h a ≡ d → Receives h a (effect d h a (question a) (name_number a))

pub receive_is : (h : Host) (a : Arrival) → Receives h a (receive h a)
unfolding receive
receive_is h a = go (verdict (receive_checks h a)) refl
  where
    go : (v : Verdict) → verdict (receive_checks h a) ≡ v → Receives h a (receive_if v h a)
    go (refused_by t) e = refuses t
    go passed e = accepts _ (clear (receive_checks h a) e) refl

-- what is decided, by QR, whether the name is lost, and C; and what a decision tells of them
abbrev decided : Bool → Bool → Bool → Decision
decided response lost conflict = cond response (cond lost stop keep) (cond conflict defend answer)

abbrev Because : Bool → Bool → Bool → Decision → Type 0
Because response lost conflict answer = (response ≡ false) × (conflict ≡ false)
Because response lost conflict defend = (response ≡ false) × (conflict ≡ true)
Because response lost conflict stop = (response ≡ true) × (lost ≡ true)
Because response lost conflict keep = (response ≡ true) × (lost ≡ false)

because : (response lost conflict : Bool) → Because response lost conflict (decided response lost conflict)
because true true conflict = (refl, refl)
because true false conflict = (refl, refl)
because false lost true = (refl, refl)
because false lost false = (refl, refl)

-- what a result tells of the decision
abbrev Told : Arrival → CallResult → Decision → Type 0
Told a (reply len) d = d ≡ answer
Told a (query k len) d = (d ≡ defend) × (name_number a ≡ k)
Told a (stopped_name k) d = (d ≡ stop) × (name_number a ≡ k)
Told a (kept k) d = (d ≡ keep) × (name_number a ≡ k)
Told a (refused t) d = ⊥
Told a ready d = ⊥
Told a quiet d = ⊥
Told a (unique_name k) d = ⊥
Told a (shared_name k) d = ⊥

told : (h : Host) (a : Arrival) (d : Decision) → Told a (effect d h a (question a) (name_number a)).result d
told h a answer = refl
told h a defend = (refl, refl)
told h a stop = (refl, refl)
told h a keep = (refl, refl)

module _ (h : Host) (a : Arrival) where
  -- the decision d was made for a reason, and gives the result r
  reason : (d : Decision) → decision h a ≡ d → Because (header a).response (loses h a) (header a).conflict d
  reason d e = subst (Because (header a).response (loses h a) (header a).conflict) e (because (header a).response (loses h a) (header a).conflict)

  tells : (d : Decision) (r : CallResult) → (effect d h a (question a) (name_number a)).result ≡ r → Told a r d
  tells d r e = subst (λ (x : CallResult). Told a x d) e (told h a d)

  -- what an accepted query, and an accepted response, have passed about the name
  abbrev Named : Type 0
  Named = (is_found (found a) ≡ true) × (is off (state h a) ≡ false) × (is stopped (state h a) ≡ false) × (bad_notification h a ≡ false)

  query_named : Clear (receive_checks h a) → (header a).response ≡ false → Named
  query_named c q =
      let m : Clear (query_checks h a) = rw q at (after_11 h a c) in
      let t = (only_first _ _).0 m.0 in
      (t.0, t.1, m.1.0, m.1.1.0)

  response_matches : Clear (receive_checks h a) → (header a).response ≡ true
      → MatchArrives h a (names_in (check_table a.table)) (question a) (name_number a)
  response_matches c q =
      let m : Clear (response_checks h a) = rw q at (after_11 h a c) in
      let u = (only_first _ _).0 m.0 in
      record {
        response = response_is h a c q;
        name = found_at (found a) u.0;
        awaited = (waits_is (state h a) (header a).id (question a).qtype (question a).class).0 ((not_not _).0 u.1);
        not_ours = m.1.0;
      }

-- ---- a reply

-- A reply goes out exactly when the conditions of RepliesWhen hold.
pub replies_exactly : (h : Host) (a : Arrival) → Replies (receive h a) ↔ RepliesWhen h a
replies_exactly h a = (λ r. when (receive_is h a) r.len r.gives, λ w. record { len = _; gives = ap (λ (x : Done). x.result) (replies h a w) })
  where
    when : {d : Done} → Receives h a d → (len : ℕ) → d.result ≡ reply len → RepliesWhen h a
    when (refuses t) len e = let z : ◌≡◌ {A = ℕ} 0 1 = cc in absurd (omega arith)
    when (accepts d c e) len r =
        let t = reason h a answer (e ∙ tells h a d (reply len) r) in
        let n = query_named h a c t.0 in
        record {
          names = names_in (check_table a.table);
          q = question a;
          k = name_number a;
          query = query_is h a c t.0;
          name = found_at (found a) n.0;
          c_clear = t.1;
          not_off = (not_off (state h a)).0 n.1;
          not_stopped = (not_stopped (state h a)).0 n.2;
        }

-- ---- a defence

-- A query of our own goes out on a datagram exactly when the conditions of DefendsWhen hold.
pub defends_exactly : (h : Host) (a : Arrival) (k : ℕ) → Asks k (receive h a) ↔ DefendsWhen h a k
defends_exactly h a k = (λ r. when (receive_is h a) r.len r.gives, λ w. record { len = length (query_octets a.id 0 (question_in a w.q)); gives = ap (λ (x : Done). x.result) (defends h a k w) })
  where
    when : {d : Done} → Receives h a d → (len : ℕ) → d.result ≡ query k len → DefendsWhen h a k
    when (refuses t) len e = let z : ◌≡◌ {A = ℕ} 0 1 = cc in absurd (omega arith)
    when (accepts d c e) len r =
        let o = tells h a d (query k len) r in
        let t = reason h a defend (e ∙ o.0) in
        let m = query_named h a c t.0 in
        let n : (not (is unique (state h a)) or from_us h a) ≡ false = rw t.1 at m.3 in
        let u = (only_first _ _).0 n in
        subst (DefendsWhen h a) o.1
        (record {
          names = names_in (check_table a.table);
          q = question a;
          query = query_is h a c t.0;
          name = found_at (found a) m.0;
          c_set = t.1;
          unique = is_unique (state h a) u.0;
          not_ours = u.1;
        })

-- ---- a response: a name stops, or it is kept

-- A name stops exactly when the conditions of StopsWhen hold.
pub stops_exactly : (h : Host) (a : Arrival) (k : ℕ) → ((receive h a).result ≡ stopped_name k) ↔ StopsWhen h a k
stops_exactly h a k = (when (receive_is h a), λ w. ap (λ (x : Done). x.result) (stops_it h a k w))
  where
    when : {d : Done} → Receives h a d → d.result ≡ stopped_name k → StopsWhen h a k
    when (refuses t) e = let z : ◌≡◌ {A = ℕ} 0 1 = cc in absurd (omega arith)
    when (accepts d c e) r =
        let o = tells h a d (stopped_name k) r in
        let t = reason h a stop (e ∙ o.0) in
        let m = response_matches h a c t.0 in
        subst (StopsWhen h a) o.1
        (record { names = names_in (check_table a.table); q = question a; match = m; taken = (lost_is h a (question a) (name_number a) m.awaited).0 t.1 })

-- A response is kept exactly when the conditions of KeepsWhen hold.
pub keeps_exactly : (h : Host) (a : Arrival) (k : ℕ) → ((receive h a).result ≡ kept k) ↔ KeepsWhen h a k
keeps_exactly h a k = (when (receive_is h a), λ w. ap (λ (x : Done). x.result) (keeps_it h a k w))
  where
    when : {d : Done} → Receives h a d → d.result ≡ kept k → KeepsWhen h a k
    when (refuses t) e = let z : ◌≡◌ {A = ℕ} 0 1 = cc in absurd (omega arith)
    when (accepts d c e) r =
        let o = tells h a d (kept k) r in
        let t = reason h a keep (e ∙ o.0) in
        let m = response_matches h a c t.0 in
        let not_taken : IsTaken h a (name_number a) → ⊥ = λ x. never ((lost_is h a (question a) (name_number a) m.awaited).1 x) t.1 in
        subst (KeepsWhen h a) o.1 (record { names = names_in (check_table a.table); q = question a; match = m; not_taken = not_taken })
