-- Until when a stopped name is not tried again, and when a start is too soon: exactly as specs/Stopping.antt and specs/Served.antt say in plain
-- words. And both together: after the response that stops a name, a start is refused with 21 exactly before the time that the response gives.
use Rattle.message.specs.declared.ResourceRecord.{ResourceRecord}
use Rattle.std.proofs.Common.{None, Option, Some, ℕ, ◌+◌, ◌<◌, ◌≡◌, refl, sym, ap, ◌∙◌, subst, ◌↔◌, ◌≢◌, List, arith, length, ltb, eqb, ltb-true, ltb-false, lt-ltb, le-ltb, leb-false, eqb-true, eq-eqb, ne_eqb}
use Rattle.std.proofs.lemmas.Bool.{eqb-false}
use Rattle.octets.specs.Octets.{Octets}
use Rattle.octets.proofs.Tests.{split}
use Rattle.refusal.specs.Numbers.{number}
use Rattle.refusal.specs.Checks.{Verdict, refused, passed, pass, verdict}
use Rattle.refusal.proofs.Checks.{from_later, from_last}
use Rattle.name_table.specs.Kinds.{kind_of, is_shared_kind}
use Rattle.name_table.specs.Check.{Held, names_in, name_in, check_table}
use Rattle.message.specs.Bounds.{top_bit}
use Rattle.message.specs.Header.{header_of}
use Rattle.message.specs.Records.{record_at, IsRecord}
use Rattle.message.proofs.Records.{reads_a_record, reads_no_record}
use Rattle.host.specs.State.{interface_of, state_of, with_state}
use Rattle.host.specs.Outcomes.{Done, refused as refused_with, silent, stopped as stopped_name}
use Rattle.host.specs.Stopping.{rest_by, stopped_until, StopsUntil, by_ttl, top_bit_set, no_answer, bad_answer}
use Rattle.host.specs.Start.{start_checks, start_if, start}
use Rattle.host.specs.Receive.{Arrival, receive}
use Rattle.host.specs.ExactlyWhen.{CalledWell, StopsWhen}
use Rattle.host.specs.Served.{TooSoonWhen}
use Rattle.host.specs.declared.NameState.TheVariants.{Stopped}
use Rattle.host.specs.declared.Host.{Host}
use Rattle.host.proofs.Conditions.{soon_is}
use Rattle.host.proofs.Called.{called_is}
use Rattle.host.proofs.Laws.{changed_name}
use Rattle.host.proofs.Received.{stops_it}
use Rattle.host.proofs.Started.{is_too_soon_lem}

-- ---- until when

module _ (time answers : ℕ) (s : List ℕ) (at : ℕ) (o : Octets s) where
  abbrev Until : ℕ → Type 0
  Until u = StopsUntil time answers s at u

  -- the definition says it in plain words,
  plainly : Until (stopped_until time answers s at)
  unfolding stopped_until
  plainly = split (eqb answers 0) (λ z. rw z (no_answer (eqb-true _ _ z))) (λ z. rw z (read (record_at s at) refl (eqb-false _ _ z)))
    where
      read : (r : Option ResourceRecord) → record_at s at ≡ r → answers ≢ 0 → Until (time + rest_by r)
      read (Some r) e n =
          let w : IsRecord s at r = (reads_a_record s at r o).0 e in
          let z : time + 0 ≡ time = omega arith in
          split (ltb r.ttl top_bit)
          (λ t. rw t (by_ttl r n w (ltb-true r.ttl top_bit t)))
          (λ t. rw (t, z) (top_bit_set r n w (ltb-false r.ttl top_bit t)))
      read None e n = bad_answer ((reads_no_record s at o).0 e)

  -- and nothing else is said so.
  only : (u : ℕ) → Until u → u ≡ stopped_until time answers s at
  unfolding stopped_until
  only u (by_ttl r n w l) = rw (ne_eqb answers 0 n, (reads_a_record s at r o).1 w, lt-ltb r.ttl top_bit l)
  only u (top_bit_set r n w l) =
      let z : time ≡ time + 0 = omega arith in
      rw (ne_eqb answers 0 n, (reads_a_record s at r o).1 w, le-ltb r.ttl top_bit l) z
  only u (no_answer e) = rw (eq-eqb answers 0 e)
  only u (bad_answer f) = split (eqb answers 0) (λ z. rw z) (λ z. rw (z, (reads_no_record s at o).1 f))

  pub until_exactly : (u : ℕ) → (u ≡ stopped_until time answers s at) ↔ Until u
  until_exactly u = (λ e. rw e plainly, only u)

-- ---- too soon

module _ (h : Host) (table : List ℕ) (i k time id : ℕ) (out : List ℕ) where
  told_21 : (v : Verdict) → (start_if v h table i k time id out).result ≡ refused_with (number 21) → v ≡ refused (number 21)
  told_21 (refused t) e = cc
  told_21 passed e =
      split (is_shared_kind (kind_of (name_in table k).kind))
      (λ t. let z : ◌≡◌ {A = ℕ} 0 1 = cc (rw t at e) in absurd (omega arith))
      (λ t. let z : ◌≡◌ {A = ℕ} 0 1 = cc (rw t at e) in absurd (omega arith))

  when : verdict (start_checks h table i k time out) ≡ refused (number 21) → TooSoonWhen h table i k time out
  when e =
      let c1 = from_later _ _ _ _ (λ n. omega arith) e in
      let c2 = from_later _ _ _ _ (λ n. omega arith) c1.1 in
      let c3 = from_later _ _ _ _ (λ n. omega arith) c2.1 in
      let c4 = from_later _ _ _ _ (λ n. omega arith) c3.1 in
      let c12 = from_later _ _ _ _ (λ n. omega arith) c4.1 in
      let c19 = from_later _ _ _ _ (λ n. omega arith) c12.1 in
      let w = (soon_is (state_of h i k) time).0 (from_last _ _ _ c19.1) in
      record {
        names = names_in (check_table table);
        called = called_is h table i time out pass (c1.0, (c2.0, (c3.0, (c4.0, tt))));
        in_table = leb-false _ _ c12.0;
        until = w.0;
        stopped = w.1;
        before = w.2;
      }

  -- A start is refused with 21 exactly when the conditions of TooSoonWhen hold.
  pub too_soon_exactly : ((start h table i k time id out).result ≡ refused_with (number 21)) ↔ TooSoonWhen h table i k time out
  unfolding start
  too_soon_exactly = (
    λ e. when (told_21 (verdict (start_checks h table i k time out)) e),
    λ w. ap (λ (d : Done). d.result) (is_too_soon_lem h table i k time id out w),
  )

-- ---- a name that a response has stopped

module _ (h : Host) (a : Arrival) (o : Octets a.datagram) (k : ℕ) (w : StopsWhen h a k) where
  abbrev UntilThen : ℕ → Type 0
  UntilThen u = StopsUntil a.time (header_of a.datagram).answers a.datagram w.q.end u

  -- the time that it remembers, by ANCOUNT and what stands after the question
  pub stops_until : (u : ℕ) → UntilThen u
      → receive h a ≡ silent (with_state h a.interface k (Stopped u) a.time) a.out (stopped_name k)
  stops_until u t = rw ((until_exactly _ _ _ _ o u).1 t) (stops_it h a k w)

  module _ (inside : a.interface < length h.interfaces) (place : k < length (interface_of h a.interface).names) where
    remembered : (u : ℕ) → UntilThen u → state_of (receive h a).host a.interface k ≡ Stopped u
    remembered u t =
        ap (λ (d : Done). state_of d.host a.interface k) (stops_until u t)
        ∙ changed_name h a.interface k inside place (Stopped u) a.time

    same_until : (u v : ℕ) → Stopped u ≡ Stopped v → u ≡ v
    same_until u v e = cc

    -- exactly that time
    pub remembers_exactly : (u : ℕ) → (state_of (receive h a).host a.interface k ≡ Stopped u) ↔ UntilThen u
    remembers_exactly u = (
      λ e.
          let v = stopped_until a.time (header_of a.datagram).answers a.datagram w.q.end in
          let t = (until_exactly a.time (header_of a.datagram).answers a.datagram w.q.end o v).0 refl in
          subst UntilThen (same_until v u (sym (remembered v t) ∙ e)) t,
      remembered u,
    )

    -- Then a start of the name on this interface is refused with 21 exactly before that time, if the checks before 21 let it by.
    pub tried_again : (u : ℕ) → UntilThen u → (table : List ℕ) (names : List Held) (time id : ℕ) (out : List ℕ)
        → CalledWell (receive h a).host table a.interface time out names → k < length names
        → ((start (receive h a).host table a.interface k time id out).result ≡ refused_with (number 21)) ↔ (time < u)
    tried_again u t table names time id out called known = (
      λ e.
          let x = (too_soon_exactly (receive h a).host table a.interface k time id out).0 e in
          let z = same_until _ _ (sym x.stopped ∙ remembered u t) in
          omega (arith, x.before, z),
      λ l.
          (too_soon_exactly (receive h a).host table a.interface k time id out).1
          (record { names = names; called = called; in_table = known; until = u; stopped = remembered u t; before = l }),
    )
