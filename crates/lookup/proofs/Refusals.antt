-- Refused exactly: start, receive and tick give a refusal number exactly where its condition holds and those before it do not, as
-- specs/Refusals.antt lists them.
use Rattle.std.proofs.Common.{None, Option, Some, ℕ, ◌≡◌, refl, sym, ap, subst, ◌↔◌, List, Bool, true, false, get_or}
use mathlib.Core.Logic.Iff
use Rattle.octets.specs.Octets.{Octets}
use Rattle.octets.specs.Addresses.{unused}
use Rattle.octets.specs.declared.Setting.{Setting}
use Rattle.octets.proofs.Tests.{never, below_number, either_is, only, unlike_number, not_true, not_not, not_is}
use Rattle.octets.proofs.PlainAddresses.{group_address, ours_plain}
use Rattle.refusal.specs.Numbers.{Report}
use Rattle.refusal.specs.Checks.{Verdict, refused as refused_by, passed, verdict}
use Rattle.refusal.specs.Cases.{First}
use Rattle.refusal.proofs.Cases.{Exactly, ends, check, skip, told_by}
use Rattle.message.specs.declared.Question.{Question}
use Rattle.message.specs.Question.{question_at, question_or, is_bad_question, IsQuestion}
use Rattle.message.proofs.Questions.{reads_a_question, reads_no_question}
use Rattle.host.proofs.Conditions.{question_good}
use Rattle.lookup.specs.State.{setting_of, phase_of}
use Rattle.lookup.specs.Outcomes.{refused, is_refused, Done}
use Rattle.lookup.specs.Start.{start_checks, start_if, start}
use Rattle.lookup.specs.Receive.{Arrival, header, question, heard, receive_checks, receive_if, receive}
use Rattle.lookup.specs.Tick.{Turn, rest, again, give_up, finish, tick_checks, turn_of, turned, tick_if, tick}
use Rattle.lookup.specs.Refusals.{start_cases, IsAwaited, OfQuestion, IsCutShort, receive_cases, tick_cases}
use Rattle.lookup.specs.declared.Lookup.{Lookup}
use Rattle.lookup.proofs.Conditions.{unused_is, clock_is, name_is, name_several, awaited_is, cut_is}

-- a call's result is a refusal exactly if its verdict is one
refused_by_lem : (done : Verdict → Done) → ((t : Report) → (done (refused_by t)).result ≡ refused t) → is_refused (done passed).result ≡ false
    → (v : Verdict) (t : Report) → ((done v).result ≡ refused t) ↔ (v ≡ refused_by t)
refused_by_lem done r p = told_by refused is_refused (λ v. (done v).result) (λ t. refl) (λ s t e. cc) r p

-- Start: 1, 3, 4, 10, 22.
pub start_refused_exactly : (settings : List Setting) (i : ℕ) (name : List ℕ) (qtype : ℕ) (permission : Bool) (time id : ℕ) (out : List ℕ) → Octets name → (t : Report)
    → ((start settings i name qtype permission time id out).result ≡ refused t) ↔ First t (start_cases settings i name permission time out)
unfolding start
start_refused_exactly settings i name qtype permission time id out o t =
    Iff.trans (refused_by_lem (λ v. start_if v settings i name qtype time id out) (λ u. refl) refl (verdict (start_checks settings i name permission time out)) t)
    (checks.exactly t)
  where
    bad : (b : Bool) {c : Type 0} → (b ≡ false) ↔ c → (b ≡ true) ↔ (c → ⊥)
    bad true i = (λ e x. never refl (i.1 x), λ f. refl)
    bad false i = (λ e. never e refl, λ f. absurd (f (i.0 refl)))

    checks : Exactly (start_checks settings i name permission time out) (start_cases settings i name permission time out)
    checks =
        check _ 1 (below_number _ _)
        (λ e1. check _ 3 (unused_is i (get_or settings i unused))
        (λ e3. check _ 4 (below_number _ _)
        (λ e4. check _ 10 (bad _ (name_is name o))
        (λ e10.
        let w = (name_is name o).0 e10 in
        check _ 22 ((λ e. (w, (name_several permission name w).0 e)), λ x. (name_several permission name x.0).1 x.1)
        (λ e22. ends)))))

-- Tick: 1, 4.
pub tick_refused_exactly : (l : Lookup) (time id : ℕ) (out : List ℕ) (t : Report) → ((tick l time id out).result ≡ refused t) ↔ First t (tick_cases l time out)
unfolding tick
tick_refused_exactly l time id out t =
    Iff.trans (refused_by_lem (λ v. tick_if v l time out) (λ u. refl) (accepted (turn_of (phase_of l) time)) (verdict (tick_checks l time out)) t) (checks.exactly t)
  where
    accepted : (u : Turn) → is_refused (turned u l time out).result ≡ false
    accepted rest = refl
    accepted (again n) = refl
    accepted give_up = refl
    accepted finish = refl

    checks : Exactly (tick_checks l time out) (tick_cases l time out)
    checks = check _ 1 (below_number _ _) (λ e1. check _ 4 (clock_is _ _) (λ e4. ends))

-- ---- receive

module _ (l : Lookup) (a : Arrival) (o : Octets a.datagram) where
  -- the question after the header
  question_bad : (is_bad_question (question_at a.datagram 12) ≡ true) ↔ ((q : Question) → IsQuestion a.datagram 12 q → ⊥)
  question_bad = Iff.trans (bad_is (question_at a.datagram 12)) (reads_no_question a.datagram 12 o)
    where
      bad_is : (r : Option Question) → (is_bad_question r ≡ true) ↔ (r ≡ None)
      bad_is (Some q) = (λ e. never e refl, λ e. never (ap is_bad_question e) refl)
      bad_is None = (λ e. refl, λ e. refl)

  module _ (r : question_at a.datagram 12 ≡ Some (question a)) where
    -- what holds of the question that was read
    of_question : (c : Question → Type 0) → c (question a) ↔ OfQuestion a c
    of_question c = (
      λ x. (question a, (reads_a_question a.datagram 12 (question a) o).0 r, x),
      λ x. subst c (sym (ap question_or ((reads_a_question a.datagram 12 x.0 o).1 x.1))) x.2,
    )

  -- 1, 3 to 5, 15 for a query, 6 to 10, 15, 16, 17, 18.
  pub receive_refused_exactly : (t : Report) → ((receive l a).result ≡ refused t) ↔ First t (receive_cases l a)
  unfolding receive
  receive_refused_exactly t = Iff.trans (refused_by_lem (λ v. receive_if v l a) (λ u. refl) accepted (verdict (receive_checks l a)) t) (checks.exactly t)
    where
      by : (c : Bool) → (header a).conflict ≡ c → is_refused (heard l (header a) (question a) a.time a.out).result ≡ false
      by true e = rw e
      by false e = rw e

      accepted : is_refused (heard l (header a) (question a) a.time a.out).result ≡ false
      accepted = by (header a).conflict refl

      checks : Exactly (receive_checks l a) (receive_cases l a)
      checks =
          check _ 1 (below_number _ _)
          (λ e1. check _ 3 (unused_is l.interface (setting_of l))
          (λ e3. check _ 4 (clock_is _ _)
          (λ e4. check _ 5 (either_is _ _ (below_number _ _) (below_number _ _))
          (λ e5. check _ 15 (not_true _)
          (λ e15.
          let e : (header a).response ≡ true = (not_not _).0 e15 in
          check _ 6 (either_is _ _ (unlike_number _ _) (either_is _ _ (unlike_number _ _) (rw e (group_address _))))
          (λ e6. check _ 7 (unlike_number _ _)
          (λ e7. check _ 8 (rw e (unlike_number _ _))
          (λ e8. check _ 9 (only _ _ (rw e) (unlike_number _ _))
          (λ e9. check _ 10 question_bad
          (λ e10.
          let r = question_good _ e10 in
          skip _ _ (rw e)
          (check _ 15 (Iff.trans (Iff.trans (not_true _) (not_is _ (awaited_is l a (question a)))) (of_question r (λ q. IsAwaited l a q → ⊥)))
          (λ e15b. check _ 16 (ours_plain _ _)
          (λ e16. check _ 17 Iff.rfl
          (λ e17. check _ 18 (Iff.trans (cut_is a (question a) o) (of_question r (IsCutShort a)))
          (λ e18. ends)))))))))))))))
