-- Refused exactly: receive gives a refusal number exactly where its condition holds and those before it do not, as specs/Refusals.antt
-- lists them for a query and for a response.
use Rattle.std.proofs.Common.{None, Option, Some, ℕ, ◌≡◌, refl, sym, ap, subst, ◌↔◌, ◌≢◌, ◌⊎◌, inl, inr, ⊎_elim, List, Bool, true, false, cond, not}
use mathlib.Core.Logic.Iff
use Rattle.octets.specs.Tests.{◌or◌}
use Rattle.octets.specs.Addresses.{is_group}
use Rattle.octets.proofs.PlainAddresses.{group_address}
use Rattle.octets.proofs.Tests.{split, never, either_is, both_is, only, below_number, not_true, only_first, not_is, unlike_number, neither_number}
use Rattle.refusal.specs.Numbers.{Report}
use Rattle.refusal.specs.Checks.{verdict}
use Rattle.refusal.specs.Cases.{Case, First}
use Rattle.refusal.proofs.Cases.{Exactly, ends, check, skip}
use Rattle.name_table.specs.Check.{Held, good, check_table, names_in, is_found, number_or}
use Rattle.message.specs.declared.Question.{Question}
use Rattle.message.specs.Header.{header_of}
use Rattle.message.specs.Question.{question_at, question_or, is_bad_question}
use Rattle.host.specs.State.{setting_of, state_of, HasStopped, off, unique, stopped, is}
use Rattle.host.specs.Outcomes.{refused, is_refused}
use Rattle.host.specs.Receive.{Arrival, header, question, found, name_number, state, not_ours, awaits, unmatched, bad_length, bad_address, receive_checks, Decision, answer, defend, stop, keep, decision, effect, receive_if, receive}
use Rattle.host.specs.declared.NameState.{NameState}
use Rattle.host.specs.declared.NameState.TheVariants.{Off, Verifying, Unique, Defending, Stopped, Shared}
use Rattle.host.specs.declared.Host.{Host}
use Rattle.host.proofs.Conditions.{question_good, is_off, is_stopped, is_unique, waits_is}
use Rattle.witness.specs.Refusals.{IsAwaited, OfQuestion, IsFor, IsForNone, IsBadLength, IsBadAddress, query_cases, response_cases, receive_cases}
use Rattle.witness.proofs.Refusals.{refused_by_lem, early_exactly}
use Rattle.witness.proofs.Ours.{ours_is}

-- ---- tests, plainly

question_bad : (r : Option Question) → (is_bad_question r ≡ true) ↔ (r ≡ None)
question_bad (Some q) = (λ e. never e refl, λ e. never (ap is_bad_question e) refl)
question_bad None = (λ e. refl, λ e. refl)

-- what holds of the name that was found
of_found : (f : Option ℕ) (P : ℕ → Type 0) → is_found f ≡ true → P (number_or f) ↔ ((k : ℕ) × (f ≡ Some k) × P k)
of_found (Some k) P e = (λ x. (k, refl, x), λ x. subst P (sym (ap number_or x.1)) x.2)
of_found None P e = never e refl

-- no name was found, or this holds of the one that was
none_or : (f : Option ℕ) (b : Bool) (P : ℕ → Type 0) → (b ≡ true) ↔ P (number_or f)
    → ((not (is_found f) or b) ≡ true) ↔ ((f ≡ None) ⊎ ((k : ℕ) × (f ≡ Some k) × P k))
none_or (Some k) b P i = (
  λ e. inr (k, refl, i.0 e),
  ⊎_elim (λ x. never refl (ap is_found x)) (λ x. i.1 (subst P (sym (ap number_or x.1)) x.2)),
)
none_or None b P i = (λ e. inl refl, λ x. refl)

-- a name waits for a response
pub awaited_is : (a : Arrival) (q : Question) (s : NameState) → (awaits s (header a).id q.qtype q.class ≡ true) ↔ IsAwaited a q s
awaited_is a q Off = waits_is Off (header a).id q.qtype q.class
awaited_is a q (Verifying sends own timer) = waits_is (Verifying sends own timer) (header a).id q.qtype q.class
awaited_is a q Unique = waits_is Unique (header a).id q.qtype q.class
awaited_is a q (Defending own qtype class timer) = waits_is (Defending own qtype class timer) (header a).id q.qtype q.class
awaited_is a q (Stopped until) = waits_is (Stopped until) (header a).id q.qtype q.class
awaited_is a q Shared = waits_is Shared (header a).id q.qtype q.class

module _ (h : Host) (a : Arrival) where
  abbrev here : ℕ → NameState
  here k = state_of h a.interface k

  abbrev names : List Held
  names = names_in (check_table a.table)

  -- what holds of the names and the question that were read
  of_question : check_table a.table ≡ good names → question_at a.datagram 12 ≡ Some (question a) → (c : List Held → Question → Type 0)
      → c names (question a) ↔ OfQuestion a c
  of_question g r c = (
    λ x. (names, question a, g, r, x),
    λ x.
        subst (λ (hs : List Held). c hs (question a)) (sym (ap names_in x.2))
        (subst (λ (q : Question). c x.0 q) (sym (ap question_or x.3)) x.4),
  )

  length_is : (bad_length a.datagram ≡ true) ↔ IsBadLength a
  length_is = either_is _ _ (below_number _ _) (below_number _ _)

  address_is : {c : Type 0} → (cond (header a).response (is_group a.to) (not (is_group a.to)) ≡ true) ↔ c → (bad_address (setting_of h a.interface).family a.from.address.family a.to (header a).response ≡ true) ↔ IsBadAddress h a c
  address_is i = either_is _ _ (unlike_number _ _) (either_is _ _ (unlike_number _ _) i)

  -- the result is a refusal exactly if the verdict is
  by_verdict : (t : Report) (cases : List Case) → Exactly (receive_checks h a) cases → ((receive h a).result ≡ refused t) ↔ First t cases
  unfolding receive
  by_verdict t cases checks =
      Iff.trans (refused_by_lem (λ v. receive_if v h a) (λ u. refl) (accepted (decision h a)) (verdict (receive_checks h a)) t) (checks.exactly t)
    where
      accepted : (d : Decision) → is_refused (effect d h a (question a) (name_number a)).result ≡ false
      accepted answer = refl
      accepted defend = refl
      accepted stop = refl
      accepted keep = refl

  -- ---- the name's checks

  module _ (g : check_table a.table ≡ good names) (r : question_at a.datagram 12 ≡ Some (question a)) where
    not_ours_is : (not_ours h a ≡ true) ↔ OfQuestion a (λ hs q. IsForNone a hs q ⊎ ((k : ℕ) × IsFor a hs q k × (here k ≡ Off)))
    not_ours_is =
        Iff.trans
        (none_or (found a) (is off (state h a)) (λ k. here k ≡ Off) (is_off _, λ e. ap (is off) e))
        (of_question g r (λ hs q. IsForNone a hs q ⊎ ((k : ℕ) × IsFor a hs q k × (here k ≡ Off))))

    unmatched_is : (unmatched h a ≡ true)
        ↔ OfQuestion a (λ hs q. IsForNone a hs q ⊎ ((k : ℕ) × IsFor a hs q k × (IsAwaited a q (here k) → ⊥)))
    unmatched_is =
        Iff.trans
        (none_or (found a) _ (λ k. IsAwaited a (question a) (here k) → ⊥)
        (Iff.trans (not_true _) (not_is _ (awaited_is a (question a) (state h a)))))
        (of_question g r (λ hs q. IsForNone a hs q ⊎ ((k : ℕ) × IsFor a hs q k × (IsAwaited a q (here k) → ⊥))))

    module _ (f : is_found (found a) ≡ true) where
      stopped_is : (is stopped (state h a) ≡ true) ↔ OfQuestion a (λ hs q. (k : ℕ) × IsFor a hs q k × HasStopped (here k))
      stopped_is =
          Iff.trans (is_stopped (state h a))
          (Iff.trans (of_found (found a) (λ k. HasStopped (here k)) f)
          (of_question g r (λ hs q. (k : ℕ) × IsFor a hs q k × HasStopped (here k))))

      not_unique_is : (not (is unique (state h a)) ≡ true) ↔ OfQuestion a (λ hs q. (k : ℕ) × IsFor a hs q k × (here k ≢ Unique))
      not_unique_is =
          Iff.trans (Iff.trans (not_true _) (not_is _ (is_unique (state h a), λ e. ap (is unique) e)))
          (Iff.trans (of_found (found a) (λ k. here k ≢ Unique) f)
          (of_question g r (λ hs q. (k : ℕ) × IsFor a hs q k × (here k ≢ Unique))))

  -- A query: 1 to 7, 9 to 14.
  pub query_refused_exactly : (header_of a.datagram).response ≡ false → (t : Report) → ((receive h a).result ≡ refused t) ↔ First t (query_cases h a)
  query_refused_exactly e t = by_verdict t (query_cases h a) checks
    where
      checks : Exactly (receive_checks h a) (query_cases h a)
      checks =
          early_exactly h a.table a.interface a.time a.out
          (λ hs gs.
          let g : check_table a.table ≡ good names = rw gs in
          check _ 5 length_is
          (λ e5. check _ 6 (address_is (rw e (Iff.trans (not_true _) (not_is _ (group_address _)))))
          (λ e6. check _ 7 (unlike_number _ _)
          (λ e7. skip _ _ (rw e)
          (check _ 9 (either_is _ _ (unlike_number _ _) (rw e (either_is _ _ (unlike_number _ _) (unlike_number _ _))))
          (λ e9. check _ 10 (question_bad _)
          (λ e10.
          let r = question_good _ e10 in
          check _ 11 (Iff.trans (rw e (neither_number _ 1 255)) (of_question g r (λ hs q. (q.class ≢ 1) × (q.class ≢ 255))))
          (λ e11.
          rw e
          (check _ 12 (not_ours_is g r)
          (λ e12.
          let f = ((only_first _ _).0 e12).0 in
          check _ 13 (stopped_is g r f)
          (λ e13. check _ 14 (both_is _ _ Iff.rfl (either_is _ _ (not_unique_is g r f) (ours_is h _)))
          (λ e14. ends))))))))))))

  -- A response: 1 to 10, 15, 16.
  pub response_refused_exactly : (header_of a.datagram).response ≡ true → (t : Report) → ((receive h a).result ≡ refused t) ↔ First t (response_cases h a)
  response_refused_exactly e t = by_verdict t (response_cases h a) checks
    where
      checks : Exactly (receive_checks h a) (response_cases h a)
      checks =
          early_exactly h a.table a.interface a.time a.out
          (λ hs gs.
          let g : check_table a.table ≡ good names = rw gs in
          check _ 5 length_is
          (λ e5. check _ 6 (address_is (rw e (group_address _)))
          (λ e6. check _ 7 (unlike_number _ _)
          (λ e7. check _ 8 (rw e (unlike_number _ _))
          (λ e8. check _ 9 (only _ _ (rw e) (unlike_number _ _))
          (λ e9. check _ 10 (question_bad _)
          (λ e10. skip _ _ (rw e)
          (rw e
          (check _ 15 (unmatched_is g (question_good _ e10))
          (λ e15. check _ 16 (ours_is h _)
          (λ e16. ends)))))))))))

  -- Receive: the one or the other.
  pub receive_refused_exactly : (t : Report) → ((receive h a).result ≡ refused t) ↔ First t (receive_cases h a)
  receive_refused_exactly t =
      split (header_of a.datagram).response (λ e. rw e (response_refused_exactly e t)) (λ e. rw e (query_refused_exactly e t))
