-- What a call has to do with the clock. A call whose time is before it is refused; and in no other way does a call look at it: whether the
-- clock stands long before its time or at its time makes no difference.
use Rattle.std.proofs.Common.{ℕ, ◌<◌, ◌≤◌, ◌≡◌, refl, sym, ap, ◌∙◌, subst, ◌↔◌, List, Bool, length, ltb}
use Rattle.octets.specs.Tests.{◌or◌}
use Rattle.octets.specs.declared.Endpoint.{Endpoint}
use Rattle.octets.proofs.Tests.{split, never, below_number}
use Rattle.refusal.specs.Checks.{pass, Verdict, refused as refused_by, passed, verdict}
use Rattle.name_table.specs.Check.{check_table, names_in}
use Rattle.host.specs.Bounds.{latest}
use Rattle.host.specs.State.{interface_of, state_of, with_clock}
use Rattle.host.specs.Outcomes.{CallResult}
use Rattle.host.specs.Early.{bad_clock, early}
use Rattle.host.specs.Start.{name_checks, start_checks, start_if, start}
use Rattle.host.specs.Tick.{Due, due, none, due_from, serve, serve_due, tick_if, tick}
use Rattle.host.specs.Receive.{Arrival, question, name_number, receive_checks, Decision, answer, defend, stop, keep, decision, effect, receive_if, receive}
use Rattle.host.specs.Laws.{Accepted, SameButClock}
use Rattle.host.specs.declared.NameState.{NameState}
use Rattle.host.specs.declared.NameState.TheVariants.{Off, Verifying, Unique, Defending, Stopped, Shared}
use Rattle.host.specs.declared.Interface.{Interface}
use Rattle.host.specs.declared.Host.{Host}
use Rattle.host.proofs.Called.{called_is}
use Rattle.host.proofs.Arrives.{arrives_is}
use Rattle.host.proofs.Accepted.{start_checked, tick_checked, receive_checked}

-- ---- The time of an accepted call is not before the clock.

pub start_in_time : (h : Host) (table : List ℕ) (i k time id : ℕ) (out : List ℕ) → Accepted (start h table i k time id out) → h.clock ≤ time
start_in_time h table i k time id out a =
    (called_is h table i time out (name_checks h table i k time) (start_checked h table i k time id out a)).in_order

pub tick_in_time : (h : Host) (table : List ℕ) (i time id : ℕ) (out : List ℕ) → Accepted (tick h table i time id out) → h.clock ≤ time
tick_in_time h table i time id out a = (called_is h table i time out pass (tick_checked h table i time id out a)).in_order

pub receive_in_time : (h : Host) (a : Arrival) → Accepted (receive h a) → h.clock ≤ a.time
receive_in_time h a x = (arrives_is h a (receive_checked h a x)).called.in_order

-- ---- Of the clock a call looks at whether its time is before it, and at nothing else.

-- the same, with any two clocks
same : {l : List Interface} {c k : ℕ} {r : CallResult} {to : Endpoint} {octets : List ℕ}
    → SameButClock (record { host = record { interfaces = l; clock = c }; result = r; to = to; octets = octets })
    (record { host = record { interfaces = l; clock = k }; result = r; to = to; octets = octets })
same = record { told = record { result = refl; to = refl; octets = refl }; interfaces = refl }

module _ (h : Host) (clock time : ℕ) (alike : (time < h.clock) ↔ (time < clock)) where
  abbrev g : Host
  g = with_clock h clock

  same_test : ltb time h.clock ≡ ltb time clock
  same_test =
      split (ltb time h.clock)
      (λ p. p ∙ sym ((below_number time clock).1 (alike.0 ((below_number time h.clock).0 p))))
      (λ p. split (ltb time clock) (λ q. never ((below_number time h.clock).1 (alike.1 ((below_number time clock).0 q))) p) (λ q. p ∙ sym q))

  same_clock : bad_clock h.clock time ≡ bad_clock clock time
  same_clock = ap (λ (b : Bool). ltb latest time or b) same_test

  start_alike : (table : List ℕ) (i k id : ℕ) (out : List ℕ) → SameButClock (start h table i k time id out) (start g table i k time id out)
  unfolding start
  start_alike table i k id out =
      subst (λ (v : Verdict). SameButClock (start h table i k time id out) (start_if v g table i k time id out)) (ap verdict checks)
      (go (verdict (start_checks h table i k time out)))
    where
      checks : start_checks h table i k time out ≡ start_checks g table i k time out
      checks = let e = same_clock in cc

      go : (v : Verdict) → SameButClock (start_if v h table i k time id out) (start_if v g table i k time id out)
      go (refused_by t) = same
      go passed = same

  tick_alike : (table : List ℕ) (i id : ℕ) (out : List ℕ) → SameButClock (tick h table i time id out) (tick g table i time id out)
  unfolding tick
  tick_alike table i id out =
      subst (λ (v : Verdict). SameButClock (tick h table i time id out) (tick_if v g table i time out)) (ap verdict checks)
      (go (verdict (early h table i time out pass)))
    where
      checks : early h table i time out pass ≡ early g table i time out pass
      checks = let e = same_clock in cc

      by : (s : NameState) (k : ℕ) → SameButClock (serve s h table i k time out) (serve s g table i k time out)
      by (Verifying sends own timer) k = same
      by (Defending own qtype class timer) k = same
      by Off k = same
      by Unique k = same
      by (Stopped until) k = same
      by Shared k = same

      serves : (d : Due) → SameButClock (serve_due d h table i time out) (serve_due d g table i time out)
      serves (due k) = by (state_of h i k) k
      serves none = same

      go : (v : Verdict) → SameButClock (tick_if v h table i time out) (tick_if v g table i time out)
      go (refused_by t) = same
      go passed = serves (due_from (length (names_in (check_table table))) (interface_of h i).names 0 time)

pub start_clock_alike : (h : Host) (clock : ℕ) (table : List ℕ) (i k time id : ℕ) (out : List ℕ) → (time < h.clock) ↔ (time < clock)
    → SameButClock (start h table i k time id out) (start (with_clock h clock) table i k time id out)
start_clock_alike h clock table i k time id out alike = start_alike h clock time alike table i k id out

pub tick_clock_alike : (h : Host) (clock : ℕ) (table : List ℕ) (i time id : ℕ) (out : List ℕ) → (time < h.clock) ↔ (time < clock)
    → SameButClock (tick h table i time id out) (tick (with_clock h clock) table i time id out)
tick_clock_alike h clock table i time id out alike = tick_alike h clock time alike table i id out

pub receive_clock_alike : (h : Host) (clock : ℕ) (a : Arrival) → (a.time < h.clock) ↔ (a.time < clock)
    → SameButClock (receive h a) (receive (with_clock h clock) a)
unfolding receive
receive_clock_alike h clock a alike =
    subst (λ (v : Verdict). SameButClock (receive h a) (receive_if v (with_clock h clock) a)) (ap verdict checks)
    (go (verdict (receive_checks h a)))
  where
    checks : receive_checks h a ≡ receive_checks (with_clock h clock) a
    checks = let e = same_clock h clock a.time alike in cc

    by : (d : Decision) → SameButClock (effect d h a (question a) (name_number a)) (effect d (with_clock h clock) a (question a) (name_number a))
    by answer = same
    by defend = same
    by stop = same
    by keep = same

    go : (v : Verdict) → SameButClock (receive_if v h a) (receive_if v (with_clock h clock) a)
    go (refused_by t) = same
    go passed = by (decision h a)
