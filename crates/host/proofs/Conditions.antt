-- Single tests of the calls hold exactly where their plain conditions do.
use Rattle.message.specs.declared.Question.{Question}
use Rattle.std.proofs.Common.{None, Option, Some, ℕ, ◌<◌, ◌≤◌, ◌≡◌, refl, ap, ◌∙◌, ◌↔◌, ◌≢◌, ◌⊎◌, inl, inr, ⊎_elim, Bool, true, false, not, arith, eqb, ltb-true, ltb-false, lt-ltb, le-ltb, leb-true, le-leb, eqb-true, eq-eqb}
use Rattle.std.proofs.lemmas.Bool.{eqb-false}
use Rattle.octets.specs.Tests.{◌and◌, ◌or◌}
use Rattle.octets.specs.Addresses.{below_address}
use Rattle.octets.specs.declared.Address.{Address}
use Rattle.octets.specs.declared.Setting.{Setting}
use Rattle.octets.proofs.Tests.{split, both, never, same_number, either_number, not_not, not_is}
use Rattle.name_table.specs.Check.{Checked, good, bad, is_bad, names_in, is_found, number_or}
use Rattle.message.specs.Bounds.{class_in, type_any}
use Rattle.message.specs.Question.{question_or, is_bad_question}
use Rattle.host.specs.Bounds.{any_class}
use Rattle.host.specs.State.{Phase, off, verifying, unique, stopped, HasStopped, is, interval_of, IsInterval, short_interval, long_interval}
use Rattle.host.specs.Start.{is_idle, is_too_soon}
use Rattle.host.specs.Tick.{is_due}
use Rattle.host.specs.Receive.{bad_class, awaits}
use Rattle.host.specs.ExactlyWhen.{WaitsFor, TakenBy}
use Rattle.host.specs.Served.{DueBy, MayStart}
use Rattle.host.specs.declared.NameState.{NameState}
use Rattle.host.specs.declared.NameState.TheVariants.{Off, Verifying, Unique, Defending, Stopped, Shared}

-- ---- what was read

pub good_is : (c : Checked) → is_bad c ≡ false → c ≡ good (names_in c)
good_is (good hs) e = refl
good_is (bad at) e = never refl e

pub question_good : (r : Option Question) → is_bad_question r ≡ false → r ≡ Some (question_or r)
question_good (Some q) e = refl
question_good None e = never refl e

pub found_at : (f : Option ℕ) → is_found f ≡ true → f ≡ Some (number_or f)
found_at (Some k) e = refl
found_at None e = never e refl

pub found_none : (f : Option ℕ) → is_found f ≡ false → f ≡ None
found_none (Some k) e = never refl e
found_none None e = refl

pub class_is : (c : ℕ) → (bad_class c ≡ false) ↔ ((c ≡ class_in) ⊎ (c ≡ any_class))
class_is c = (λ e. (either_number c class_in any_class).0 ((not_not _).0 e), λ s. (not_not _).1 ((either_number c class_in any_class).1 s))

-- ---- phases

-- a state without data is the only one of its phase
pub is_off : (s : NameState) → is off s ≡ true → s ≡ Off
is_off Off e = refl
is_off (Verifying sends id timer) e = never e refl
is_off Unique e = never e refl
is_off (Defending id qtype class timer) e = never e refl
is_off (Stopped until) e = never e refl
is_off Shared e = never e refl

pub is_unique : (s : NameState) → is unique s ≡ true → s ≡ Unique
is_unique Unique e = refl
is_unique Off e = never e refl
is_unique (Verifying sends id timer) e = never e refl
is_unique (Defending id qtype class timer) e = never e refl
is_unique (Stopped until) e = never e refl
is_unique Shared e = never e refl

-- a state is not of a phase exactly if it is not the phase's one state
not_in : (p : Phase) (x : NameState) → is p x ≡ true → ((s : NameState) → is p s ≡ true → s ≡ x) → (s : NameState) → (is p s ≡ false) ↔ (s ≢ x)
not_in p x t only s = (λ e q. never (ap (is p) q ∙ t) e, λ n. go (is p s) refl n)
  where
    go : (b : Bool) → is p s ≡ b → s ≢ x → b ≡ false
    go true e n = absurd (n (only s e))
    go false e n = refl

pub not_off : (s : NameState) → (is off s ≡ false) ↔ (s ≢ Off)
not_off = not_in off Off refl is_off

-- a name that has stopped
pub is_stopped : (s : NameState) → (is stopped s ≡ true) ↔ HasStopped s
is_stopped s = (there s, λ w. ap (is stopped) w.1)
  where
    there : (s : NameState) → is stopped s ≡ true → HasStopped s
    there (Stopped until) e = (until, refl)
    there Off e = never e refl
    there (Verifying sends id timer) e = never e refl
    there Unique e = never e refl
    there (Defending id qtype class timer) e = never e refl
    there Shared e = never e refl

pub not_stopped : (s : NameState) → (is stopped s ≡ false) ↔ (HasStopped s → ⊥)
not_stopped s = not_is _ (is_stopped s)

-- a start that is too soon, and one that is not
pub soon_is : (s : NameState) (time : ℕ) → (is_too_soon s time ≡ true) ↔ ((until : ℕ) × (s ≡ Stopped until) × (time < until))
soon_is s time = (there s, λ w. ap (λ (x : NameState). is_too_soon x time) w.1 ∙ lt-ltb _ _ w.2)
  where
    there : (s : NameState) → is_too_soon s time ≡ true → (until : ℕ) × (s ≡ Stopped until) × (time < until)
    there (Stopped until) e = (until, refl, ltb-true _ _ e)
    there Off e = never e refl
    there (Verifying sends id timer) e = never e refl
    there Unique e = never e refl
    there (Defending id qtype class timer) e = never e refl
    there Shared e = never e refl

pub may_start_is : (s : NameState) (time : ℕ) → ((is_idle s ≡ true) × (is_too_soon s time ≡ false)) ↔ MayStart s time
may_start_is s time = (λ e. there s e.0 e.1, ⊎_elim (λ e. (ap is_idle e, ap (λ (x : NameState). is_too_soon x time) e)) (λ w. (ap is_idle w.1, ap (λ (x : NameState). is_too_soon x time) w.1 ∙ le-ltb _ _ w.2)))
  where
    there : (s : NameState) → is_idle s ≡ true → is_too_soon s time ≡ false → MayStart s time
    there (Stopped until) e n = inr (until, refl, ltb-false _ _ n)
    there Off e n = inl refl
    there (Verifying sends id timer) e n = never e refl
    there Unique e n = never e refl
    there (Defending id qtype class timer) e n = never e refl
    there Shared e n = never e refl

-- ---- a name that waits for a response, and one that is taken

three : (p q r : Bool) {A B C : Type 0} → ((p ≡ true) ↔ A) → ((q ≡ true) ↔ B) → ((r ≡ true) ↔ C) → ((p and q and r) ≡ true) ↔ (A × B × C)
three p q r a b c = (
  λ e.
      let t = (both p (q and r)).0 e in
      let u = (both q r).0 t.1 in
      (a.0 t.0, b.0 u.0, c.0 u.1),
  λ x. (both p (q and r)).1 (a.1 x.0, (both q r).1 (b.1 x.1, c.1 x.2)),
)

pub waits_is : (s : NameState) (id qtype class : ℕ) → (awaits s id qtype class ≡ true) ↔ WaitsFor s id qtype class
waits_is (Verifying sends own timer) id qtype class = three _ _ _ (same_number id own) (same_number qtype type_any) (same_number class class_in)
waits_is (Defending own own_type own_class timer) id qtype class = three _ _ _ (same_number id own) (same_number qtype own_type) (same_number class own_class)
waits_is Off id qtype class = (λ e. never e refl, λ z. absurd z)
waits_is Unique id qtype class = (λ e. never e refl, λ z. absurd z)
waits_is (Stopped until) id qtype class = (λ e. never e refl, λ z. absurd z)
waits_is Shared id qtype class = (λ e. never e refl, λ z. absurd z)

-- of a name that waits
pub taken_is : (s : NameState) (id qtype class : ℕ) (t : Bool) (from ours : Address) → WaitsFor s id qtype class
    → ((is verifying s and not t or below_address from ours) ≡ true) ↔ TakenBy s t from ours
taken_is (Verifying sends own timer) id qtype class true from ours w = (λ e. inr e, ⊎_elim (λ e. never refl e) (λ e. e))
taken_is (Verifying sends own timer) id qtype class false from ours w = (λ e. inl refl, λ x. refl)
taken_is (Defending own own_type own_class timer) id qtype class t from ours w = (λ e. e, λ e. e)
taken_is Off id qtype class t from ours w = absurd w
taken_is Unique id qtype class t from ours w = absurd w
taken_is (Stopped until) id qtype class t from ours w = absurd w
taken_is Shared id qtype class t from ours w = absurd w

-- ---- the interval of an interface

pub interval_is : (s : Setting) (n : ℕ) → IsInterval s n → interval_of s ≡ n
interval_is s n (short_interval e) = rw (eq-eqb _ _ e)
interval_is s n (long_interval d) = split (eqb s.interval 100) (λ t. absurd (d (eqb-true _ _ t))) (λ t. rw t)

pub interval_most : (s : Setting) → interval_of s ≤ 1000
interval_most s = split (eqb s.interval 100) (λ t. rw t (omega arith)) (λ t. rw t (omega arith))

pub has_interval : (s : Setting) → (n : ℕ) × IsInterval s n
has_interval s =
    split (eqb s.interval 100) (λ t. (100, short_interval (eqb-true _ _ t))) (λ t. (1000, long_interval (eqb-false _ _ t)))

-- ---- a timer that has run out

pub due_is : (s : NameState) (time : ℕ) → (is_due s time ≡ true) ↔ DueBy s time
due_is (Verifying sends id timer) time = (leb-true _ _, le-leb _ _)
due_is (Defending id qtype class timer) time = (leb-true _ _, le-leb _ _)
due_is Off time = (λ e. never e refl, λ z. absurd z)
due_is Unique time = (λ e. never e refl, λ z. absurd z)
due_is (Stopped until) time = (λ e. never e refl, λ z. absurd z)
due_is Shared time = (λ e. never e refl, λ z. absurd z)
