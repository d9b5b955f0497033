-- A call is refused or accepted, and an accepted call has passed every check.
use Rattle.std.proofs.Common.{ℕ, ◌≡◌, refl, ap, ◌⊎◌, inl, inr, ⊎_elim, List, false}
use Rattle.octets.proofs.Tests.{never}
use Rattle.refusal.specs.Numbers.{Report}
use Rattle.refusal.specs.Checks.{Checks, pass, Verdict, refused as refused_by, passed, verdict, Clear}
use Rattle.refusal.proofs.Checks.{clear}
use Rattle.host.specs.Outcomes.{CallResult, refused, ready, quiet, kept, unique, shared, stopped, query, reply, is_refused, Done}
use Rattle.host.specs.Early.{early}
use Rattle.host.specs.Start.{start_checks, start_if, start}
use Rattle.host.specs.Tick.{tick_if, tick}
use Rattle.host.specs.Receive.{Arrival, receive_checks, receive_if, receive}
use Rattle.host.specs.Laws.{Accepted}
use Rattle.host.specs.declared.Host.{Host}

told : (r : CallResult) → ((t : Report) × (r ≡ refused t)) ⊎ (is_refused r ≡ false)
told (refused t) = inl (t, refl)
told ready = inr refl
told quiet = inr refl
told (kept k) = inr refl
told (unique k) = inr refl
told (shared k) = inr refl
told (stopped k) = inr refl
told (query k len) = inr refl
told (reply len) = inr refl

-- it is the one or the other
pub refused_or : (d : Done) → ((t : Report) × (d.result ≡ refused t)) ⊎ Accepted d
refused_or d = ⊎_elim (λ x. inl x) (λ e. inr (λ t f. never (ap is_refused f) e)) (told d.result)

-- what is accepted has passed every check
passed_all : (done : Verdict → Done) → ((t : Report) → (done (refused_by t)).result ≡ refused t) → (c : Checks) → Accepted (done (verdict c)) → Clear c
passed_all done r c a = go (verdict c) refl a
  where
    go : (v : Verdict) → verdict c ≡ v → Accepted (done v) → Clear c
    go (refused_by t) e x = absurd (x t (r t))
    go passed e x = clear c e

pub start_checked : (h : Host) (table : List ℕ) (i k time id : ℕ) (out : List ℕ) → Accepted (start h table i k time id out)
    → Clear (start_checks h table i k time out)
unfolding start
start_checked h table i k time id out a = passed_all (λ v. start_if v h table i k time id out) (λ t. refl) (start_checks h table i k time out) a

pub tick_checked : (h : Host) (table : List ℕ) (i time id : ℕ) (out : List ℕ) → Accepted (tick h table i time id out)
    → Clear (early h table i time out pass)
unfolding tick
tick_checked h table i time id out a = passed_all (λ v. tick_if v h table i time out) (λ t. refl) (early h table i time out pass) a

pub receive_checked : (h : Host) (a : Arrival) → Accepted (receive h a) → Clear (receive_checks h a)
unfolding receive
receive_checked h a x = passed_all (λ v. receive_if v h a) (λ t. refl) (receive_checks h a) x
