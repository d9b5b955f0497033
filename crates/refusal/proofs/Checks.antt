-- Laws of checks made in order.
use Rattle.std.proofs.Common.{ℕ, ◌≡◌, refl, ap, subst, ◌≢◌, Bool, true, false, arith}
use Rattle.refusal.specs.Numbers.{Report, number_in}
use Rattle.refusal.specs.Checks.{Checks, fail, pass, Verdict, refused, passed, verdict, Gives, next, stop, done, Clear}

-- the verdict is what the checks give, and only that
pub gives : {c : Checks} {v : Verdict} → Gives c v → v ≡ verdict c
unfolding verdict
gives (next e g) = rw e (gives g)
gives (stop e) = rw e
gives done = refl

pub given : (c : Checks) → Gives c (verdict c)
unfolding verdict
given (fail true t r) = stop refl
given (fail false t r) = next refl (given r)
given pass = done

pub by_verdict : {c : Checks} {v : Verdict} → verdict c ≡ v → Gives c v
by_verdict {c} e = subst (Gives c) e (given c)

-- a call passes exactly where no test holds
pub clear : (c : Checks) → verdict c ≡ passed → Clear c
unfolding verdict
clear (fail true t r) e = (cc, clear r (cc))
clear (fail false t r) e = (refl, clear r e)
clear pass e = tt

pub passes : (c : Checks) → Clear c → verdict c ≡ passed
unfolding verdict
passes (fail b t r) h = rw h.0 (passes r h.1)
passes pass h = refl

-- a refusal with another number than the first check's comes from those that follow; and a last check that refuses holds
pub from_later : (b : Bool) (t u : Report) (r : Checks) → number_in t ≢ number_in u → verdict (fail b t r) ≡ refused u → (b ≡ false) × (verdict r ≡ refused u)
unfolding verdict
from_later true t u r n e = let z : t ≡ u = cc in absurd (n (ap number_in z))
from_later false t u r n e = (refl, e)

pub from_last : (b : Bool) (t u : Report) → verdict (fail b t pass) ≡ refused u → b ≡ true
unfolding verdict
from_last true t u e = refl
from_last false t u e = let z : ◌≡◌ {A = ℕ} 0 1 = cc in absurd (omega arith)

-- Checks, and then others. Checks that follow a refusal change nothing.
infixr 5 ◌then◌
abbrev pub ◌then◌ : Checks → Checks → Checks
fail b t c then d = fail b t (c then d)
pass then d = d

pub stays : (c d : Checks) (t : Report) → verdict c ≡ refused t → verdict (c then d) ≡ refused t
unfolding verdict
stays (fail true u c) d t e = e
stays (fail false u c) d t e = stays c d t e
stays pass d t e = let z : ◌≡◌ {A = ℕ} 0 1 = cc in absurd (omega arith)

-- and checks that pass leave it to those that follow
pub goes_on : (c d : Checks) {v : Verdict} → verdict c ≡ passed → Gives d v → Gives (c then d) v
unfolding verdict
goes_on (fail true u c) d e g = let z : ◌≡◌ {A = ℕ} 0 1 = cc in absurd (omega arith)
goes_on (fail false u c) d e g = next refl (goes_on c d e g)
goes_on pass d e g = g
