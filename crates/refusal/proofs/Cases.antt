-- Checks made in order refuse exactly as a list of cases says, check by check.
use Rattle.std.proofs.Common.{ℕ, ◌≡◌, refl, sym, ap, ◌∙◌, ◌↔◌, inl, inr, ⊎_elim, List, [], ◌∷◌, Bool, true, false, arith}
use Rattle.octets.proofs.Tests.{never}
use Rattle.refusal.specs.Numbers.{Report, number}
use Rattle.refusal.specs.Checks.{Checks, fail, pass, Verdict, refused, passed, verdict}
use Rattle.refusal.specs.Cases.{Case, case, First}

-- the checks refuse exactly as the cases say
pub record Exactly (c : Checks) (cases : List Case) : Type 0 where
  pub exactly : (t : Report) → (verdict c ≡ refused t) ↔ First t cases

pub same_report : (s t : Report) → refused s ≡ refused t → t ≡ s
same_report s t e = cc

-- none is left
pub ends : Exactly pass []
unfolding verdict
ends = record { exactly = λ t. (λ e. let z : ◌≡◌ {A = ℕ} 0 1 = cc in absurd (omega arith), λ z. absurd z) }

-- a check whose test holds exactly under a condition; those that follow are looked at where it does not hold
pub check : (b : Bool) (n : ℕ) {c : Type 0} {r : Checks} {rest : List Case} → (b ≡ true) ↔ c → (b ≡ false → Exactly r rest)
    → Exactly (fail b (number n) r) (case n c ∷ rest)
unfolding verdict
check true n i f =
    record {
      exactly = λ t. (
        λ e. inl (same_report _ _ e, i.0 refl),
        ⊎_elim (λ x. ap refused (sym x.0)) (λ x. absurd (x.0 (i.0 refl))),
      );
    }
check false n i f =
    record {
      exactly = λ t. (
        λ e. inr (λ x. never (i.1 x) refl, ((f refl).exactly t).0 e),
        ⊎_elim (λ x. never (i.1 x.1) refl) (λ x. ((f refl).exactly t).1 x.1),
      );
    }

-- a check that cannot hold has no case
pub skip : (b : Bool) (u : Report) {r : Checks} {rest : List Case} → b ≡ false → Exactly r rest → Exactly (fail b u r) rest
unfolding verdict
skip true u e f = never refl e
skip false u e f = record { exactly = f.exactly }

-- What is told of a verdict is a refusal exactly if the verdict is one, where each refusal is told as it is, and a call that passes is told
-- as none.
pub told_by : {R : Type 0} (refusal : Report → R) (is_refusal : R → Bool) (tell : Verdict → R) → ((t : Report) → is_refusal (refusal t) ≡ true)
    → ((s t : Report) → refusal s ≡ refusal t → s ≡ t) → ((t : Report) → tell (refused t) ≡ refusal t) → is_refusal (tell passed) ≡ false
    → (v : Verdict) (t : Report) → (tell v ≡ refusal t) ↔ (v ≡ refused t)
told_by refusal is_refusal tell i one r p (refused s) t = (λ e. ap refused (one s t (sym (r s) ∙ e)), λ e. ap tell e ∙ r t)
told_by refusal is_refusal tell i one r p passed t =
    (λ e. never (ap is_refusal e ∙ i t) p, λ e. let z : ◌≡◌ {A = ℕ} 0 1 = cc in absurd (omega arith))
