-- What a probe observes of a host whose state stands for a claim: 12 if off, T set if verifying, T clear if unique, 13 if stopped.
use Rattle.std.proofs.Common.{◌≡◌, refl, sym, ◌∙◌, ap, subst, Bool, true, false, cond, List, [], ℕ, ◌%◌, ◌≤◌, ◌<◌, arith, get_or, take, eqb}
use Rattle.octets.specs.declared.Endpoint.{Endpoint}
use Rattle.host.specs.declared.Host.{Host}
use Rattle.host.specs.Outcomes.{Done, CallResult, reply as Reply}
use Rattle.uniqueness.specs.Link as Spec
use Rattle.uniqueness.specs.Link.{sort, Link, sent, Moment, Observed, of_sort, of_number, of_reply, Conditions, Probe, observed}
use Rattle.uniqueness.proofs.Model.{Claim, off, verifying, unique, stopped}
use Rattle.uniqueness.proofs.Simulation.{kind}
use Rattle.uniqueness.proofs.Obligations.{Replied, RefusedWith, Obligations}
use Rattle.uniqueness.proofs.Hosts.{sent_is, observation, laws, StandsFor}

abbrev of_tentative : Bool → Observed
of_tentative true = Spec.verifying
of_tentative false = Spec.owning

of_reply_lem : (f : Bool) (xs : List ℕ) → get_or xs 2 0 % 2 ≡ cond f 1 0 → of_reply xs ≡ of_tentative f
of_reply_lem true xs e = ap (λ (n : ℕ). cond (eqb n 1) Spec.verifying Spec.owning) e
of_reply_lem false xs e = ap (λ (n : ℕ). cond (eqb n 1) Spec.verifying Spec.owning) e

refused_observed : {n : ℕ} {h : Host} {d : Done} → RefusedWith n h d → of_sort (sort d.result) (sent d) ≡ of_number n
refused_observed {d = d} T = ap (λ (o : CallResult). of_sort (sort o) (sent d)) T.outcome ∙ ap of_number T.is

-- a moment in which each host is in state c
abbrev pub moment_with : Host → ℕ → Moment
moment_with c t = record { hosts = λ j. c; time = t; started = []; queried = λ j. 0 }

module _ (O : Obligations) (L : Link) (C : Conditions L) (k t : ℕ) (l : k < L.count) (p : Probe L) (lt : t ≤ p.time) where
  replied_observed : (f : Bool) (from : Endpoint) (h : Host) (d : Done) → Replied (O.ReplyTo p.id p.spelling f) from h d
      → of_sort (sort d.result) (sent d) ≡ of_tentative f
  replied_observed f from h d T =
      ap (λ (o : CallResult). of_sort (sort o) (sent d)) T.outcome
      ∙ ap of_reply (sent_is d T.len (Reply T.len) T.outcome refl)
      ∙ of_reply_lem f (take T.len d.octets) (O.reply_t p.id p.spelling f (take T.len d.octets) T.octets)

  not_ahead : (clock : ℕ) → clock ≤ t → clock ≤ p.time
  not_ahead clock e = omega (arith, e, lt)

  pub observes : (s : Claim) (c : Host) → StandsFor L k t s c → observed L (moment_with c t) k p ≡ observation (kind s)
  observes off c r =
      subst (λ (c : Host). observed L (moment_with c t) k p ≡ Spec.off) (sym r.is)
      (refused_observed ((laws O L C k l).query_off r.clock p.time p.id p.spelling p.source p.receipt (not_ahead r.clock r.early) p.in_range p.id_fits p.same
      p.source_fits p.source_long))
  observes (verifying m d) c r =
      subst (λ (c : Host). observed L (moment_with c t) k p ≡ Spec.verifying) (sym r.is)
      (replied_observed true _ _ _
      ((laws O L C k l).query_verifying m r.id d r.clock p.time p.id p.spelling p.source p.receipt (not_ahead r.clock r.early) p.in_range p.id_fits p.same
      p.source_fits p.source_long))
  observes unique c r =
      subst (λ (c : Host). observed L (moment_with c t) k p ≡ Spec.owning) (sym r.is)
      (replied_observed false _ _ _
      ((laws O L C k l).query_unique r.clock p.time p.id p.spelling p.source p.receipt (not_ahead r.clock r.early) p.in_range p.id_fits p.same p.source_fits
      p.source_long))
  observes stopped c r =
      subst (λ (c : Host). observed L (moment_with c t) k p ≡ Spec.stopped) (sym r.is)
      (refused_observed ((laws O L C k l).query_stopped r.until r.clock p.time p.id p.spelling p.source p.receipt (not_ahead r.clock r.early) p.in_range p.id_fits
      p.same p.source_fits p.source_long))
