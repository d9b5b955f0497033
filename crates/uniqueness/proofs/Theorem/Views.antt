-- The two ways in which the statement observes hosts: as every probe tells, and as some probe does. Either way the hosts simulate the model,
-- and fresh from set-up they stand for the fresh model.
use Rattle.std.proofs.Common.{◌≡◌, refl, sym, ◌∙◌, subst, ◌≢◌, ℕ, zero, suc, ◌≤◌, ◌<◌, max, arith}
use Rattle.std.proofs.Math.Logic.{dite}
use Rattle.std.proofs.Math.Decide.{ℕ_discrete}
use Rattle.std.proofs.Math.Nat.{le-max_left, le-max_right}
use Rattle.host.specs.Bounds.{latest as latest_time}
use Rattle.host.specs.declared.Host.{Host}
use Rattle.uniqueness.specs.Link as Spec
use Rattle.uniqueness.specs.Link.{Link, Station, latest, Receipt, Moment, Settled, Conditions, Probe, observed, EveryProbe, SomeProbe, fresh, first}
use Rattle.uniqueness.proofs.Model.{Claim, off, World}
use Rattle.uniqueness.proofs.Simulation.{HostWorld, kind, System, HostsFresh, Simulates}
use Rattle.uniqueness.proofs.Obligations.{Obligations}
use Rattle.uniqueness.proofs.Hosts.{Sent, Inputs, observation, same_kind, some_probe, laws, StandsFor, system}
use Rattle.uniqueness.proofs.Hosts.Probes.{moment_with, observes}
use Rattle.uniqueness.proofs.Hosts.Simulate.{simulates}
use Rattle.uniqueness.proofs.Theorem.Lists.{world_of, View}

latest_after : (s : ℕ → Station) (n k : ℕ) → k < n → (s k).time ≤ latest s n
unfolding latest
latest_after s zero k l = absurd (omega arith)
latest_after s (suc n) k l =
    dite (ℕ_discrete k n)
    (λ e. subst (λ (j : ℕ). (s j).time ≤ max (latest s n) (s n).time) (sym e) (le-max_right (latest s n) (s n).time))
    (λ ne. let a = latest_after s n k (omega (arith, ne)) in let b = le-max_left (latest s n) (s n).time in omega (arith, a, b))

latest_under : (s : ℕ → Station) (n t : ℕ) → ((k : ℕ) → k < n → (s k).time ≤ t) → latest s n ≤ t
unfolding latest
latest_under s zero t h = omega arith
latest_under s (suc n) t h =
    let a = latest_under s n t (λ k l. h k (omega arith)) in
    let b = h n (omega arith) in
    max_under (latest s n) (s n).time t a b
  where
    max_under : (x y z : ℕ) → x ≤ z → y ≤ z → max x y ≤ z
    max_under x y z p q = omega (arith, p, q)

abbrev pub every : Link → View
every L = record {
  Is = EveryProbe L;
  ObservedAs = λ k t c x. (p : Probe L) → t ≤ p.time → observed L (moment_with c t) k p ≡ observation x;
  into = λ m k x h. h;
  back = λ m k x h. h;
}

abbrev pub some : Link → View
some L = record {
  Is = SomeProbe L;
  ObservedAs = λ k t c x. (p : Probe L) × (t ≤ p.time) × (observed L (moment_with c t) k p ≡ observation x);
  into = λ m k x h. h;
  back = λ m k x h. h;
}

module _ (O : Obligations) (L : Link) (C : Conditions L) where
  abbrev pub seen_by : View → System Host Sent Inputs Receipt ℕ
  seen_by view = system O L C view.ObservedAs

  pub by_every : Simulates (seen_by (every L))
  by_every =
      simulates O L C (every L).ObservedAs
      (λ k t s c l lt r p a. observes O L C k t l p a s c r)
      (λ k t s c x l lt r e. let p = some_probe L C in same_kind x (kind s) (sym (e p lt) ∙ observes O L C k t l p lt s c r))

  pub by_some : Simulates (seen_by (some L))
  by_some =
      simulates O L C (some L).ObservedAs
      (λ k t s c l lt r. (some_probe L C, lt, observes O L C k t l (some_probe L C) lt s c r))
      (λ k t s c x l lt r e. same_kind x (kind s) (sym e.2 ∙ observes O L C k t l e.0 e.1 s c r))

  abbrev pub begin : HostWorld Host
  begin = world_of (first L)

  fresh_stands : (k : ℕ) → k < L.count → StandsFor L k (latest L.station L.count) off (fresh (L.station k))
  fresh_stands k l = record {
    id = 0;
    id_fits = omega arith;
    until = 0;
    clock = (L.station k).time;
    early = latest_after L.station L.count k l;
    is = (laws O L C k l).set_up_off;
  }

  pub all_fresh : (view : View) → HostsFresh (seen_by view) begin
  all_fresh view = record {
    all_off = fresh_stands;
    none_yet = refl;
    in_range = latest_under L.station L.count latest_time (λ k l. (laws O L C k l).set_up_time);
  }

  -- the claims of W are those that a moment's hosts stand for, and every probe tells them
  pub record Stands (m : Moment) (W : World) : Type 0 where
    pub in_range : m.time ≤ latest_time
    pub stand : (k : ℕ) → k < L.count → StandsFor L k m.time (W.claims k) (m.hosts k)

  pub sees : (m : Moment) (W : World) → Stands m W → (k : ℕ) → k < L.count → (s : Claim) → W.claims k ≡ s → (p : Probe L)
      → m.time ≤ p.time
      → observed L m k p ≡ observation (kind s)
  sees m W S k l s e p a =
      observes O L C k m.time l p a s (m.hosts k) (subst (λ (x : Claim). StandsFor L k m.time x (m.hosts k)) e (S.stand k l))

-- one probe of each host that tells neither Off nor verifying is enough for the hypothesis
pub settled_by : (L : Link) (m : Moment) (q : ℕ → Probe L) → ((k : ℕ) → m.time ≤ (q k).time)
    → ((k : ℕ) → k < L.count → (observed L m k (q k) ≢ Spec.off) × (observed L m k (q k) ≢ Spec.verifying)) → Settled L (EveryProbe L) m
settled_by L m q a h = record { started = λ k l e. (h k l).0 (e (q k) (a k)); finished = λ k l e. (h k l).1 (e (q k) (a k)) }
