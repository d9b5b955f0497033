-- The third part: on every link each host can be the owner, where three intervals are left of the clock's range. And the three parts together:
-- the claim follows from the obligations.
use Rattle.std.proofs.Common.{Bool, true, false, List, ℕ, ◌+◌, ◌≤◌, ◌<◌, arith}
use Rattle.host.specs.Bounds.{latest as latest_time}
use Rattle.uniqueness.specs.Link as Spec
use Rattle.uniqueness.specs.Link.{sort_of, Link, latest, Call, Request, starts, ticks, Moment, is_refused, StartRule, Settled, OneByOne, AnyOrder, Conditions, EveryProbe, SomeProbe, first, Owned, Demand3}
use Rattle.uniqueness.proofs.Model.ListExists.{list_in_turn}
use Rattle.uniqueness.proofs.Model.{set_up_at, set_up_fresh}
use Rattle.uniqueness.proofs.Simulation.Lists.{exists}
use Rattle.uniqueness.proofs.Obligations.{Obligations}
use Rattle.uniqueness.proofs.Hosts.{link_model, some_probe}
use Rattle.uniqueness.proofs.Theorem.Lists.{moment_of, settled_from, in_turn_from}
use Rattle.uniqueness.proofs.Theorem.Views.{some, seen_by, by_some, begin, all_fresh}
use Rattle.uniqueness.proofs.Theorem.OneOwner.{first_is_owner, has_one_owner}
use Rattle.uniqueness.proofs.Theorem.GoesOn.{can_make}

module _ (O : Obligations) (L : Link) (C : Conditions L) where
  -- the clock stays within its range
  ends_in_range : {Order : Moment → ℕ → Type 0} {m m' : Moment} {cs : List Call} → m.time ≤ latest_time → Spec.Run L (SomeProbe L) Order m cs m'
      → m'.time ≤ latest_time
  ends_in_range a Spec.Run.empty = a
  ends_in_range a (Spec.Run.then c hosts K E R) = ends_in_range K.in_range R

  first_in_range : (first L).time ≤ latest_time
  first_in_range = (all_fresh O L C (some L)).in_range

  module _ (Order Order' : Moment → ℕ → Type 0) (rule : (m : Moment) (h : ℕ) → m.time ≤ latest_time → Order m h → Order' m h) where
    weaker_start : (m : Moment) (h : ℕ) (r : Request) (b : Bool) → m.time ≤ latest_time → StartRule Order L m h r b → StartRule Order' L m h r b
    weaker_start m h (starts k) false a (e, new, o) = (e, new, rule m h a o)
    weaker_start m h (starts k) true a s = tt
    weaker_start m h ticks b a s = tt

    -- a list that keeps the rules whichever probe is taken keeps them as far as every probe agrees
    weaker : {m m' : Moment} {cs : List Call} → m.time ≤ latest_time → Spec.Run L (SomeProbe L) Order m cs m' → Spec.Run L (EveryProbe L) Order' m cs m'
    weaker a Spec.Run.empty = Spec.Run.empty
    weaker a (Spec.Run.then {m = m} c hosts K E R) =
        Spec.Run.then c hosts
        (record {
          host = K.host;
          in_range = K.in_range;
          forward = K.forward;
          due = λ k l e. K.due k l (some_probe L C, a, e (some_probe L C) a);
          start = weaker_start m c.host c.request (is_refused (sort_of (Spec.result L m.hosts c))) a K.start;
        }) E (weaker K.in_range R)

  pub weaker_settled : (m : Moment) → m.time ≤ latest_time → Settled L (SomeProbe L) m → Settled L (EveryProbe L) m
  weaker_settled m a s =
      let p = some_probe L C in
      record { started = λ k l e. s.started k l (p, a, e p a); finished = λ k l e. s.finished k l (p, a, e p a) }

  weaker_order : (w : ℕ) (m : Moment) (h : ℕ) → m.time ≤ latest_time → OneByOne (SomeProbe L) w m h → OneByOne (EveryProbe L) w m h
  weaker_order w m h a o = let p = some_probe L C in record { first = o.first; next = λ l ls e x. o.next l ls e (p, a, x p a) }

  -- for whoever wants the hypotheses of the first part
  pub any_order : {Order : Moment → ℕ → Type 0} {m m' : Moment} {cs : List Call} → m.time ≤ latest_time
      → Spec.Run L (SomeProbe L) Order m cs m' → Spec.Run L (EveryProbe L) AnyOrder m cs m'
  any_order {Order} a R = weaker Order AnyOrder (λ m h a o. tt) a R

  pub reach : (w : ℕ) → w < L.count → latest L.station L.count + L.interval + L.interval + L.interval ≤ latest_time → Owned L w
  reach w lw room =
      let S = list_in_turn (link_model O L C) w lw (set_up_at (latest L.station L.count)) (set_up_fresh (link_model O L C) _) in
      let n = S.good.time_is in
      let x = exists (seen_by O L C (some L)) (by_some O L C) (begin O L C) w (all_fresh O L C (some L)) S.end S.events S.run
      S.good.settled (omega (arith, n, room)) in
      let (cs, R) = in_turn_from O L C (some L) w x.run in
      let s = settled_from O L C (some L) x.end x.settled in
      let m = moment_of x.end in
      record {
        calls = cs;
        end = m;
        run = R;
        settled = s;
        owns =
            first_is_owner O L C w lw m cs (weaker (OneByOne (SomeProbe L) w) (OneByOne (EveryProbe L) w) (weaker_order w) first_in_range R)
            (weaker_settled m (ends_in_range first_in_range R) s);
      }

pub demand_3 : Obligations → Demand3
demand_3 O L C = record {
  one_owner = λ cs m run settled. has_one_owner O L C m cs run settled;
  goes_on = λ cs m run c K. can_make O L C m cs run c K;
  attained = λ room w lw. reach O L C w lw room;
}
