-- The first part: once all are started and none verifies, exactly one host owns the name; a list that starts the owner first tells the same
-- of each host, and such a list exists.
use Rattle.std.proofs.Common.{◌≡◌, sym, ◌∙◌, ap, List, ℕ, ◌≤◌, ◌<◌, arith}
use Rattle.std.proofs.Math.Logic.{dite}
use Rattle.std.proofs.Math.Decide.{ℕ_discrete}
use Rattle.uniqueness.specs.Link as Spec
use Rattle.uniqueness.specs.Link.{Link, Call, Moment, owning, Settled, OneByOne, AnyOrder, Conditions, Probe, observed, EveryProbe, SomeProbe, first, OneOwner}
use Rattle.uniqueness.proofs.Model as Model
use Rattle.uniqueness.proofs.Model.{unique, stopped, World, set_up_fresh, Owns, clash}
use Rattle.uniqueness.proofs.Model.SingleOwner.{one_owner}
use Rattle.uniqueness.proofs.Model.InTurn.{first_owns}
use Rattle.uniqueness.proofs.Model.ListExists.{list_exists}
use Rattle.uniqueness.proofs.Simulation.{is_owning, kind, HostsAnyOrder}
use Rattle.uniqueness.proofs.Simulation.Lists.{Shown, show_any, show_in_turn, Exists, exists}
use Rattle.uniqueness.proofs.Obligations.{Obligations}
use Rattle.uniqueness.proofs.Hosts.{same_kind, some_probe, link_model}
use Rattle.uniqueness.proofs.Theorem.Lists.{world_of, moment_of, settled_to, settled_from, run_to, in_turn_to, in_turn_from}
use Rattle.uniqueness.proofs.Theorem.Views.{every, some, seen_by, by_every, by_some, begin, all_fresh, Stands, sees}

module _ (O : Obligations) (L : Link) (C : Conditions L) where
  -- a list that starts w first ends with w the owner
  in_turn : (w : ℕ) → w < L.count → (end : Moment) (cs : List Call) → Spec.Run L (EveryProbe L) (OneByOne (EveryProbe L) w) (first L) cs end
      → Settled L (EveryProbe L) end
      → (W : World) × Stands O L C end W × Owns (link_model O L C) w W
  in_turn w lw end cs run settled =
      let (es, T) = in_turn_to O L C (every L) w run in
      let sh = show_in_turn (seen_by O L C (every L)) (by_every O L C) (begin O L C) (world_of end) (all_fresh O L C (every L)) w es T in (
        sh.world,
        record { in_range = sh.in_range; stand = sh.stand },
        first_owns lw (set_up_fresh (link_model O L C) _) sh.run (sh.settled (settled_to O L C (every L) end settled)),
      )

  pub first_is_owner : (w : ℕ) → w < L.count → (end : Moment) (cs : List Call) → Spec.Run L (EveryProbe L) (OneByOne (EveryProbe L) w) (first L) cs end
      → Settled L (EveryProbe L) end
      → EveryProbe L end w owning
  first_is_owner w lw end cs run settled = let (W, S, h) = in_turn w lw end cs run settled in sees O L C end W S w lw unique h.owns

  -- the model's run of a list
  pub shown : (m : Moment) (cs : List Call) → Spec.Run L (EveryProbe L) AnyOrder (first L) cs m
      → Shown (seen_by O L C (every L)) (by_every O L C) (begin O L C) (world_of m) (all_fresh O L C (every L)) Model.AnyOrder
  shown m cs run =
      let (es, T) = run_to O L C (every L) AnyOrder (HostsAnyOrder (seen_by O L C (every L))) (λ m h o. tt) run in
      show_any (seen_by O L C (every L)) (by_every O L C) (begin O L C) (world_of m) (all_fresh O L C (every L)) es T

  module _ (m : Moment) (cs : List Call) (run : Spec.Run L (EveryProbe L) AnyOrder (first L) cs m) (settled : Settled L (EveryProbe L) m) where
    abbrev world : World
    world = (shown m cs run).world

    stands : Stands O L C m world
    stands = record { in_range = (shown m cs run).in_range; stand = (shown m cs run).stand }

    one : Model.OneOwner (link_model O L C) world
    one = one_owner (set_up_fresh (link_model O L C) _) (shown m cs run).run ((shown m cs run).settled (settled_to O L C (every L) m settled))

    alike : (end : Moment) (W : World) → Stands O L C end W → Owns (link_model O L C) one.owner W → (k : ℕ) → k < L.count
        → (p q : Probe L) → end.time ≤ p.time → m.time ≤ q.time → observed L end k p ≡ observed L m k q
    alike end W S h k l p q a b =
        dite (ℕ_discrete k one.owner)
        (λ e. sees O L C end W S k l unique (ap W.claims e ∙ h.owns) p a
        ∙ sym (sees O L C m world stands k l unique (ap world.claims e ∙ one.owns.owns) q b))
        (λ ne. sees O L C end W S k l stopped (h.others k l ne) p a ∙ sym (sees O L C m world stands k l stopped (one.owns.others k l ne) q b))

    exist : Exists (seen_by O L C (some L)) (by_some O L C) (begin O L C) one.owner
    exist =
        let S = list_exists (set_up_fresh (link_model O L C) _) (shown m cs run).run one.owner one.owns in
        let a = S.by_then in
        let b = (shown m cs run).time_is in
        let c = (shown m cs run).in_range in
        exists (seen_by O L C (some L)) (by_some O L C) (begin O L C) one.owner (all_fresh O L C (some L)) S.end S.events S.run
        S.settled (omega (arith, a, b, c))

    found : (cs' : List Call) × Spec.Run L (SomeProbe L) (OneByOne (SomeProbe L) one.owner) (first L) cs' (moment_of exist.end)
    found = in_turn_from O L C (some L) one.owner exist.run

    only : (k : ℕ) → k < L.count → SomeProbe L m k owning → k ≡ one.owner
    only k l (p, a, e) =
        dite (ℕ_discrete k one.owner) (λ q. q)
        (λ ne.
        let u = sees O L C m world stands k l stopped (one.owns.others k l ne) p a in
        let v = same_kind is_owning (kind stopped) (sym e ∙ u) in
        clash cc)

    pub has_one_owner : OneOwner L m
    has_one_owner = record {
      owner = one.owner;
      on_link = one.owns.on_link;
      owns = sees O L C m world stands one.owner one.owns.on_link unique one.owns.owns;
      others = λ k l ne. sees O L C m world stands k l stopped (one.owns.others k l ne);
      only = only;
      same = λ cs' end run' settled' k l p q a b. let (W, S, h) = in_turn one.owner one.owns.on_link end cs' run' settled' in alike end W S h k l p q a b;
      calls = found.0;
      end = moment_of exist.end;
      run = found.1;
      settled = settled_from O L C (some L) exist.end exist.settled;
      probe = some_probe L C;
      not_early = stands.in_range;
    }
