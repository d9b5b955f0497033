-- Start and tick, as the simulation asks for them, from the obligations: first what each form of the obligations (Asked, RefusedWith, Taken)
-- says of states and outputs, then the two calls, on the used interface and on another.
use Rattle.std.proofs.Common.{◌≡◌, refl, sym, ◌∙◌, ap, subst, ◌≢◌, true, false, not, ℕ, suc, ◌+◌, ◌≤◌, ◌<◌, arith}
use Rattle.std.proofs.Math.Logic.{dite}
use Rattle.std.proofs.Math.Decide.{ℕ_discrete, dec_lt}
use Rattle.octets.specs.declared.Endpoint.{Endpoint}
use Rattle.octets.proofs.Tests.{never}
use Rattle.host.specs.Bounds.{sends_in_all, latest as latest_time}
use Rattle.host.specs.declared.NameState.TheVariants.{Off}
use Rattle.host.specs.declared.Host.{Host}
use Rattle.host.specs.Outcomes.{Done, CallResult, quiet as Quiet, query as Query, unique as Unique}
use Rattle.host.specs.Start.{start}
use Rattle.host.specs.Tick.{tick}
use Rattle.uniqueness.specs.Link.{sort, Link, Receipt, is_refused, Conditions}
use Rattle.uniqueness.proofs.Model.{Claim, off, verifying, unique, stopped, clash}
use Rattle.uniqueness.proofs.Simulation.{nothing, Kind, System, AsksAs, QuietAs, Ticked}
use Rattle.uniqueness.proofs.Obligations.{host_with, NotDue, Asked, RefusedWith, Taken, Obligations}
use Rattle.uniqueness.proofs.Obligations.{verifying as verifying_with}
use Rattle.uniqueness.proofs.Hosts.{Sent, output_of, sent_of, outcome_of, refused_is, sent_is, Inputs, state_of, laws, tag_is, StandsFor, IsQuery, OfName, OnInterface, system}

pub stands : (L : Link) (k t : ℕ) (s : Claim) (id until clock : ℕ) (c : Host) → id < 65536 → clock ≤ t → c ≡ host_with (L.station k) (state_of s id until) clock
    → StandsFor L k t s c
stands L k t s id until clock c f e is = record { id = id; id_fits = f; until = until; clock = clock; early = e; is = is }

module _ (O : Obligations) (L : Link) (C : Conditions L) (ObservedAs : ℕ → ℕ → Host → Kind → Type 0) where
  abbrev our_system : System Host Sent Inputs Receipt ℕ
  our_system = system O L C ObservedAs

  -- a refused call, or one that sends nothing, leaves a state that stands for s
  pub refused_quiet : {n : ℕ} (k t : ℕ) (s : Claim) (id until clock : ℕ) (d : Done) → id < 65536 → clock ≤ t
      → RefusedWith n (host_with (L.station k) (state_of s id until) clock) d → QuietAs our_system k t s (outcome_of d)
  refused_quiet k t s id until clock d f e T = (stands L k t s id until clock d.host f e T.host, ap (λ (o : CallResult). output_of (sort o) (sent_of d)) T.outcome)

  pub taken_quiet : (k t : ℕ) (s : Claim) (id until : ℕ) (o : CallResult) (d : Done) → id < 65536 → Taken (host_with (L.station k) (state_of s id until) t) o d
      → ((b : Sent) → output_of (sort o) b ≡ nothing) → QuietAs our_system k t s (outcome_of d)
  taken_quiet k t s id until o d f T e =
      (stands L k t s id until t d.host f (omega arith) T.host, ap (λ (o : CallResult). output_of (sort o) (sent_of d)) T.outcome ∙ e (sent_of d))

  asked_asks : (k : ℕ) (l : k < L.count) (m id due t : ℕ) (d : Done) → id < 65536
      → Asked L (C.stations k l).spelling id (host_with (L.station k) (verifying_with m id due) t) d → AsksAs our_system k t (verifying m due) (outcome_of d)
  asked_asks k l m id due t d f T = (
    stands L k t (verifying m due) id 0 t d.host f (omega arith) T.host,
    record {
      what = sent_of d;
      is = ap (λ (o : CallResult). output_of (sort o) (sent_of d)) T.outcome;
      query =
          subst (λ (g : ℕ). IsQuery L k g (sent_of d)) (sym (tag_is O L C k l (verifying_with m id due) t d.host T.host))
          (record {
            id_fits = f;
            to = ap (λ (x : Endpoint). x.address) T.to;
            spelling = (C.stations k l).spelling;
            same = (C.stations k l).same;
            octets = sent_is d T.len (Query T.name T.len) T.outcome refl ∙ T.octets;
          });
    },
  )

  -- start
  module _ (k : ℕ) (l : k < L.count) (x : Inputs) (t : ℕ) (lt : t ≤ latest_time) where
    abbrev Begins : Host → Type 0
    Begins c = (our_system.calls.start k c x t).accepted ≡ true → AsksAs our_system k t (verifying 1 (t + L.interval)) (our_system.calls.start k c x t)

    pub start_accepted : (c : Host) → our_system.StandsFor k t off c → our_system.OfName k x → Begins c
    unfolding OfName
    start_accepted c r g = subst (λ (c : Host). Begins c) (sym r.is) (dite (ℕ_discrete x.interface (L.station k).interface) here there)
      where
        there : x.interface ≢ (L.station k).interface → Begins (host_with (L.station k) Off r.clock)
        there ne yes' =
            let T = (laws O L C k l).start_unused Off r.clock x.interface x.name t x.lent r.early lt ne in
            never yes' (ap (λ (o : CallResult). not (is_refused (sort o))) T.outcome)

        here : x.interface ≡ (L.station k).interface → Begins (host_with (L.station k) Off r.clock)
        here e =
            rw (e, g) λ yes'.
            asked_asks k l 1 x.lent.id (t + L.interval) t _ x.lent.id_fits ((laws O L C k l).start_off r.clock t x.lent r.early lt)

    pub start_open : (c : Host) → our_system.StandsFor k t off c → our_system.OfName k x → our_system.OnInterface k x → (our_system.calls.start k c x t).accepted ≡ true
    unfolding OfName OnInterface
    start_open c r g f =
        rw (r.is, f, g) (ap (λ (o : CallResult). not (is_refused (sort o))) ((laws O L C k l).start_off r.clock t x.lent r.early lt).outcome)

    abbrev Refuses : Claim → Host → Type 0
    Refuses s c = (our_system.calls.start k c x t).accepted ≡ false → QuietAs our_system k t s (our_system.calls.start k c x t)

    pub start_refused : (s : Claim) (c : Host) → our_system.StandsFor k t s c → Refuses s c
    start_refused s c r = subst (λ (c : Host). Refuses s c) (sym r.is) go
      where
        go : Refuses s (host_with (L.station k) (state_of s r.id r.until) r.clock)
        go not' =
            let d = start (host_with (L.station k) (state_of s r.id r.until) r.clock) (L.station k).table x.interface x.name t x.lent.id
            x.lent.out in
            let (why, e) = refused_is d.result not' in (
              stands L k t s r.id r.until r.clock d.host r.id_fits r.early
                  ((laws O L C k l).start_refused (state_of s r.id r.until) r.clock x.interface x.name t x.lent why r.early lt e),
              ap (λ (o : CallResult). output_of (sort o) (sent_of d)) e,
            )

    -- tick
    abbrev Ticks : Claim → ℕ → ℕ → ℕ → ℕ → Type 0
    Ticks s id until clock i =
        Ticked our_system k s x t (outcome_of (tick (host_with (L.station k) (state_of s id until) clock) (L.station k).table i t x.lent.id x.lent.out))

    -- nothing is due
    idle : (s : Claim) (id until clock : ℕ) → id < 65536 → clock ≤ t → NotDue (state_of s id until) t → ((m d : ℕ) → s ≡ verifying m d → t < d)
        → Ticks s id until clock (L.station k).interface
    idle s id until clock f e quiet early =
        Ticked.unchanged (λ g. early)
        (taken_quiet k t s id until Quiet _ f ((laws O L C k l).tick_quiet (state_of s id until) clock t x.lent e lt quiet) (λ b. refl))

    served : (id until clock : ℕ) → id < 65536 → clock ≤ t → (s : Claim) → Ticks s id until clock (L.station k).interface
    served id until clock f e off = idle off id until clock f e tt (λ m d z. clash cc)
    served id until clock f e (verifying m d) = go (dec_lt t d) (dec_lt m sends_in_all)
      where
        go : Dec (t < d) → Dec (m < sends_in_all) → Ticks (verifying m d) id until clock (L.station k).interface
        go (yes early) three = idle (verifying m d) id until clock f e early (λ m' d' z. let w : d ≡ d' = cc in omega arith)
        go (no due) (yes less) =
            Ticked.again m d refl (omega arith) less
            (asked_asks k l (suc m) id (t + L.interval) t _ f ((laws O L C k l).tick_again m id d clock t x.lent e lt f (omega arith) less))
        go (no due) (no enough) =
            Ticked.turns_unique m d refl (omega arith) (omega arith)
            (taken_quiet k t unique id until (Unique (L.station k).name) _ f
            ((laws O L C k l).tick_unique m id d clock t x.lent e lt (omega arith) (omega arith)) (λ b. refl))
    served id until clock f e unique = idle unique id until clock f e tt (λ m d z. clash cc)
    served id until clock f e stopped = idle stopped id until clock f e tt (λ m d z. clash cc)

    pub ticked : (s : Claim) (c : Host) → our_system.StandsFor k t s c → Ticked our_system k s x t (our_system.calls.tick k c x t)
    unfolding OnInterface
    ticked s c r =
        subst (λ (c : Host). Ticked our_system k s x t (our_system.calls.tick k c x t)) (sym r.is)
        (dite (ℕ_discrete x.interface (L.station k).interface) here there)
      where
        here : x.interface ≡ (L.station k).interface → Ticks s r.id r.until r.clock x.interface
        here e = subst (λ (i : ℕ). Ticks s r.id r.until r.clock i) (sym e) (served r.id r.until r.clock r.id_fits r.early s)

        there : x.interface ≢ (L.station k).interface → Ticks s r.id r.until r.clock x.interface
        there ne =
            Ticked.unchanged (λ g. absurd (ne g))
            (refused_quiet k t s r.id r.until r.clock _ r.id_fits r.early
            ((laws O L C k l).tick_unused (state_of s r.id r.until) r.clock x.interface t x.lent r.early lt ne))
