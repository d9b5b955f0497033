-- A step of the hosts is a step of the model, and a list of their calls a list of the model's events.
use Rattle.std.proofs.Common.{◌≡◌, refl, sym, ◌∙◌, ap, Bool, true, false, List, ◌∷◌, ℕ, suc, ◌+◌, ◌<◌, arith}
use Rattle.std.proofs.Math.Logic.{dite}
use Rattle.std.proofs.Math.Decide.{ℕ_discrete}
use Rattle.uniqueness.specs.Link.{update}
use Rattle.uniqueness.proofs.Model.{Claim, off, verifying, unique, queries, put_same, updated, Send, send, World, Event, start, tick, time, host, OnTime, Act, begin, again, won, Step, Run, clash}
use Rattle.uniqueness.proofs.Simulation.{nothing, Outcome, broadcast, packets, HostDelivery, HostWorld, result, System, Starts, HostStep, HostRun, AsksAs, QuietAs, Ticked, Simulates}
use Rattle.uniqueness.proofs.Simulation.Deliveries.{silent, AllStandFor, stand_later, stand_put, queries_match, to_model}
use Rattle.uniqueness.proofs.Simulation.Agreement.{verifying_on, unique_on, Starters, starters_first, starters_again, starters_same, DueAfter, Agree, observed_is, stand_at, sent_dues}

module _ {S B X Z G : Type 0} (A : System S B X Z G) (R : Simulates A) (P : HostWorld S → ℕ → Type 0) (P' : World → ℕ → Type 0)
    (rule : (W : World) (C : HostWorld S) (h : ℕ) → Agree A W C → P C h → P' W h) where
  -- the claims that the hosts' states stand for once all is delivered, and when those that verify are due
  record Left (t : ℕ) (σ : ℕ → Claim) (C' : HostWorld S) : Type 0 where
    stand : AllStandFor A t σ C'.states
    dues : DueAfter A.link σ C'.queried

  record Sending (t : ℕ) (σ : ℕ → Claim) (h : ℕ) (s : Claim) (C' : HostWorld S) : Type 0 where
    claims : ℕ → Claim
    sends : Send A.link σ h s claims
    left : Left t claims C'

  record After (W : World) (e : Event) (C' : HostWorld S) : Type 0 where
    world : World
    step : Step A.link P' W e world
    agree : Agree A world C'
    clock : world.time ≡ C'.time

  module _ (W : World) (C C' : HostWorld S) (agree : Agree A W C) (e : Event) (step : HostStep A P C e C') where
    abbrev h : ℕ
    h = host e

    abbrev t : ℕ
    t = time e

    abbrev outcome : Outcome S B
    outcome = result A.calls C.states step.inputs e

    before : AllStandFor A t W.claims C.states
    before = stand_later A R C.time t W.claims C.states step.later agree.stand

    sending : (m : ℕ) → AsksAs A h t (verifying m (t + A.link.interval)) outcome → Sending t W.claims h (verifying m (t + A.link.interval)) C'
    sending m (stand, q) =
        let s = verifying m (t + A.link.interval) in
        let g = A.tag h outcome.state in
        let σ' = update W.claims h s in
        let D : HostDelivery A.calls A.link.count t step.called (broadcast h q.what A.link.count) C'.states =
        rw q.is at step.delivery in
        let f = to_model A R h t g step.on_link step.in_range D σ' (queries h A.link.count)
        (queries_match A R h t g step.on_link step.in_range q.what q.query A.link.count (omega arith))
        (record { stand = stand_put A (updated W.claims h s) step.put stand before; tagged = λ m d v. ap (A.tag h) step.put.here }) in
        let S' : Send A.link W.claims h s f.claims = send σ' (updated W.claims h s) f.delivery in
        record {
          claims = f.claims;
          sends = S';
          left = record { stand = f.underway.stand; dues = sent_dues A R W C agree h t m C'.queried f.claims (rw q.is at step.queries) S' };
        }

    quietly : (σ : ℕ → Claim) → AllStandFor A t σ step.called → outcome.output ≡ nothing
        → ((k m d : ℕ) → k < A.link.count → σ k ≡ verifying m d → W.claims k ≡ verifying m d) → Left t σ C'
    quietly σ stand none same = record {
      stand = λ k l. rw (silent A step.delivery (ap (λ o. packets A.calls A.link.count h o) none) k) (stand k l);
      dues = λ k m d l x.
          let y = agree.dues k m d l (same k m d l x) in
          let q : (k : ℕ) → C'.queried k ≡ C.queried k = rw none at step.queries in
          let z = q k in
          omega arith;
    }

    resting : QuietAs A h t (W.claims h) outcome → Left t W.claims C'
    resting (stand, none) = quietly W.claims (stand_put A put_same step.put stand before) none (λ k m d l x. x)

    winning : QuietAs A h t unique outcome → Left t (update W.claims h unique) C'
    winning (stand, none) =
        let p = updated W.claims h unique in
        quietly (update W.claims h unique) (stand_put A p step.put stand before) none
        (λ k m d l x.
        dite (ℕ_discrete k h)
        (λ q. clash cc)
        (λ ne. sym (p.else k ne) ∙ x))

    module _ (now : W.time ≡ C.time) where
      on_time : OnTime A.link W t
      on_time = record {
        later = let x = step.later in omega arith;
        due = λ k s d l x.
            let y = step.due k l (observed_is A R W C agree k (verifying s d) l x) in
            let z = agree.dues k s d l x in
            omega arith;
      }

      -- the end of a step: its claims, and the starts so far
      after : (σ : ℕ → Claim) (hs : List ℕ) → Left t σ C' → Act A.link P' W e σ hs → hs ≡ C'.started → Starters A.link σ hs → After W e C'
      after σ hs n act eh starters = record {
        world = record { claims = σ; time = t; started = hs };
        step = record { on_link = step.on_link; on_time = on_time; act = act; clock = refl };
        agree = record {
          in_range = let x = step.in_range in let y = step.clock in omega arith;
          stand = λ k l. rw step.clock (n.stand k l);
          dues = n.dues;
          started_is = eh;
          starters = starters;
        };
        clock = sym step.clock;
      }

  step_to : (W : World) (C C' : HostWorld S) → Agree A W C → W.time ≡ C.time → (e : Event) → HostStep A P C e C' → After W e C'
  step_to W C C' agree now (start h t) step = go (A.calls.start h (C.states h) step.inputs t).accepted refl step.starts
    where
      go : (b : Bool) → (A.calls.start h (C.states h) step.inputs t).accepted ≡ b → Starts A P C step.inputs (start h t) b C'.started
          → After W (start h t) C'
      go true is_accepted (allowed, named, first, eh) =
          let e₀ : W.claims h ≡ off = agree.starters.unstarted h step.on_link (λ i. first (rw agree.started_is at i)) in
          let q = R.start_accepted h (C.states h) step.inputs t step.on_link step.in_range
          (rw e₀ at (stand_at A R W C agree h t step.on_link step.later)) named is_accepted in
          let x = sending W C C' agree (start h t) step 1 q in
          after W C C' agree (start h t) step now x.claims (h ∷ W.started) x.left (begin e₀ (rule W C h agree allowed) x.sends)
          (ap (λ y. h ∷ y) agree.started_is ∙ sym eh)
          (starters_first A.link h 1 (t + A.link.interval) step.on_link agree.starters x.sends)
      go false is_accepted eh =
          let q = R.start_refused h (W.claims h) (C.states h) step.inputs t step.on_link step.in_range
          (stand_at A R W C agree h t step.on_link step.later) is_accepted in
          after W C C' agree (start h t) step now W.claims W.started (resting W C C' agree (start h t) step q) Act.unchanged
          (agree.started_is ∙ sym eh)
          agree.starters
  step_to W C C' agree now (tick h t) step =
      go (R.ticked h (W.claims h) (C.states h) step.inputs t step.on_link step.in_range
      (stand_at A R W C agree h t step.on_link step.later))
    where
      same : W.started ≡ C'.started
      same = let eh : C'.started ≡ C.started = step.starts in agree.started_is ∙ sym eh

      go : Ticked A h (W.claims h) step.inputs t (A.calls.tick h (C.states h) step.inputs t) → After W (tick h t) C'
      go (Ticked.unchanged no_due q) =
          after W C C' agree (tick h t) step now W.claims W.started (resting W C C' agree (tick h t) step q) Act.unchanged same
          agree.starters
      go (Ticked.again m d e due lt q) =
          let x = sending W C C' agree (tick h t) step (suc m) q in
          after W C C' agree (tick h t) step now x.claims W.started x.left (again m d e due lt x.sends) same
          (starters_again A.link h (suc m) (t + A.link.interval) agree.starters (verifying_on e) x.sends)
      go (Ticked.turns_unique m d e due le q) =
          let p = updated W.claims h unique in
          after W C C' agree (tick h t) step now (update W.claims h unique) W.started (winning W C C' agree (tick h t) step q)
          (won m d e due le p) same
          (starters_same A.link h agree.starters (verifying_on e) (unique_on p.here) p.else)

  pub record Ran (W : World) (es : List Event) (C' : HostWorld S) : Type 0 where
    pub world : World
    pub run : Run A.link P' W es world
    pub agree : Agree A world C'
    pub clock : world.time ≡ C'.time

  pub run_to : {C C' : HostWorld S} {es : List Event} → HostRun A P C es C' → (W : World) → Agree A W C → W.time ≡ C.time → Ran W es C'
  run_to HostRun.stay W agree n = record { world = W; run = Run.stay; agree = agree; clock = n }
  run_to (HostRun.then {C = C} {C' = C₁} {e = e} step T) W agree n =
      let a = step_to W C C₁ agree n e step in
      let b = run_to T a.world a.agree a.clock in
      record { world = b.world; run = Run.then a.step b.run; agree = b.agree; clock = b.clock }
