-- What the theorem uses of the simulation: after a list of the hosts' calls from set-up there is a run of the model that they stand for, and
-- every further call can be made and delivered; and for a run of the model in turn there is a list of the hosts' calls in turn.
use Rattle.std.proofs.Common.{◌≡◌, refl, ap, Bool, true, false, List, ℕ, suc, ◌+◌, ◌≤◌, ◌<◌, arith}
use mathlib.Core.List.{Memᴰ}
use Rattle.uniqueness.proofs.Model.{Claim, off, verifying, Put, Send, send, World, set_up_at, Event, start, tick, time, host, Run, Settled, AnyOrder, OneByOne}
use Rattle.uniqueness.proofs.Model.ListExists.{can_send}
use Rattle.uniqueness.proofs.Simulation.{nothing, Outcome, broadcast, HostDelivery, HostWorld, result, System, Delivers, HostRun, HostsSettled, HostsAnyOrder, HostsOneByOne, HostsFresh, AsksAs, Ticked, Simulates}
use Rattle.uniqueness.proofs.Simulation.Deliveries.{stand_later, stand_put, queries_match, from_model}
use Rattle.uniqueness.proofs.Simulation.Agreement.{Agree, stand_at, settled_to, settled_back, one_by_one_to, one_by_one_back, fresh_agree}
use Rattle.uniqueness.proofs.Simulation.ToModel.{run_to}
use Rattle.uniqueness.proofs.Simulation.FromModel.{run_from}

module _ {S B X Z G : Type 0} (A : System S B X Z G) (R : Simulates A) where
  in_range_to : {P : HostWorld S → ℕ → Type 0} {C C' : HostWorld S} {es : List Event} → HostRun A P C es C' → C.time ≤ A.latest
      → C'.time ≤ A.latest
  in_range_to HostRun.stay le = le
  in_range_to (HostRun.then Q T) le = in_range_to T (let c = Q.clock in let r = Q.in_range in omega arith)

  -- if the start is accepted, it is of the name and the host's first
  abbrev pub MayAccept : HostWorld S → X → Event → Type 0
  MayAccept C x (start h t) = (A.calls.start h (C.states h) x t).accepted ≡ true → A.OfName h x × (¬ (Memᴰ h C.started))
  MayAccept C x (tick h t) = Unit {0}

  -- all that an outcome sends can be delivered
  Ends : ℕ → ℕ → Outcome S B → (ℕ → S) → Type 0
  Ends t h r c = (c'' : ℕ → S) × Delivers A t h r.output c c''

  module _ (W : World) (C : HostWorld S) (agree : Agree A W C) (h t : ℕ) (lh : h < A.link.count) (lt : t ≤ A.latest) (le : C.time ≤ t) where
    query_ends : (r : Outcome S B) (m : ℕ) (called : ℕ → S) → Put C.states h r.state called
        → AsksAs A h t (verifying m (t + A.link.interval)) r → Ends t h r called
    unfolding Ends
    query_ends r m called pt (stand, q) = go (can_send A.link h W.claims (verifying m (t + A.link.interval)))
      where
        go : (σ'' : ℕ → Claim) × Send A.link W.claims h (verifying m (t + A.link.interval)) σ''
            → (c'' : ℕ → S) × Delivers A t h r.output called c''
        go (σ'', send σ' p D) =
            let g = A.tag h r.state in
            let w = from_model A R h t g lh lt D called (broadcast h q.what A.link.count)
            (queries_match A R h t g lh lt q.what q.query A.link.count (omega arith))
            (record {
              stand = stand_put A p pt stand (stand_later A R C.time t W.claims C.states le agree.stand);
              tagged = λ m d v. ap (A.tag h) pt.here;
            }) in
            (w.states, rw q.is w.delivery)

    quiet_ends : (r : Outcome S B) (called : ℕ → S) → r.output ≡ nothing → Ends t h r called
    unfolding Ends
    quiet_ends r called e = (called, rw e HostDelivery.done)

    start_ends : (x : X) (called : ℕ → S) → Put C.states h (A.calls.start h (C.states h) x t).state called → MayAccept C x (start h t)
        → Ends t h (A.calls.start h (C.states h) x t) called
    start_ends x called pt ok = go (A.calls.start h (C.states h) x t).accepted refl
      where
        go : (b : Bool) → (A.calls.start h (C.states h) x t).accepted ≡ b → Ends t h (A.calls.start h (C.states h) x t) called
        go true is_accepted =
            let (named, first) = ok is_accepted in
            let e₀ : W.claims h ≡ off = agree.starters.unstarted h lh (λ i. first (rw agree.started_is at i)) in
            query_ends (A.calls.start h (C.states h) x t) 1 called pt
            (R.start_accepted h (C.states h) x t lh lt (rw e₀ at (stand_at A R W C agree h t lh le)) named is_accepted)
        go false is_accepted =
            quiet_ends (A.calls.start h (C.states h) x t) called
            (R.start_refused h (W.claims h) (C.states h) x t lh lt (stand_at A R W C agree h t lh le) is_accepted).1

    tick_ends : (x : X) (called : ℕ → S) → Put C.states h (A.calls.tick h (C.states h) x t).state called
        → Ends t h (A.calls.tick h (C.states h) x t) called
    tick_ends x called pt = go (R.ticked h (W.claims h) (C.states h) x t lh lt (stand_at A R W C agree h t lh le))
      where
        go : Ticked A h (W.claims h) x t (A.calls.tick h (C.states h) x t) → Ends t h (A.calls.tick h (C.states h) x t) called
        go (Ticked.unchanged no_due q) = quiet_ends (A.calls.tick h (C.states h) x t) called q.1
        go (Ticked.again m d e due l q) = query_ends (A.calls.tick h (C.states h) x t) (suc m) called pt q
        go (Ticked.turns_unique m d e due l q) = quiet_ends (A.calls.tick h (C.states h) x t) called q.1

  call_ends : (W : World) (C : HostWorld S) → Agree A W C → (e : Event) → host e < A.link.count → time e ≤ A.latest → C.time ≤ time e
      → (x : X) (called : ℕ → S)
      → Put C.states (host e) (result A.calls C.states x e).state called → MayAccept C x e
      → (c'' : ℕ → S) × Delivers A (time e) (host e) (result A.calls C.states x e).output called c''
  unfolding Ends
  call_ends W C agree (start h t) lh lt le x called pt ok = start_ends W C agree h t lh lt le x called pt ok
  call_ends W C agree (tick h t) lh lt le x called pt ok = tick_ends W C agree h t lh lt le x called pt

  module _ (C C' : HostWorld S) (F : HostsFresh A C) where
    -- after a list of the hosts' calls
    pub record Shown (P' : World → ℕ → Type 0) : Type 0 where
      pub events : List Event
      pub world : World
      pub run : Run A.link P' (set_up_at C.time) events world
      pub time_is : world.time ≡ C'.time
      pub stand : (k : ℕ) → k < A.link.count → A.StandsFor k C'.time (world.claims k) (C'.states k)
      pub settled : HostsSettled A C' → Settled A.link world
      pub in_range : C'.time ≤ A.latest
      pub can_call : (e : Event) → host e < A.link.count → time e ≤ A.latest → C'.time ≤ time e → (x : X) (called : ℕ → S)
          → Put C'.states (host e) (result A.calls C'.states x e).state called → MayAccept C' x e
          → (c'' : ℕ → S) × Delivers A (time e) (host e) (result A.calls C'.states x e).output called c''

    show : (P : HostWorld S → ℕ → Type 0) (P' : World → ℕ → Type 0) (rule : (W : World) (C : HostWorld S) (h : ℕ) → Agree A W C → P C h → P' W h)
        (es : List Event) → HostRun A P C es C' → Shown P'
    show P P' rule es T =
        let r = run_to A R P P' rule T (set_up_at C.time) (fresh_agree A R C F) refl in
        record {
          events = es;
          world = r.world;
          run = r.run;
          time_is = r.clock;
          stand = r.agree.stand;
          settled = settled_to A R r.world C' r.agree;
          in_range = in_range_to T F.in_range;
          can_call = call_ends r.world C' r.agree;
        }

    pub show_any : (es : List Event) → HostRun A (HostsAnyOrder A) C es C' → Shown AnyOrder
    show_any es T = show (HostsAnyOrder A) AnyOrder (λ W C h agree p. tt) es T

    pub show_in_turn : (w : ℕ) (es : List Event) → HostRun A (HostsOneByOne A w) C es C' → Shown (OneByOne w)
    show_in_turn w es T = show (HostsOneByOne A w) (OneByOne w) (one_by_one_to A R w) es T

  -- for a run of the model in turn there is one of the hosts
  pub record Exists (C : HostWorld S) (w : ℕ) : Type 0 where
    pub events : List Event
    pub end : HostWorld S
    pub run : HostRun A (HostsOneByOne A w) C events end
    pub settled : HostsSettled A end

  pub exists : (C : HostWorld S) (w : ℕ) → HostsFresh A C → (W' : World) (es : List Event) → Run A.link (OneByOne w) (set_up_at C.time) es W'
      → Settled A.link W'
      → W'.time ≤ A.latest → Exists C w
  exists C w F W' es run e le =
      let b = run_from A R (HostsOneByOne A w) (OneByOne w) (one_by_one_back A R w) run le C (fresh_agree A R C F) (omega arith) in
      record { events = b.events; end = b.world; run = b.run; settled = settled_back A R W' b.world b.agree e }
