-- For a list of the model's events there is a list of the hosts' calls. An event that changes nothing needs no call.
use Rattle.std.proofs.Common.{◌≡◌, refl, sym, ◌∙◌, ap, List, [], ◌∷◌, ◌++◌, ℕ, suc, ◌+◌, ◌≤◌, ◌<◌, arith}
use Rattle.std.proofs.Math.Logic.{dite}
use mathlib.Core.List.{Memᴰ}
use Rattle.std.proofs.Math.Decide.{ℕ_discrete}
use Rattle.uniqueness.specs.Link.{update}
use Rattle.uniqueness.proofs.Model.{Claim, off, verifying, unique, Put, updated, Send, send, World, Event, start, tick, time, host, OnTime, Act, begin, again, won, Run, clash}
use Rattle.uniqueness.proofs.Model.ListExists.{times}
use Rattle.uniqueness.proofs.Simulation.{Outcome, broadcast, HostDelivery, HostWorld, is_verifying, QueriedIs, result, System, Delivers, Starts, HostRun, AsksAs, QuietAs, Ticked, Simulates}
use Rattle.uniqueness.proofs.Simulation.Deliveries.{AllStandFor, stand_later, stand_put, queries_match, from_model}
use Rattle.uniqueness.proofs.Simulation.Agreement.{verifying_on, unique_on, Starters, starters_first, starters_again, starters_same, DueAfter, Agree, observed_verifying, stand_at, sent_dues}

module _ {S B X Z G : Type 0} (A : System S B X Z G) (R : Simulates A) (P : HostWorld S → ℕ → Type 0) (P' : World → ℕ → Type 0)
    (rule : (W : World) (C : HostWorld S) (h : ℕ) → Agree A W C → P' W h → P C h) where
  pub record Found (C : HostWorld S) (W' : World) : Type 0 where
    pub events : List Event
    pub world : HostWorld S
    pub run : HostRun A P C events world
    pub agree : Agree A W' world
    pub clock : world.time ≤ W'.time

  module _ (W : World) (C : HostWorld S) (agree : Agree A W C) (now : C.time ≤ W.time) where
    -- a call, of event e with inputs x
    module _ (e : Event) (lh : host e < A.link.count) (lt : time e ≤ A.latest) (on_time : OnTime A.link W (time e)) (x : X) (hs : List ℕ)
        (starts : Starts A P C x e (result A.calls C.states x e).accepted hs) where
      abbrev h : ℕ
      h = host e

      abbrev t : ℕ
      t = time e

      abbrev outcome : Outcome S B
      outcome = result A.calls C.states x e

      abbrev called : ℕ → S
      called = update C.states h outcome.state

      soon : C.time ≤ t
      soon = let y = on_time.later in omega arith

      due : (k : ℕ) → k < A.link.count → A.ObservedAs k C.time (C.states k) is_verifying → t ≤ C.queried k + A.link.interval
      due k l o =
          let (m, d, y) = observed_verifying A R W C agree k l o in
          let z = on_time.due k m d l y in
          let v = agree.dues k m d l y in
          omega arith

      stand_called : {s : Claim} {σ' : ℕ → Claim} → Put W.claims h s σ' → A.StandsFor h t s outcome.state → AllStandFor A t σ' called
      stand_called p stand =
          stand_put A p (updated C.states h outcome.state) stand (stand_later A R C.time t W.claims C.states soon agree.stand)

      one_call : (W' : World) (end : ℕ → S) (queried : ℕ → ℕ) → Delivers A t h outcome.output called end
          → QueriedIs outcome.output h t C.queried queried
          → AllStandFor A t W'.claims end → DueAfter A.link W'.claims queried → W'.time ≡ t → W'.started ≡ hs
          → Starters A.link W'.claims W'.started
          → Found C W'
      one_call W' end queried D q stand dues time_is eh starters =
          let C' : HostWorld S = record { states = end; time = t; started = hs; queried = queried } in
          record {
            events = e ∷ [];
            world = C';
            run = HostRun.then {C = C} {C' = C'} {e = e} (record {
              on_link = lh;
              in_range = lt;
              later = soon;
              due = due;
              inputs = x;
              called = called;
              put = updated C.states h outcome.state;
              delivery = D;
              clock = refl;
              starts = starts;
              queries = q;
            }) HostRun.stay;
            agree = record { in_range = lt; stand = stand; dues = dues; started_is = eh; starters = starters };
            clock = omega arith;
          }

      sends : (W' : World) (m : ℕ) → AsksAs A h t (verifying m (t + A.link.interval)) outcome
          → Send A.link W.claims h (verifying m (t + A.link.interval)) W'.claims
          → W'.time ≡ t → W'.started ≡ hs → Starters A.link W'.claims W'.started → Found C W'
      sends W' m (stand, q) (send σ' p D) =
          let g = A.tag h outcome.state in
          let w = from_model A R h t g lh lt D called (broadcast h q.what A.link.count)
          (queries_match A R h t g lh lt q.what q.query A.link.count (omega arith))
          (record { stand = stand_called p stand; tagged = λ m d v. ap (A.tag h) (updated C.states h outcome.state).here }) in
          one_call W' w.states (update C.queried h t) (rw q.is w.delivery) (rw q.is (updated C.queried h t)) w.underway.stand
          (sent_dues A R W C agree h t m (update C.queried h t) W'.claims (updated C.queried h t) (send σ' p D))

      wins : (W' : World) → QuietAs A h t unique outcome → Put W.claims h unique W'.claims → W'.time ≡ t → W'.started ≡ hs
          → Starters A.link W'.claims W'.started → Found C W'
      wins W' (stand, none) p =
          one_call W' called C.queried (rw none HostDelivery.done) (rw none (λ k. refl)) (stand_called p stand)
          (λ k m d l y.
          dite (ℕ_discrete k h)
          (λ q. clash cc)
          (λ ne. agree.dues k m d l (sym (p.else k ne) ∙ y)))

    no_call : (n' : ℕ) → W.time ≤ n' → Found C (record { claims = W.claims; time = n'; started = W.started })
    no_call n' le = record {
      events = [];
      world = C;
      run = HostRun.stay;
      agree = record { in_range = agree.in_range; stand = agree.stand; dues = agree.dues; started_is = agree.started_is; starters = agree.starters };
      clock = omega arith;
    }

    -- a tick of host h with inputs that are served
    abbrev TickedAt : (h t : ℕ) → h < A.link.count → Type 0
    TickedAt h t lh = Ticked A h (W.claims h) (R.some_inputs h lh).0 t (A.calls.tick h (C.states h) (R.some_inputs h lh).0 t)

    now_at : (h t : ℕ) → h < A.link.count → OnTime A.link W t → A.StandsFor h t (W.claims h) (C.states h)
    now_at h t lh on_time = stand_at A R W C agree h t lh (let y = on_time.later in omega arith)

    act_from : {e : Event} {σ : ℕ → Claim} {hs : List ℕ} → host e < A.link.count → time e ≤ A.latest → OnTime A.link W (time e)
        → Act A.link P' W e σ hs
        → (n' : ℕ) → n' ≡ time e → Found C (record { claims = σ; time = n'; started = hs })
    act_from {σ = σ} lh lt on_time (begin {h = h} {t = t} e allowed S') n' time_is =
        let (x, named, used) = R.some_inputs h lh in
        let stand : A.StandsFor h t off (C.states h) = rw e at (now_at h t lh on_time) in
        let is_accepted = R.start_open h (C.states h) x t lh lt stand named used in
        let first : ¬ (Memᴰ h C.started) = λ i. agree.starters.was_started h (rw agree.started_is i) e in
        sends (start h t) lh lt on_time x (h ∷ C.started) (rw is_accepted (rule W C h agree allowed, named, first, refl))
        (record { claims = σ; time = n'; started = h ∷ W.started }) 1 (R.start_accepted h (C.states h) x t lh lt stand named is_accepted) S' time_is
        (ap (λ z. h ∷ z) agree.started_is)
        (starters_first A.link h 1 (t + A.link.interval) lh agree.starters S')
    act_from {σ = σ} lh lt on_time (again {h = h} {t = t} s d e due more S') n' time_is =
        go (R.ticked h (W.claims h) (C.states h) (R.some_inputs h lh).0 t lh lt (now_at h t lh on_time))
      where
        go : TickedAt h t lh → Found C (record { claims = σ; time = n'; started = W.started })
        go (Ticked.unchanged no_due q) = let y = no_due (R.some_inputs h lh).2 s d e in absurd (omega arith)
        go (Ticked.again m d' e' due' lt' q) =
            let z : m ≡ s = cc in
            sends (tick h t) lh lt on_time (R.some_inputs h lh).0 C.started refl (record { claims = σ; time = n'; started = W.started }) (suc s)
            (rw z at q) S' time_is agree.started_is
            (starters_again A.link h (suc s) (t + A.link.interval) agree.starters (verifying_on e) S')
        go (Ticked.turns_unique m d' e' due' le' q) = let z : m ≡ s = cc in absurd (omega arith)
    act_from {σ = σ} lh lt on_time (won {h = h} {t = t} s d e due le p) n' time_is =
        go (R.ticked h (W.claims h) (C.states h) (R.some_inputs h lh).0 t lh lt (now_at h t lh on_time))
      where
        go : TickedAt h t lh → Found C (record { claims = σ; time = n'; started = W.started })
        go (Ticked.unchanged no_due q) = let y = no_due (R.some_inputs h lh).2 s d e in absurd (omega arith)
        go (Ticked.again m d' e' due' lt' q) = let z : m ≡ s = cc in absurd (omega arith)
        go (Ticked.turns_unique m d' e' due' le' q) =
            wins (tick h t) lh lt on_time (R.some_inputs h lh).0 C.started refl (record { claims = σ; time = n'; started = W.started }) q p time_is
            agree.started_is
            (starters_same A.link h agree.starters (verifying_on e) (unique_on p.here) p.else)
    act_from lh lt on_time Act.unchanged n' time_is = no_call n' (let y = on_time.later in omega arith)

  join : {C C' C'' : HostWorld S} {es es' : List Event} → HostRun A P C es C' → HostRun A P C' es' C'' → HostRun A P C (es ++ es') C''
  join HostRun.stay T = T
  join (HostRun.then Q U) T = HostRun.then Q (join U T)

  pub run_from : {W W' : World} {es : List Event} → Run A.link P' W es W' → W'.time ≤ A.latest → (C : HostWorld S) → Agree A W C
      → C.time ≤ W.time → Found C W'
  run_from {W} Run.stay le C agree n = record { events = []; world = C; run = HostRun.stay; agree = agree; clock = n }
  run_from {W} (Run.then {W' = W₁} Q T) le C agree n =
      let later = times T in
      let c = Q.clock in
      let a = act_from W C agree n Q.on_link (omega arith) Q.on_time Q.act W₁.time Q.clock in
      let b = run_from T le a.world a.agree a.clock in
      record { events = a.events ++ b.events; world = b.world; run = join a.run b.run; agree = b.agree; clock = b.clock }
