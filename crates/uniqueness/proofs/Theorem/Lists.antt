-- A list of calls as the statement has it is a run of the simulation's hosts, and the other way round.
use Rattle.std.proofs.Common.{◌≡◌, refl, sym, ◌∙◌, subst, Bool, true, false, cond, not, List, [], ◌∷◌, ℕ, ◌+◌, ◌≤◌, ◌<◌}
use Rattle.std.proofs.Math.Path.{fun_ext}
use Rattle.host.specs.Bounds.{latest as latest_time}
use Rattle.host.specs.declared.Host.{Host}
use Rattle.host.specs.Outcomes.{Done}
use Rattle.uniqueness.specs.Link as Spec
use Rattle.uniqueness.specs.Link.{sort_of, Link, Lent, Receipt, update, Request, starts, ticks, Call, datagrams, is_refused, is_query, Moment, started_after, after, Observed, StartRule, Settled, OneByOne, Conditions, Delivered, Keeps}
use Rattle.uniqueness.proofs.Model.{Put, updated, put_is, Event, start, tick, time, host}
use Rattle.uniqueness.proofs.Simulation.{packets, HostDelivery, HostWorld, Kind, is_verifying, is_off, QueriedIs, result, System, Starts, HostStep, HostRun, HostsSettled, HostsOneByOne}
use Rattle.uniqueness.proofs.Obligations.{Obligations}
use Rattle.uniqueness.proofs.Hosts.{Sent, output_of, sent_of, outcome_of, Inputs, observation, calls, OfName, system}
use Rattle.uniqueness.proofs.Theorem.Deliveries.{same_copies, to_hosts, from_hosts}

-- moments and worlds are the same four things
abbrev pub world_of : Moment → HostWorld Host
world_of m = record { states = m.hosts; time = m.time; started = m.started; queried = m.queried }

abbrev pub moment_of : HostWorld Host → Moment
moment_of W = record { hosts = W.states; time = W.time; started = W.started; queried = W.queried }

moment_path : (f : ℕ → Host) (t t' : ℕ) (s s' : List ℕ) (q q' : ℕ → ℕ) → t ≡ t' → s ≡ s' → q ≡ q'
    → ◌≡◌ {A = Moment} (record { hosts = f; time = t; started = s; queried = q }) (record { hosts = f; time = t'; started = s'; queried = q' })
moment_path f t t' s s' q q' et es eq = λ i. record { hosts = f; time = et i; started = es i; queried = eq i }

abbrev pub call_of : ℕ → ℕ → ℕ → Lent → Request → Call
call_of h i t v r = record { host = h; request = r; interface = i; time = t; lent = v }

abbrev event_of : Request → ℕ → ℕ → Event
event_of (starts k) h t = start h t
event_of ticks h t = tick h t

queried_to : (o : Spec.Sort) (b : Sent) (h t : ℕ) (q : ℕ → ℕ) → QueriedIs (output_of o b) h t q (cond (is_query o) (update q h t) q)
queried_to (Spec.refused n) b h t q = λ k. refl
queried_to (Spec.query len) b h t q = updated q h t
queried_to (Spec.reply len) b h t q = λ k. refl
queried_to Spec.silent b h t q = λ k. refl

queried_from : (o : Spec.Sort) (b : Sent) (h t : ℕ) (q q' : ℕ → ℕ) → QueriedIs (output_of o b) h t q q' → q' ≡ cond (is_query o) (update q h t) q
queried_from (Spec.refused n) b h t q q' e = fun_ext e
queried_from (Spec.query len) b h t q q' e = put_is q h t q' e
queried_from (Spec.reply len) b h t q q' e = fun_ext e
queried_from Spec.silent b h t q q' e = fun_ext e

-- a way to observe hosts: as the statement's rules take it (Is), and as the simulation does, of a state at a time
pub record View : Type 1 where
  pub Is : Moment → ℕ → Observed → Type 0
  pub ObservedAs : ℕ → ℕ → Host → Kind → Type 0
  pub into : (m : Moment) (k : ℕ) (x : Kind) → Is m k (observation x) → ObservedAs k m.time (m.hosts k) x
  pub back : (m : Moment) (k : ℕ) (x : Kind) → ObservedAs k m.time (m.hosts k) x → Is m k (observation x)

module _ (O : Obligations) (L : Link) (C : Conditions L) (view : View) where
  abbrev our_system : System Host Sent Inputs Receipt ℕ
  our_system = system O L C view.ObservedAs

  pub settled_to : (m : Moment) → Settled L view.Is m → HostsSettled our_system (world_of m)
  settled_to m s =
      record { started = λ k l x. s.started k l (view.back m k is_off x); rest = λ k l x. s.finished k l (view.back m k is_verifying x) }

  pub settled_from : (W : HostWorld Host) → HostsSettled our_system W → Settled L view.Is (moment_of W)
  settled_from W s =
      record {
        started = λ k l x. s.started k l (view.into (moment_of W) k is_off x);
        finished = λ k l x. s.rest k l (view.into (moment_of W) k is_verifying x);
      }

  one_by_one_to : (w : ℕ) (m : Moment) (h : ℕ) → OneByOne view.Is w m h → HostsOneByOne our_system w (world_of m) h
  one_by_one_to w m h s = record { first = s.first; next = λ l ls e x. s.next l ls e (view.back m l is_verifying x) }

  one_by_one_from : (w : ℕ) (W : HostWorld Host) (h : ℕ) → HostsOneByOne our_system w W h → OneByOne view.Is w (moment_of W) h
  one_by_one_from w W h s = record { first = s.first; next = λ l ls e x. s.next l ls e (view.into (moment_of W) l is_verifying x) }

  -- Order and P: the rules for starts, on either side
  module _ (Order : Moment → ℕ → Type 0) (P : HostWorld Host → ℕ → Type 0) (rule : (m : Moment) (h : ℕ) → Order m h → P (world_of m) h) where
    starts_to : (m : Moment) (h t k : ℕ) (x : Inputs) (b : Bool) → x.name ≡ k → StartRule Order L m h (starts k) b
        → Starts our_system P (world_of m) x (start h t) (not b) (cond b m.started (h ∷ m.started))
    unfolding OfName
    starts_to m h t k x true e r = refl
    starts_to m h t k x false e (en, new, ord) = (rule m h ord, e ∙ en, new, refl)

    -- the event e with inputs x is a call whose result is d
    one_event : (m : Moment) (e : Event) (x : Inputs) (d : Done) (hosts : ℕ → Host) (hs : List ℕ) → result (calls L) m.hosts x e ≡ outcome_of d
        → host e < L.count
        → time e ≤ latest_time → m.time ≤ time e → ((k : ℕ) → k < L.count → view.Is m k Spec.verifying → time e ≤ m.queried k + L.interval)
        → Delivered L (time e) (update m.hosts (host e) d.host) (datagrams L (host e) d) hosts
        → Starts our_system P (world_of m) x e (outcome_of d).accepted hs
        → HostStep our_system P (world_of m) e
        (record { states = hosts; time = time e; started = hs; queried = cond (is_query (sort_of d)) (update m.queried (host e) (time e)) m.queried })
    one_event m e x d hosts hs is on_link in_range forward due E st = record {
      on_link = on_link;
      in_range = in_range;
      later = forward;
      due = λ k l y. due k l (view.back m k is_verifying y);
      inputs = x;
      called = update m.hosts (host e) d.host;
      put = rw is (updated m.hosts (host e) d.host);
      delivery = rw is (to_hosts L (time e) E (packets (calls L) L.count (host e) (outcome_of d).output) (same_copies L (host e) d));
      clock = refl;
      starts = rw is st;
      queries = rw is (queried_to (sort_of d) (sent_of d) (host e) (time e) m.queried);
    }

    step_to : (m : Moment) (h i t : ℕ) (v : Lent) (r : Request) (hosts : ℕ → Host)
        → Keeps L view.Is Order m (call_of h i t v r)
        → Delivered L t (update m.hosts h (Spec.result L m.hosts (call_of h i t v r)).host)
        (datagrams L h (Spec.result L m.hosts (call_of h i t v r))) hosts
        → HostStep our_system P (world_of m) (event_of r h t)
        (world_of (after m (call_of h i t v r) (sort_of (Spec.result L m.hosts (call_of h i t v r))) hosts))
    step_to m h i t v (starts k) hosts K E =
        let d = Spec.result L m.hosts (call_of h i t v (starts k)) in
        let x : Inputs = record { interface = i; name = k; lent = v } in
        one_event m (start h t) x d hosts _ refl K.host K.in_range K.forward K.due E
        (starts_to m h t k x (is_refused (sort_of d)) refl K.start)
    step_to m h i t v ticks hosts K E =
        let d = Spec.result L m.hosts (call_of h i t v ticks) in
        let x : Inputs = record { interface = i; name = 0; lent = v } in
        one_event m (tick h t) x d hosts _ refl K.host K.in_range K.forward K.due E refl

    pub run_to : {m m' : Moment} {cs : List Call} → Spec.Run L view.Is Order m cs m' → (es : List Event) × HostRun our_system P (world_of m) es (world_of m')
    run_to Spec.Run.empty = ([], HostRun.stay)
    run_to (Spec.Run.then {m = m} c hosts K E R) =
        let (es, T) = run_to R in
        let step = step_to m c.host c.interface c.time c.lent c.request hosts K E in
        (event_of c.request c.host c.time ∷ es, HostRun.then step T)

  module _ (Order : Moment → ℕ → Type 0) (P : HostWorld Host → ℕ → Type 0) (rule : (W : HostWorld Host) (h : ℕ) → P W h → Order (moment_of W) h) where
    starts_from : (W : HostWorld Host) (h t : ℕ) (x : Inputs) (b : Bool) (hs : List ℕ) → Starts our_system P W x (start h t) (not b) hs
        → StartRule Order L (moment_of W) h (starts x.name) b × (hs ≡ cond b W.started (h ∷ W.started))
    unfolding OfName
    starts_from W h t x true hs e = (tt, e)
    starts_from W h t x false hs (p, g, new, e) = ((g, new, rule W h p), e)

    abbrev CallsBetween : HostWorld Host → HostWorld Host → Type 0
    CallsBetween W W' = (cs : List Call) × Spec.Run L view.Is Order (moment_of W) cs (moment_of W')

    keeps : (W W' : HostWorld Host) (e : Event) (c : Call) → HostStep our_system P W e W' → host e ≡ c.host → time e ≡ c.time
        → StartRule Order L (moment_of W) c.host c.request (is_refused (sort_of (Spec.result L W.states c))) → Keeps L view.Is Order (moment_of W) c
    keeps W W' e c step eh et rule_kept = record {
      host = rw (sym eh) step.on_link;
      in_range = rw (sym et) step.in_range;
      forward = rw (sym et) step.later;
      due = λ k l y. rw (sym et) (step.due k l (view.into (moment_of W) k is_verifying y));
      start = rule_kept;
    }

    -- one call first
    one_call : (W W' W'' : HostWorld Host) (c : Call) (called : ℕ → Host) → Keeps L view.Is Order (moment_of W) c
        → Put W.states c.host (Spec.result L W.states c).host called
        → HostDelivery (calls L) L.count c.time called
        (packets (calls L) L.count c.host (outcome_of (Spec.result L W.states c)).output) W'.states
        → W'.time ≡ c.time → W'.started ≡ started_after c.request (sort_of (Spec.result L W.states c)) c.host W.started
        → QueriedIs (outcome_of (Spec.result L W.states c)).output c.host c.time W.queried W'.queried → CallsBetween W' W''
        → CallsBetween W W''
    one_call W W' W'' c called K p D et es q (cs, R) =
        let d = Spec.result L W.states c in (
          c ∷ cs,
          Spec.Run.then c W'.states K
              (subst (λ (f : ℕ → Host). Delivered L c.time f (datagrams L c.host d) W'.states)
              (put_is W.states c.host d.host called p)
              (from_hosts L c.time D (datagrams L c.host d) (same_copies L c.host d)))
              (subst (λ (m : Moment). Spec.Run L view.Is Order m cs (moment_of W''))
              (moment_path W'.states W'.time c.time W'.started _ W'.queried _ et es
              (queried_from (sort_of d) (sent_of d) c.host c.time W.queried W'.queried q)) R),
        )

    step_from : (W W' W'' : HostWorld Host) (e : Event) → HostStep our_system P W e W' → CallsBetween W' W'' → CallsBetween W W''
    step_from W W' W'' (start h t) step rest =
        let x = step.inputs in
        let c = call_of h x.interface t x.lent (starts x.name) in
        let (rule_kept, eh) = starts_from W h t x (is_refused (sort_of (Spec.result L W.states c))) W'.started step.starts in
        one_call W W' W'' c step.called (keeps W W' (start h t) c step refl refl rule_kept) step.put step.delivery step.clock eh
        step.queries rest
    step_from W W' W'' (tick h t) step rest =
        let x = step.inputs in
        let c = call_of h x.interface t x.lent ticks in
        one_call W W' W'' c step.called (keeps W W' (tick h t) c step refl refl tt) step.put step.delivery step.clock step.starts
        step.queries rest

    pub run_from : {W W' : HostWorld Host} {es : List Event} → HostRun our_system P W es W' → CallsBetween W W'
    run_from HostRun.stay = ([], Spec.Run.empty)
    run_from {W' = W''} (HostRun.then {C = W} {C' = W'} {e = e} step T) = step_from W W' W'' e step (run_from T)

  pub in_turn_to : (w : ℕ) {m m' : Moment} {cs : List Call} → Spec.Run L view.Is (OneByOne view.Is w) m cs m'
      → (es : List Event) × HostRun our_system (HostsOneByOne our_system w) (world_of m) es (world_of m')
  in_turn_to w R = run_to (OneByOne view.Is w) (HostsOneByOne our_system w) (one_by_one_to w) R

  pub in_turn_from : (w : ℕ) {W W' : HostWorld Host} {es : List Event} → HostRun our_system (HostsOneByOne our_system w) W es W'
      → (cs : List Call) × Spec.Run L view.Is (OneByOne view.Is w) (moment_of W) cs (moment_of W')
  in_turn_from w T = run_from (OneByOne view.Is w) (HostsOneByOne our_system w) (one_by_one_from w) T
