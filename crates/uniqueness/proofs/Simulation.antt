-- Any hosts whose calls behave like the model's: what their calls are and what lists of them are, and what is to be shown of the calls
-- (Simulates). From that the files below carry deliveries, steps and lists over to the model and back, so that the model's facts hold
-- of the hosts.
use Rattle.std.proofs.Common.{◌≡◌, ◌≢◌, Bool, true, false, List, [], ◌∷◌, ◌++◌, map, ℕ, zero, suc, ◌+◌, ◌≤◌, ◌<◌}
use mathlib.Core.List.{Memᴰ}
use Rattle.std.proofs.Math.Decide.{ℕ_discrete}
use Rattle.host.specs.Bounds.{sends_in_all}
use Rattle.uniqueness.proofs.Model.{Claim, off, verifying, unique, stopped, LinkModel, after_reply, Put, unless, Event, start, tick, time, host}
pub mod Pairwise
pub mod Deliveries
pub mod Agreement
pub mod ToModel
pub mod FromModel
pub mod Lists

-- 1. CALLS

-- what a call sends: nothing, a query for every other host, or a reply for the host whose octets were received
pub data Output (B : Type 0) : Type 0 where
  nothing : Output B
  ask tell : B → Output B

pub record Outcome (S B : Type 0) : Type 0 where
  pub state : S
  pub output : Output B
  pub accepted : Bool

-- the calls, each of a host by its number. S: a host's state; B: octets; X: the further inputs of a start or a tick; Z: those of a receive
pub record Calls (S B X Z : Type 0) : Type 0 where
  pub start : ℕ → S → X → ℕ → Outcome S B
  pub tick : ℕ → S → X → ℕ → Outcome S B
  pub receive : ℕ → S → Z → ℕ → ℕ → B → Outcome S B
  -- the hosts that a reply goes to
  pub route : B → List ℕ

abbrev pub result : {S B X Z : Type 0} → Calls S B X Z → (ℕ → S) → X → Event → Outcome S B
result Y c x (start h t) = Y.start h (c h) x t
result Y c x (tick h t) = Y.tick h (c h) x t

-- 2. DELIVERIES

pub record Packet (B : Type 0) : Type 0 where
  pub receiver : ℕ
  pub sender : ℕ
  pub octets : B

unfoldable pub broadcast : {B : Type 0} → ℕ → B → ℕ → List (Packet B)
broadcast h b zero = []
broadcast h b (suc m) = unless (ℕ_discrete m h) (record { receiver = m; sender = h; octets = b }) (broadcast h b m)

-- what host k's output puts on a link of n hosts
abbrev pub packets : {S B X Z : Type 0} → Calls S B X Z → ℕ → ℕ → Output B → List (Packet B)
packets Y n k nothing = []
packets Y n k (ask b) = broadcast k b n
packets Y n k (tell b) = map (λ j. record { receiver = j; sender = k; octets = b }) (Y.route b)

abbrev pub received : {S B X Z : Type 0} → Calls S B X Z → ℕ → (ℕ → S) → Packet B → Z → Outcome S B
received Y t c p z = Y.receive p.receiver (c p.receiver) z t p.sender p.octets

-- all packets are received, in any order, at time t
pub data HostDelivery {S B X Z : Type 0} (Y : Calls S B X Z) (n t : ℕ) : (ℕ → S) → List (Packet B) → (ℕ → S) → Type 0 where
  done : {c : ℕ → S} → HostDelivery Y n t c [] c
  got : {c c'' : ℕ → S} (c' : ℕ → S) (l r : List (Packet B)) (p : Packet B) (z : Z)
      → Put c p.receiver (received Y t c p z).state c'
      → HostDelivery Y n t c' (l ++ (packets Y n p.receiver (received Y t c p z).output ++ r)) c''
      → HostDelivery Y n t c (l ++ (p ∷ r)) c''

-- 3. A SYSTEM: the calls, and how states and octets are read

pub data Kind : Type 0 where
  is_off is_verifying is_owning is_stopped : Kind

abbrev pub kind : Claim → Kind
kind off = is_off
kind (verifying s d) = is_verifying
kind unique = is_owning
kind stopped = is_stopped

-- G: what a host's own query has in it that the replies to it repeat (the ID)
pub record System (S B X Z G : Type 0) : Type 1 where
  pub calls : Calls S B X Z
  pub link : LinkModel
  pub latest : ℕ
  -- at time t a copy of host k in state c is observed to be of kind x: ObservedAs k t c x
  pub ObservedAs : ℕ → ℕ → S → Kind → Type 0
  -- the state c of host k, whose clock is at most t, stands for the claim s: StandsFor k t s c
  pub StandsFor : ℕ → ℕ → Claim → S → Type 0
  pub tag : ℕ → S → G
  -- b is a query of host a for the name, with tag g: IsQuery a g b. It is host k's reply to such a query, with T as f: IsReply a k g f b
  pub IsQuery : ℕ → G → B → Type 0
  pub IsReply : ℕ → ℕ → G → Bool → B → Type 0
  -- a start or tick of host k with these inputs is for the name; it is on the interface that the host uses
  pub OfName : ℕ → X → Type 0
  pub OnInterface : ℕ → X → Type 0

-- 4. LISTS OF CALLS

-- queried: when each host last sent a query of its own
pub record HostWorld (S : Type 0) : Type 0 where
  pub states : ℕ → S
  pub time : ℕ
  pub started : List ℕ
  pub queried : ℕ → ℕ

abbrev pub QueriedIs : {B : Type 0} → Output B → ℕ → ℕ → (ℕ → ℕ) → (ℕ → ℕ) → Type 0
QueriedIs nothing h t q q' = (k : ℕ) → q' k ≡ q k
QueriedIs (ask b) h t q q' = Put q h t q'
QueriedIs (tell b) h t q q' = (k : ℕ) → q' k ≡ q k

module _ {S B X Z G : Type 0} (A : System S B X Z G) where
  -- all that host h's output puts on the link is delivered
  abbrev pub Delivers : ℕ → ℕ → Output B → (ℕ → S) → (ℕ → S) → Type 0
  Delivers t h o c c'' = HostDelivery A.calls A.link.count t c (packets A.calls A.link.count h o) c''

  -- an accepted start of h is its only one, by the rule P, and of the name
  abbrev pub Starts : (HostWorld S → ℕ → Type 0) → HostWorld S → X → Event → Bool → List ℕ → Type 0
  Starts P C x (start h t) true hs = (P C h) × (A.OfName h x) × (¬ (Memᴰ h C.started)) × (hs ≡ h ∷ C.started)
  Starts P C x (start h t) false hs = hs ≡ C.started
  Starts P C x (tick h t) b hs = hs ≡ C.started

  pub record HostStep (P : HostWorld S → ℕ → Type 0) (C : HostWorld S) (e : Event) (C' : HostWorld S) : Type 0 where
    pub on_link : host e < A.link.count
    pub in_range : time e ≤ A.latest
    pub later : C.time ≤ time e
    pub due : (k : ℕ) → k < A.link.count → A.ObservedAs k C.time (C.states k) is_verifying → time e ≤ C.queried k + A.link.interval
    pub inputs : X
    -- the states right after the call, before anything is delivered
    pub called : ℕ → S
    pub put : Put C.states (host e) (result A.calls C.states inputs e).state called
    pub delivery : Delivers (time e) (host e) (result A.calls C.states inputs e).output called C'.states
    pub clock : C'.time ≡ time e
    pub starts : Starts P C inputs e (result A.calls C.states inputs e).accepted C'.started
    pub queries : QueriedIs (result A.calls C.states inputs e).output (host e) (time e) C.queried C'.queried

  pub data HostRun (P : HostWorld S → ℕ → Type 0) : HostWorld S → List Event → HostWorld S → Type 0 where
    stay : {C : HostWorld S} → HostRun P C [] C
    then : {C C' C'' : HostWorld S} {e : Event} {es : List Event} → HostStep P C e C' → HostRun P C' es C'' → HostRun P C (e ∷ es) C''

  pub record HostsSettled (C : HostWorld S) : Type 0 where
    pub started : (k : ℕ) → k < A.link.count → ¬ (A.ObservedAs k C.time (C.states k) is_off)
    pub rest : (k : ℕ) → k < A.link.count → ¬ (A.ObservedAs k C.time (C.states k) is_verifying)

  abbrev pub HostsAnyOrder : HostWorld S → ℕ → Type 0
  HostsAnyOrder C h = Unit {0}

  pub record HostsOneByOne (w : ℕ) (C : HostWorld S) (h : ℕ) : Type 0 where
    pub first : C.started ≡ [] → h ≡ w
    pub next : (l : ℕ) (ls : List ℕ) → C.started ≡ l ∷ ls → ¬ (A.ObservedAs l C.time (C.states l) is_verifying)

  -- fresh from set-up: each host's state stands for off, none is started, and the clock is in its range
  pub record HostsFresh (C : HostWorld S) : Type 0 where
    pub all_off : (k : ℕ) → k < A.link.count → A.StandsFor k C.time off (C.states k)
    pub none_yet : C.started ≡ []
    pub in_range : C.time ≤ A.latest

  -- 5. WHAT IS TO BE SHOWN OF THE CALLS

  pub record Asks (k : ℕ) (g : G) (o : Output B) : Type 0 where
    pub what : B
    pub is : o ≡ ask what
    pub query : A.IsQuery k g what

  pub record Tells (a k : ℕ) (g : G) (f : Bool) (o : Output B) : Type 0 where
    pub what : B
    pub is : o ≡ tell what
    pub reply : A.IsReply a k g f what

  abbrev pub Answers : ℕ → ℕ → G → Claim → Output B → Type 0
  Answers a k g off o = o ≡ nothing
  Answers a k g (verifying s d) o = Tells a k g true o
  Answers a k g unique o = Tells a k g false o
  Answers a k g stopped o = o ≡ nothing

  -- host k's state then stands for the claim s, and its query goes out; or nothing goes out
  abbrev pub AsksAs : ℕ → ℕ → Claim → Outcome S B → Type 0
  AsksAs k t s r = A.StandsFor k t s r.state × Asks k (A.tag k r.state) r.output

  abbrev pub QuietAs : ℕ → ℕ → Claim → Outcome S B → Type 0
  QuietAs k t s r = A.StandsFor k t s r.state × (r.output ≡ nothing)

  pub data Ticked (k : ℕ) (s : Claim) (x : X) (t : ℕ) (r : Outcome S B) : Type 0 where
    unchanged : (A.OnInterface k x → (m d : ℕ) → s ≡ verifying m d → t < d) → QuietAs k t s r → Ticked k s x t r
    again : (m d : ℕ) → s ≡ verifying m d → d ≤ t → m < sends_in_all → AsksAs k t (verifying (suc m) (t + A.link.interval)) r → Ticked k s x t r
    turns_unique : (m d : ℕ) → s ≡ verifying m d → d ≤ t → sends_in_all ≤ m → QuietAs k t unique r → Ticked k s x t r

  pub record Simulates : Type 0 where
    pub later : (k t t' : ℕ) (s : Claim) (c : S) → t ≤ t' → A.StandsFor k t s c → A.StandsFor k t' s c
    pub observed : (k t : ℕ) (s : Claim) (c : S) → k < A.link.count → t ≤ A.latest → A.StandsFor k t s c → A.ObservedAs k t c (kind s)
    pub only : (k t : ℕ) (s : Claim) (c : S) (x : Kind) → k < A.link.count → t ≤ A.latest → A.StandsFor k t s c → A.ObservedAs k t c x
        → x ≡ kind s
    pub routed : (a k : ℕ) (g : G) (f : Bool) (b : B) → a < A.link.count → A.IsReply a k g f b → A.calls.route b ≡ a ∷ []
    pub start_accepted : (k : ℕ) (c : S) (x : X) (t : ℕ) → k < A.link.count → t ≤ A.latest → A.StandsFor k t off c → A.OfName k x
        → (A.calls.start k c x t).accepted ≡ true → AsksAs k t (verifying 1 (t + A.link.interval)) (A.calls.start k c x t)
    pub start_refused : (k : ℕ) (s : Claim) (c : S) (x : X) (t : ℕ) → k < A.link.count → t ≤ A.latest → A.StandsFor k t s c
        → (A.calls.start k c x t).accepted ≡ false → QuietAs k t s (A.calls.start k c x t)
    pub ticked : (k : ℕ) (s : Claim) (c : S) (x : X) (t : ℕ) → k < A.link.count → t ≤ A.latest → A.StandsFor k t s c
        → Ticked k s x t (A.calls.tick k c x t)
    pub query_in : (a k : ℕ) (s : Claim) (c : S) (z : Z) (t : ℕ) (b : B) (g : G) → a < A.link.count → k < A.link.count → k ≢ a → t ≤ A.latest
        → A.StandsFor k t s c → A.IsQuery a g b
        → A.StandsFor k t s (A.calls.receive k c z t a b).state × Answers a k g s (A.calls.receive k c z t a b).output
    -- g: the tag of the query that is answered, which is the state's as long as it is verifying
    pub reply_in : (a k : ℕ) (s : Claim) (c : S) (z : Z) (t : ℕ) (b : B) (f : Bool) (g : G) → a < A.link.count → k < A.link.count → k ≢ a
        → t ≤ A.latest → A.StandsFor a t s c → ((m d : ℕ) → s ≡ verifying m d → A.tag a c ≡ g) → A.IsReply a k g f b
        → QuietAs a t (after_reply (A.link.address a) (A.link.address k) f s) (A.calls.receive a c z t k b)
        × ((m d : ℕ) → after_reply (A.link.address a) (A.link.address k) f s ≡ verifying m d → A.tag a (A.calls.receive a c z t k b).state ≡ g)
    -- for the existence of a list: a start of a host that is off can be accepted, and a tick can be served
    pub some_inputs : (k : ℕ) → k < A.link.count → (x : X) × A.OfName k x × A.OnInterface k x
    pub some_receipt : Z
    pub start_open : (k : ℕ) (c : S) (x : X) (t : ℕ) → k < A.link.count → t ≤ A.latest → A.StandsFor k t off c → A.OfName k x
        → A.OnInterface k x
        → (A.calls.start k c x t).accepted ≡ true
