-- A small model of a link: hosts that all claim one name, what they send to each other, and lists of their starts and ticks. No octets.
-- Definitions only; the files below say what holds of them.
use Rattle.std.proofs.Common.{◌≡◌, refl, sym, ◌∙◌, ap, ◌≢◌, Bool, true, false, cond, List, [], ◌∷◌, ◌++◌, ℕ, zero, suc, ◌+◌, ◌≤◌, ◌<◌, arith, eq-eqb, ne_eqb}
use Rattle.std.proofs.Math.Path.{fun_ext}
use Rattle.std.proofs.Math.Logic.{dite}
use Rattle.std.proofs.Math.Decide.{ℕ_discrete, dec_lt}
use Rattle.host.specs.Bounds.{sends_in_all}
use Rattle.uniqueness.specs.Link.{update}
pub mod Deliveries
pub mod Changes
pub mod Invariant
pub mod SingleOwner
pub mod InTurn
pub mod ListExists

-- equations that contradict each other, as congruence closure (cc) finds it
pub clash : {A : Type 0} → ◌≡◌ {A = ℕ} 0 1 → A
clash e = absurd (omega (arith, e))

-- a host's claim to the name: verifying has the queries sent so far and the time when it is due
pub data Claim : Type 0 where
  off : Claim
  verifying : ℕ → ℕ → Claim
  unique : Claim
  stopped : Claim

-- who is on the link: so many hosts, numbered below that count, each with an address; one interval for all
pub record LinkModel : Type 0 where
  pub count : ℕ
  pub some : 0 < count
  pub interval : ℕ
  pub positive : 0 < interval
  pub address : ℕ → ℕ
  pub apart : (j k : ℕ) → j < count → k < count → address j ≡ address k → j ≡ k

-- messages on the way, all about one asker: its query to a host, or a host's reply to it with that reply's T
pub data Message : Type 0 where
  query : ℕ → Message
  reply : ℕ → Bool → Message

-- what host k with claim s sends back to a query
abbrev pub answer : ℕ → Claim → List Message
answer k off = []
answer k (verifying s d) = reply k true ∷ []
answer k unique = reply k false ∷ []
answer k stopped = []

abbrev pub yield : {A : Type 0} → Dec A → Claim → Claim
yield (yes p) s = stopped
yield (no p) s = s

-- the claim s of the asker with address own, after a reply with T from the address source
abbrev pub after_reply : ℕ → ℕ → Bool → Claim → Claim
after_reply own source t off = off
after_reply own source false (verifying s d) = stopped
after_reply own source true (verifying s d) = yield (dec_lt source own) (verifying s d)
after_reply own source t unique = unique
after_reply own source t stopped = stopped

-- σ' is σ with host h's value set to s: as the function update gives it
pub record Put {S : Type 0} (σ : ℕ → S) (h : ℕ) (s : S) (σ' : ℕ → S) : Type 0 where
  pub here : σ' h ≡ s
  pub else : (k : ℕ) → k ≢ h → σ' k ≡ σ k

pub put_same : {S : Type 0} {σ : ℕ → S} {h : ℕ} → Put σ h (σ h) σ
put_same = record { here = refl; else = λ k ne. refl }

pub updated : {S : Type 0} (σ : ℕ → S) (h : ℕ) (s : S) → Put σ h s (update σ h s)
updated σ h s = record {
  here = ap (λ (t : Bool). cond t s (σ h)) (eq-eqb h h refl);
  else = λ k ne. ap (λ (t : Bool). cond t s (σ k)) (ne_eqb k h ne);
}

pub put_is : {S : Type 0} (σ : ℕ → S) (h : ℕ) (s : S) (σ' : ℕ → S) → Put σ h s σ' → σ' ≡ update σ h s
put_is σ h s σ' p =
    let q = updated σ h s in
    fun_ext (λ k. dite (ℕ_discrete k h) (λ e. ap σ' e ∙ p.here ∙ sym q.here ∙ ap (update σ h s) (sym e))
    (λ ne. p.else k ne ∙ sym (q.else k ne)))

-- the messages ms about asker a are delivered, one by one, in any order, with the replies that they call forth
pub data Delivery (H : LinkModel) (a : ℕ) : (ℕ → Claim) → List Message → (ℕ → Claim) → Type 0 where
  done : {σ : ℕ → Claim} → Delivery H a σ [] σ
  asked : {σ σ'' : ℕ → Claim} (l r : List Message) (k : ℕ) → Delivery H a σ (l ++ (answer k (σ k) ++ r)) σ'' → Delivery H a σ (l ++ (query k ∷ r)) σ''
  taken_in : {σ σ'' : ℕ → Claim} (σ' : ℕ → Claim) (l r : List Message) (k : ℕ) (t : Bool)
      → Put σ a (after_reply (H.address a) (H.address k) t (σ a)) σ'
      → Delivery H a σ' (l ++ r) σ'' → Delivery H a σ (l ++ (reply k t ∷ r)) σ''

-- the query of host h to every other host below m
abbrev pub unless : {A B : Type 0} → Dec A → B → List B → List B
unless (yes p) m l = l
unless (no p) m l = m ∷ l

unfoldable pub queries : ℕ → ℕ → List Message
queries h zero = []
queries h (suc m) = unless (ℕ_discrete m h) (query m) (queries h m)

-- the link between two events: the claims, the clock, and the accepted starts, the last one first
pub record World : Type 0 where
  pub claims : ℕ → Claim
  pub time : ℕ
  pub started : List ℕ

pub data Event : Type 0 where
  start : ℕ → ℕ → Event
  tick : ℕ → ℕ → Event

abbrev pub time : Event → ℕ
time (start h t) = t
time (tick h t) = t

abbrev pub host : Event → ℕ
host (start h t) = h
host (tick h t) = h

-- h's claim is set to s, and its query goes to all others
pub data Send (H : LinkModel) (σ : ℕ → Claim) (h : ℕ) (s : Claim) (σ'' : ℕ → Claim) : Type 0 where
  send : (σ' : ℕ → Claim) → Put σ h s σ' → Delivery H h σ' (queries h H.count) σ'' → Send H σ h s σ''

-- the clock does not go back, and does not pass the due time of a host that is verifying
pub record OnTime (H : LinkModel) (W : World) (t : ℕ) : Type 0 where
  pub later : W.time ≤ t
  pub due : (k s d : ℕ) → k < H.count → W.claims k ≡ verifying s d → t ≤ d

-- the call of an event, in world W, leaves the claims σ and the accepted starts. P is a rule for accepted starts
pub data Act (H : LinkModel) (P : World → ℕ → Type 0) (W : World) : Event → (ℕ → Claim) → List ℕ → Type 0 where
  begin : {h t : ℕ} {σ : ℕ → Claim} → W.claims h ≡ off → P W h → Send H W.claims h (verifying 1 (t + H.interval)) σ
      → Act H P W (start h t) σ (h ∷ W.started)
  again : {h t : ℕ} {σ : ℕ → Claim} (s d : ℕ) → W.claims h ≡ verifying s d → d ≤ t → s < sends_in_all
      → Send H W.claims h (verifying (suc s) (t + H.interval)) σ
      → Act H P W (tick h t) σ W.started
  won : {h t : ℕ} {σ : ℕ → Claim} (s d : ℕ) → W.claims h ≡ verifying s d → d ≤ t → sends_in_all ≤ s → Put W.claims h unique σ
      → Act H P W (tick h t) σ W.started
  -- refused, quiet, or for another name or interface
  unchanged : {e : Event} → Act H P W e W.claims W.started

pub record Step (H : LinkModel) (P : World → ℕ → Type 0) (W : World) (e : Event) (W' : World) : Type 0 where
  pub on_link : host e < H.count
  pub on_time : OnTime H W (time e)
  pub act : Act H P W e W'.claims W'.started
  pub clock : W'.time ≡ time e

pub data Run (H : LinkModel) (P : World → ℕ → Type 0) : World → List Event → World → Type 0 where
  stay : {W : World} → Run H P W [] W
  then : {W W' W'' : World} {e : Event} {es : List Event} → Step H P W e W' → Run H P W' es W'' → Run H P W (e ∷ es) W''

-- fresh from set-up: all off, none started
pub record Fresh (H : LinkModel) (W : World) : Type 0 where
  pub all_off : (k : ℕ) → k < H.count → W.claims k ≡ off
  pub none : W.started ≡ []

abbrev pub set_up_at : ℕ → World
set_up_at t = record { claims = λ k. off; time = t; started = [] }

pub set_up_fresh : (H : LinkModel) (t : ℕ) → Fresh H (set_up_at t)
set_up_fresh H t = record { all_off = λ k l. refl; none = refl }

-- all started, and none verifying any more
pub record Settled (H : LinkModel) (W : World) : Type 0 where
  pub started : (k : ℕ) → k < H.count → W.claims k ≢ off
  pub rest : (k s d : ℕ) → k < H.count → W.claims k ≢ verifying s d

-- host w owns the name, and all others have stopped
pub record Owns (H : LinkModel) (w : ℕ) (W : World) : Type 0 where
  pub on_link : w < H.count
  pub owns : W.claims w ≡ unique
  pub others : (k : ℕ) → k < H.count → k ≢ w → W.claims k ≡ stopped

-- exactly one host owns the name
pub record OneOwner (H : LinkModel) (W : World) : Type 0 where
  pub owner : ℕ
  pub owns : Owns H owner W
  pub only : (k : ℕ) → k < H.count → W.claims k ≡ unique → k ≡ owner

-- rules for accepted starts: none; and the owner first, each other once the one before does not verify
abbrev pub AnyOrder : World → ℕ → Type 0
AnyOrder W h = Unit {0}

pub record OneByOne (w : ℕ) (W : World) (h : ℕ) : Type 0 where
  pub first : W.started ≡ [] → h ≡ w
  pub next : (l : ℕ) (ls : List ℕ) → W.started ≡ l ∷ ls → (s d : ℕ) → W.claims l ≢ verifying s d
