-- A delivery of packets between hosts is a delivery of the model's messages, and the other way round: packet by packet, while the states
-- stand for the claims and the asker's tag is that of its query.
use Rattle.std.proofs.Common.{◌≡◌, refl, sym, ◌∙◌, ap, ◌≢◌, Bool, true, false, List, [], ◌∷◌, ◌++◌, ℕ, zero, suc, ◌≤◌, ◌<◌, arith}
use Rattle.std.proofs.Math.Logic.{dite}
use mathlib.Core.List.{Forall₂}
use Rattle.std.proofs.Math.Decide.{ℕ_discrete}
use mathlib.Core.List.Forall₂
use mathlib.Mathlib.Data.List.Forall2
use Rattle.uniqueness.specs.Link.{update}
use Rattle.uniqueness.proofs.Model.{Claim, off, verifying, unique, stopped, Message, query, reply, answer, after_reply, Delivery, asked, taken_in, queries, Put, put_same, updated, clash}
use Rattle.uniqueness.proofs.Simulation.{Output, nothing, Outcome, Packet, broadcast, packets, received, HostDelivery, got, System, Answers, Simulates}
use Rattle.uniqueness.proofs.Simulation.Pairwise.{append, cut, pair_unless}

not_empty : {A : Type 0} (l : List A) (p : A) (r : List A) → l ++ (p ∷ r) ≡ [] → ⊥
not_empty [] p r e = clash cc
not_empty (x ∷ l) p r e = clash cc

module _ {S B X Z G : Type 0} (A : System S B X Z G) where
  -- a delivery of no packets changes nothing
  pub silent : {t : ℕ} {c c'' : ℕ → S} {ps : List (Packet B)} → HostDelivery A.calls A.link.count t c ps c'' → ps ≡ [] → (k : ℕ) → c'' k ≡ c k
  silent HostDelivery.done e k = refl
  silent (got c' l r p z pt D) e k = absurd (not_empty l p r e)

  abbrev pub AllStandFor : ℕ → (ℕ → Claim) → (ℕ → S) → Type 0
  AllStandFor t σ c = (k : ℕ) → k < A.link.count → A.StandsFor k t (σ k) (c k)

  -- one host's state is set on both sides
  pub stand_put : {σ σ' : ℕ → Claim} {c c' : ℕ → S} {h t : ℕ} {s : Claim} {v : S} → Put σ h s σ' → Put c h v c' → A.StandsFor h t s v
      → AllStandFor t σ c → AllStandFor t σ' c'
  stand_put {h = h} p q x stand k l = dite (ℕ_discrete k h) (λ e. rw (e, p.here, q.here) x) (λ ne. rw (p.else k ne, q.else k ne) (stand k l))

module _ {S B X Z G : Type 0} (A : System S B X Z G) (R : Simulates A) where
  pub stand_later : (t t' : ℕ) (σ : ℕ → Claim) (c : ℕ → S) → t ≤ t' → AllStandFor A t σ c → AllStandFor A t' σ c
  stand_later t t' σ c le stand k l = R.later k t t' (σ k) (c k) le (stand k l)

  -- the messages about asker a, whose query has the tag g, at time t
  module _ (a t : ℕ) (g : G) (la : a < A.link.count) (lt : t ≤ A.latest) where
    abbrev pub Matches : Packet B → Message → Type 0
    Matches p (query k) = (p.receiver ≡ k) × (p.sender ≡ a) × (k < A.link.count) × (k ≢ a) × A.IsQuery a g p.octets
    Matches p (reply k f) = (p.receiver ≡ a) × (p.sender ≡ k) × (k < A.link.count) × (k ≢ a) × A.IsReply a k g f p.octets

    abbrev on_link : ℕ → Output B → List (Packet B)
    on_link k o = packets A.calls A.link.count k o

    answers_match : (k : ℕ) (s : Claim) (o : Output B) → k < A.link.count → k ≢ a → Answers A a k g s o → Forall₂ Matches (on_link k o) (answer k s)
    answers_match k off o lk ne x = rw x Forall₂.nil
    answers_match k (verifying s d) o lk ne x =
        rw (x.is, R.routed a k g true x.what la x.reply) (Forall₂.cons {b = reply k true} (refl, refl, lk, ne, x.reply) Forall₂.nil)
    answers_match k unique o lk ne x =
        rw (x.is, R.routed a k g false x.what la x.reply) (Forall₂.cons {b = reply k false} (refl, refl, lk, ne, x.reply) Forall₂.nil)
    answers_match k stopped o lk ne x = rw x Forall₂.nil

    pub queries_match : (b : B) → A.IsQuery a g b → (m : ℕ) → m ≤ A.link.count → Forall₂ Matches (broadcast a b m) (queries a m)
    unfolding broadcast queries
    queries_match b q zero le = Forall₂.nil
    queries_match b q (suc m) le =
        pair_unless (ℕ_discrete m a) (record { receiver = m; sender = a; octets = b }) (query m) (λ ne. (refl, refl, le, ne, q))
        (queries_match b q m (omega arith))

    -- while a's messages go round
    pub record Underway (σ : ℕ → Claim) (c : ℕ → S) : Type 0 where
      pub stand : AllStandFor A t σ c
      pub tagged : (m d : ℕ) → σ a ≡ verifying m d → A.tag a (c a) ≡ g

    abbrev receives : (ℕ → S) → Packet B → Z → Outcome S B
    receives c p z = received A.calls t c p z

    query_received : (σ : ℕ → Claim) (c c' : ℕ → S) (p : Packet B) (z : Z) (k : ℕ) → Underway σ c → Matches p (query k)
        → Put c p.receiver (receives c p z).state c'
        → Underway σ c' × Forall₂ Matches (on_link p.receiver (receives c p z).output) (answer k (σ k))
    query_received σ c c' p z k K (e₁, e₂, lk, ne, q) pt =
        let base = R.query_in a k (σ k) (c k) z t p.octets g la lk ne lt (K.stand k lk) q in
        let stand' : A.StandsFor p.receiver t (σ p.receiver) (receives c p z).state = rw (e₁, e₂) base.0 in (
          record {
            stand = stand_put A put_same pt stand' K.stand;
            tagged = λ m d v. ap (A.tag a) (pt.else a (λ e. ne (sym e₁ ∙ sym e))) ∙ K.tagged m d v;
          },
          rw (e₁, e₂) (answers_match k (σ k) (A.calls.receive k (c k) z t a p.octets).output lk ne base.1),
        )

    reply_received : (σ σ' : ℕ → Claim) (c c' : ℕ → S) (p : Packet B) (z : Z) (k : ℕ) (f : Bool) → Underway σ c → Matches p (reply k f)
        → Put c p.receiver (receives c p z).state c' → Put σ a (after_reply (A.link.address a) (A.link.address k) f (σ a)) σ'
        → Underway σ' c' × Forall₂ Matches (on_link p.receiver (receives c p z).output) []
    reply_received σ σ' c c' p z k f K (e₁, e₂, lk, ne, q) pt pa =
        let base = R.reply_in a k (σ a) (c a) z t p.octets f g la lk ne lt (K.stand a la) K.tagged q in
        let s' = after_reply (A.link.address a) (A.link.address k) f (σ a) in
        let stand' : A.StandsFor p.receiver t s' (receives c p z).state = rw (e₁, e₂) base.0.0 in
        let o : (receives c p z).output ≡ nothing = rw (e₁, e₂) base.0.1 in
        let pa' : Put σ p.receiver s' σ' = rw e₁ pa in
        let tagged' : (m d : ℕ) → s' ≡ verifying m d → A.tag a (receives c p z).state ≡ g = rw (e₁, e₂) base.1 in
        let at_a : c' a ≡ (receives c p z).state = ap c' (sym e₁) ∙ pt.here in (
          record { stand = stand_put A pa' pt stand' K.stand; tagged = λ m d v. ap (A.tag a) at_a ∙ tagged' m d (sym pa.here ∙ v) },
          rw o Forall₂.nil,
        )

    -- from a delivery between hosts to one of the model
    pub record Delivered (σ : ℕ → Claim) (ms : List Message) (c'' : ℕ → S) : Type 0 where
      pub claims : ℕ → Claim
      pub delivery : Delivery A.link a σ ms claims
      pub underway : Underway claims c''

    module _ (c c' c'' : ℕ → S) (l r : List (Packet B)) (p : Packet B) (z : Z) (pt : Put c p.receiver (receives c p z).state c')
        (ih : (σ : ℕ → Claim) (ms : List Message) → Forall₂ Matches (l ++ (on_link p.receiver (receives c p z).output ++ r)) ms → Underway σ c'
        → Delivered σ ms c'') where
      one_received : (σ : ℕ → Claim) (ms l' r' : List Message) (m : Message) → ms ≡ l' ++ (m ∷ r') → Forall₂ Matches l l' → Matches p m
          → Forall₂ Matches r r'
          → Underway σ c → Delivered σ ms c''
      one_received σ ms l' r' (query k) e fl x fr K =
          let (K', fa) = query_received σ c c' p z k K x pt in
          let w = ih σ (l' ++ (answer k (σ k) ++ r')) (append fl (append fa fr)) K' in
          record { claims = w.claims; delivery = rw e (asked l' r' k w.delivery); underway = w.underway }
      one_received σ ms l' r' (reply k f) e fl x fr K =
          let s' = after_reply (A.link.address a) (A.link.address k) f (σ a) in
          let (K', fa) = reply_received σ (update σ a s') c c' p z k f K x pt (updated σ a s') in
          let w = ih (update σ a s') (l' ++ r') (append fl (append fa fr)) K' in
          record { claims = w.claims; delivery = rw e (taken_in (update σ a s') l' r' k f (updated σ a s') w.delivery); underway = w.underway }

    pub to_model : {c c'' : ℕ → S} {ps : List (Packet B)} → HostDelivery A.calls A.link.count t c ps c'' → (σ : ℕ → Claim) (ms : List Message)
        → Forall₂ Matches ps ms → Underway σ c → Delivered σ ms c''
    to_model HostDelivery.done σ ms f K = record { claims = σ; delivery = rw (Forall₂.eq-nil_right f) Delivery.done; underway = K }
    to_model (got {c = c} {c'' = c''} c' l r p z pt D) σ ms f K =
        let at = cut l p r ms f in
        one_received c c' c'' l r p z pt (λ σ₁ ms₁ f₁ K₁. to_model D σ₁ ms₁ f₁ K₁) σ ms at.before at.behind at.at at.is at.left
        at.here at.right K

    -- and from a delivery of the model to one between hosts
    pub record HostDelivered (c : ℕ → S) (ps : List (Packet B)) (σ'' : ℕ → Claim) : Type 0 where
      pub states : ℕ → S
      pub delivery : HostDelivery A.calls A.link.count t c ps states
      pub underway : Underway σ'' states

    -- packet p is received, and σ is then σ' and the messages left are l', new and r'
    module _ (c : ℕ → S) (ps l r : List (Packet B)) (l' r' : List Message) (p : Packet B) (e : ps ≡ l ++ (p ∷ r)) (fl : Forall₂ Matches l l')
        (fr : Forall₂ Matches r r') where
      receive_one : (σ' σ'' : ℕ → Claim) (new : List Message)
          → ((c' : ℕ → S) (z : Z) → Put c p.receiver (receives c p z).state c'
          → Underway σ' c' × Forall₂ Matches (on_link p.receiver (receives c p z).output) new)
          → ((c : ℕ → S) (ps : List (Packet B)) → Forall₂ Matches ps (l' ++ (new ++ r')) → Underway σ' c → HostDelivered c ps σ'')
          → HostDelivered c ps σ''
      receive_one σ' σ'' new one ih =
          let z = R.some_receipt in
          let v = receives c p z in
          let c' = update c p.receiver v.state in
          let pt = updated c p.receiver v.state in
          let (K', fa) = one c' z pt in
          let w = ih c' (l ++ (on_link p.receiver v.output ++ r)) (append fl (append fa fr)) K' in
          record { states = w.states; delivery = rw e (got c' l r p z pt w.delivery); underway = w.underway }

    pub from_model : {σ σ'' : ℕ → Claim} {ms : List Message} → Delivery A.link a σ ms σ'' → (c : ℕ → S) (ps : List (Packet B))
        → Forall₂ Matches ps ms
        → Underway σ c → HostDelivered c ps σ''
    from_model Delivery.done c ps f K = record { states = c; delivery = rw (Forall₂.eq-nil_left f) HostDelivery.done; underway = K }
    from_model (asked {σ = σ} {σ'' = σ''} l r k D) c ps f K =
        let at = cut l (query k) r ps (Forall2.Forall₂.flip f) in
        receive_one c ps at.before at.behind l r at.at at.is (Forall2.Forall₂.flip at.left) (Forall2.Forall₂.flip at.right) σ σ'' (answer k (σ k))
        (λ c' z pt. query_received σ c c' at.at z k K at.here pt) (λ c₁ ps₁ f₁ K₁. from_model D c₁ ps₁ f₁ K₁)
    from_model (taken_in {σ = σ} {σ'' = σ''} σ' l r k f' pa D) c ps f K =
        let at = cut l (reply k f') r ps (Forall2.Forall₂.flip f) in
        receive_one c ps at.before at.behind l r at.at at.is (Forall2.Forall₂.flip at.left) (Forall2.Forall₂.flip at.right) σ' σ'' []
        (λ c' z pt. reply_received σ σ' c c' at.at z k f' K at.here pt pa) (λ c₁ ps₁ f₁ K₁. from_model D c₁ ps₁ f₁ K₁)
