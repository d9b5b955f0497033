-- When a world of the hosts agrees with one of the model, and what follows: each host is observed as its claim says; the rules for starts and
-- the end of a list mean the same on both sides; fresh hosts agree with the fresh model.
use Rattle.std.proofs.Common.{◌≡◌, refl, sym, ◌∙◌, ap, ◌≢◌, ◌⊎◌, inl, inr, List, ◌∷◌, ℕ, ◌+◌, ◌≤◌, ◌<◌, arith}
use Rattle.std.proofs.Math.Logic.{dite}
use mathlib.Core.List.{Memᴰ}
use Rattle.std.proofs.Math.Decide.{ℕ_discrete}
use mathlib.Core.List.Memᴰ
use Rattle.uniqueness.proofs.Model.{Claim, off, verifying, unique, stopped, LinkModel, Put, Send, World, set_up_at, Settled, OneByOne, clash}
use Rattle.uniqueness.proofs.Model.Deliveries.{Sent, sent, sent_else}
use Rattle.uniqueness.proofs.Simulation.{HostWorld, Kind, is_off, is_verifying, kind, System, HostsSettled, HostsOneByOne, HostsFresh, Simulates}
use Rattle.uniqueness.proofs.Simulation.Deliveries.{AllStandFor}

kind_verifying : (s : Claim) → kind s ≡ is_verifying → (m : ℕ) × (d : ℕ) × (s ≡ verifying m d)
kind_verifying off e = clash cc
kind_verifying (verifying m d) e = (m, d, refl)
kind_verifying unique e = clash cc
kind_verifying stopped e = clash cc

kind_off : (s : Claim) → kind s ≡ is_off → s ≡ off
kind_off off e = refl
kind_off (verifying m d) e = clash cc
kind_off unique e = clash cc
kind_off stopped e = clash cc

pub verifying_on : {s : Claim} {m d : ℕ} → s ≡ verifying m d → s ≢ off
verifying_on e x = clash cc

pub unique_on : {s : Claim} → s ≡ unique → s ≢ off
unique_on e x = clash cc

module _ (H : LinkModel) where
  -- the accepted starts hs are those of the hosts that are not off
  pub record Starters (σ : ℕ → Claim) (hs : List ℕ) : Type 0 where
    pub on_link : (k : ℕ) → Memᴰ k hs → k < H.count
    pub unstarted : (k : ℕ) → k < H.count → ¬ (Memᴰ k hs) → σ k ≡ off
    pub was_started : (k : ℕ) → Memᴰ k hs → σ k ≢ off

  starters_more : {σ σ'' : ℕ → Claim} {hs : List ℕ} (h : ℕ) → h < H.count → Starters σ hs → σ'' h ≢ off → ((k : ℕ) → k ≢ h → σ'' k ≡ σ k)
      → Starters σ'' (h ∷ hs)
  starters_more {σ} {σ''} {hs} h lh M on else = record {
    on_link = λ k i. go₁ k (Memᴰ.cases_cons i);
    unstarted = λ k l ni. else k (λ e. ni (Memᴰ.head e)) ∙ M.unstarted k l (λ i. ni (Memᴰ.tail i));
    was_started = λ k i. dite (ℕ_discrete k h) (λ e x. on (ap σ'' (sym e) ∙ x)) (λ ne x. go₂ k ne (Memᴰ.cases_cons i) (sym (else k ne) ∙ x));
  }
    where
      go₁ : (k : ℕ) → (k ≡ h) ⊎ Memᴰ k hs → k < H.count
      go₁ k (inl e) = rw e lh
      go₁ k (inr i) = M.on_link k i

      go₂ : (k : ℕ) → k ≢ h → (k ≡ h) ⊎ Memᴰ k hs → σ k ≢ off
      go₂ k ne (inl e) = absurd (ne e)
      go₂ k ne (inr i) = M.was_started k i

  pub starters_same : {σ σ'' : ℕ → Claim} {hs : List ℕ} (h : ℕ) → Starters σ hs → σ h ≢ off → σ'' h ≢ off → ((k : ℕ) → k ≢ h → σ'' k ≡ σ k)
      → Starters σ'' hs
  starters_same {σ} {σ''} h M was on else = record {
    on_link = M.on_link;
    unstarted = λ k l ni. let x = M.unstarted k l ni in else k (λ e. was (ap σ (sym e) ∙ x)) ∙ x;
    was_started = λ k i. dite (ℕ_discrete k h) (λ e x. on (ap σ'' (sym e) ∙ x)) (λ ne x. M.was_started k i (sym (else k ne) ∙ x));
  }

  -- whoever has sent is not off
  sent_on : (σ σ'' : ℕ → Claim) (h s d : ℕ) → Send H σ h (verifying s d) σ'' → σ'' h ≢ off
  sent_on σ σ'' h s d S e = go (sent H σ σ'' h s d S)
    where
      go : Sent H σ h s d σ'' → ⊥
      go (Sent.lost x k lk ne b) = clash cc
      go (Sent.kept x no_one) = clash cc

  pub starters_first : {σ σ'' : ℕ → Claim} {hs : List ℕ} (h s d : ℕ) → h < H.count → Starters σ hs → Send H σ h (verifying s d) σ'' → Starters σ'' (h ∷ hs)
  starters_first {σ} {σ''} h s d lh M S = starters_more h lh M (sent_on σ σ'' h s d S) (sent_else S)

  pub starters_again : {σ σ'' : ℕ → Claim} {hs : List ℕ} (h s d : ℕ) → Starters σ hs → σ h ≢ off → Send H σ h (verifying s d) σ'' → Starters σ'' hs
  starters_again {σ} {σ''} h s d M on S = starters_same h M on (sent_on σ σ'' h s d S) (sent_else S)

  -- a host that verifies is due an interval after its last query
  abbrev pub DueAfter : (ℕ → Claim) → (ℕ → ℕ) → Type 0
  DueAfter σ queried = (k m d : ℕ) → k < H.count → σ k ≡ verifying m d → d ≡ queried k + H.interval

module _ {S B X Z G : Type 0} (A : System S B X Z G) where
  -- a world of the model and one of the hosts
  pub record Agree (W : World) (C : HostWorld S) : Type 0 where
    pub in_range : C.time ≤ A.latest
    pub stand : AllStandFor A C.time W.claims C.states
    pub dues : DueAfter A.link W.claims C.queried
    pub started_is : W.started ≡ C.started
    pub starters : Starters A.link W.claims W.started

module _ {S B X Z G : Type 0} (A : System S B X Z G) (R : Simulates A) where
  module _ (W : World) (C : HostWorld S) (M : Agree A W C) where
    pub observed_is : (k : ℕ) (s : Claim) → k < A.link.count → W.claims k ≡ s → A.ObservedAs k C.time (C.states k) (kind s)
    observed_is k s l e = R.observed k C.time s (C.states k) l M.in_range (rw e at (M.stand k l))

    observed_only : (k : ℕ) (x : Kind) → k < A.link.count → A.ObservedAs k C.time (C.states k) x → x ≡ kind (W.claims k)
    observed_only k x l e = R.only k C.time (W.claims k) (C.states k) x l M.in_range (M.stand k l) e

    pub observed_verifying : (k : ℕ) → k < A.link.count → A.ObservedAs k C.time (C.states k) is_verifying
        → (m : ℕ) × (d : ℕ) × (W.claims k ≡ verifying m d)
    observed_verifying k l e = kind_verifying (W.claims k) (sym (observed_only k is_verifying l e))

    -- h's state at a time no earlier than now
    pub stand_at : (h t : ℕ) → h < A.link.count → C.time ≤ t → A.StandsFor h t (W.claims h) (C.states h)
    stand_at h t lh le = R.later h C.time t (W.claims h) (C.states h) le (M.stand h lh)

    pub sent_dues : (h t m : ℕ) (queried' : ℕ → ℕ) (σ'' : ℕ → Claim) → Put C.queried h t queried'
        → Send A.link W.claims h (verifying m (t + A.link.interval)) σ'' → DueAfter A.link σ'' queried'
    sent_dues h t m queried' σ'' q S' k m' d l e =
        dite (ℕ_discrete k h)
        (λ p.
        let e' : σ'' h ≡ verifying m' d = cc in
        let x = at_h (sent A.link W.claims σ'' h m (t + A.link.interval) S') m' d e' in
        let y = q.here in
        let u : queried' k ≡ t = cc in
        omega arith)
        (λ ne.
        let x = M.dues k m' d l (sym (sent_else S' k ne) ∙ e) in
        let y = q.else k ne in
        omega arith)
      where
        at_h : Sent A.link W.claims h m (t + A.link.interval) σ'' → (m' d : ℕ) → σ'' h ≡ verifying m' d → d ≡ t + A.link.interval
        at_h (Sent.lost e k lk ne b) m' d e' = clash cc
        at_h (Sent.kept e no_one) m' d e' = cc

    pub settled_to : HostsSettled A C → Settled A.link W
    settled_to e = record {
      started = λ k l x. e.started k l (observed_is k off l x);
      rest = λ k s d l x. e.rest k l (observed_is k (verifying s d) l x);
    }

    pub settled_back : Settled A.link W → HostsSettled A C
    settled_back e = record {
      started = λ k l x. e.started k l (kind_off (W.claims k) (sym (observed_only k is_off l x)));
      rest = λ k l x. let (m, d, y) = observed_verifying k l x in e.rest k m d l y;
    }

  pub one_by_one_to : (w : ℕ) (W : World) (C : HostWorld S) (h : ℕ) → Agree A W C → HostsOneByOne A w C h → OneByOne w W h
  one_by_one_to w W C h M p = record {
    first = λ e. p.first (sym M.started_is ∙ e);
    next = λ l ls e s d x.
        let i : Memᴰ l W.started = rw e (Memᴰ.head refl) in
        p.next l ls (sym M.started_is ∙ e) (observed_is W C M l (verifying s d) (M.starters.on_link l i) x);
  }

  pub one_by_one_back : (w : ℕ) (W : World) (C : HostWorld S) (h : ℕ) → Agree A W C → OneByOne w W h → HostsOneByOne A w C h
  one_by_one_back w W C h M p = record {
    first = λ e. p.first (M.started_is ∙ e);
    next = λ l ls e x.
        let i : Memᴰ l W.started = rw (M.started_is, e) (Memᴰ.head refl) in
        let (m, d, y) = observed_verifying W C M l (M.starters.on_link l i) x in
        p.next l ls (M.started_is ∙ e) m d y;
  }

  pub fresh_agree : (C : HostWorld S) → HostsFresh A C → Agree A (set_up_at C.time) C
  fresh_agree C F = record {
    in_range = F.in_range;
    stand = F.all_off;
    dues = λ k m d l e. clash cc;
    started_is = sym F.none_yet;
    starters = record {
      on_link = λ k i. absurd (Memᴰ.not-nil i);
      unstarted = λ k l ni. refl;
      was_started = λ k i. absurd (Memᴰ.not-nil i);
    };
  }
