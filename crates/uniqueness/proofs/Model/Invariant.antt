-- THE INVARIANT. Its heart is order: for a below b, both verifying, due b + sends a * interval ≤ due a + interval, because b's last query
-- came before a's start, or a would have stopped b. So never do two verifying hosts both have three sends; with a unique host about,
-- whoever verifies has at most two sends and stops at its next query; and the lowest address stops only for a unique host.
-- Each of the four changes keeps it.
use Rattle.std.proofs.Common.{◌≡◌, sym, ◌∙◌, ap, ◌≢◌, List, ℕ, suc, ◌+◌, ◌*◌, ◌≤◌, ◌<◌, arith, le_of_mul-le-mul_right, mul-le-mul_right}
use Rattle.std.proofs.Math.Logic.{dite}
use Rattle.std.proofs.Math.Decide.{ℕ_discrete, dec_lt}
use Rattle.host.specs.Bounds.{sends_in_all}
use Rattle.uniqueness.proofs.Model.{Claim, verifying, unique, stopped, LinkModel, Put, World, Event, time, Step, Run, stay, then, Fresh, clash}
use Rattle.uniqueness.proofs.Model.Deliveries.{Beats, by_unique, by_lower}
use Rattle.uniqueness.proofs.Model.Changes.{From, fresh, more, Change, same, turns_unique, loses, checks, change}

-- of a host that has sent s queries and is due at d, on a link that was set up at t₀
pub record Range (H : LinkModel) (t₀ now s d : ℕ) : Type 0 where
  pub least : 1 ≤ s
  pub most : s ≤ sends_in_all
  pub ahead : now ≤ d
  pub soon : d ≤ now + H.interval
  pub since : t₀ + s * H.interval ≤ d

pub record Invariant (H : LinkModel) (t₀ now : ℕ) (σ : ℕ → Claim) : Type 0 where
  pub begun : t₀ ≤ now
  -- never two unique hosts
  pub one : (j k : ℕ) → j < H.count → k < H.count → σ j ≡ unique → σ k ≡ unique → j ≡ k
  -- with a unique host about, whoever verifies has not sent all its queries
  pub early : (j k s d : ℕ) → j < H.count → k < H.count → σ j ≡ unique → σ k ≡ verifying s d → s < sends_in_all
  -- of two that verify, a below b
  pub order : (a b s d s' d' : ℕ) → a < H.count → b < H.count → H.address a < H.address b → σ a ≡ verifying s d → σ b ≡ verifying s' d'
      → d' + s * H.interval ≤ d + H.interval
  pub range : (k s d : ℕ) → k < H.count → σ k ≡ verifying s d → Range H t₀ now s d
  -- the lowest host stops only for a unique one
  pub floor : (l : ℕ) → l < H.count → ((k : ℕ) → k < H.count → H.address l ≤ H.address k) → σ l ≡ stopped
      → (k : ℕ) × (k < H.count) × (σ k ≡ unique)
  -- to become unique takes all the intervals
  pub owned : (k : ℕ) → k < H.count → σ k ≡ unique → t₀ + sends_in_all * H.interval ≤ now

module _ (H : LinkModel) (t₀ now t : ℕ) (σ σ' : ℕ → Claim) (i : Invariant H t₀ now σ) (later : now ≤ t)
    (due : (k s d : ℕ) → k < H.count → σ k ≡ verifying s d → t ≤ d) where
  old_range : (k s d : ℕ) → k < H.count → σ k ≡ verifying s d → Range H t₀ t s d
  old_range k s d l e =
      let r = i.range k s d l e in
      let u = due k s d l e in
      record { least = r.least; most = r.most; ahead = u; soon = omega arith; since = r.since }

  old_owned : (k : ℕ) → k < H.count → σ k ≡ unique → t₀ + sends_in_all * H.interval ≤ t
  old_owned k l e = let r = i.owned k l e in omega arith

  begun_still : t₀ ≤ t
  begun_still = let r = i.begun in omega arith

  keeps_same : ((k : ℕ) → σ' k ≡ σ k) → Invariant H t₀ t σ'
  keeps_same eq = record {
    begun = begun_still;
    one = λ j k lj lk ej ek. i.one j k lj lk (sym (eq j) ∙ ej) (sym (eq k) ∙ ek);
    early = λ j k s d lj lk ej ek. i.early j k s d lj lk (sym (eq j) ∙ ej) (sym (eq k) ∙ ek);
    order = λ a b s d s' d' la lb lt ea eb. i.order a b s d s' d' la lb lt (sym (eq a) ∙ ea) (sym (eq b) ∙ eb);
    range = λ k s d l e. old_range k s d l (sym (eq k) ∙ e);
    floor = λ l ll low e. let (k, lk, ek) = i.floor l ll low (sym (eq l) ∙ e) in (k, lk, eq k ∙ ek);
    owned = λ k l e. old_owned k l (sym (eq k) ∙ e);
  }

  module _ (h : ℕ) (lh : h < H.count) where
    -- a host whose new state is none that h can have is another host, in its old state
    back : {x y : Claim} (k : ℕ) → Put σ h x σ' → ((x ≡ y) → ⊥) → σ' k ≡ y → (k ≢ h) × (σ k ≡ y)
    back {x} {y} k put ne e = dite (ℕ_discrete k h) (λ p. let z : x ≡ y = cc in absurd (ne z)) (λ p. (p, sym (put.else k p) ∙ e))

    module _ (s d : ℕ) (eh : σ h ≡ verifying s d) (dt : d ≡ t) (all : sends_in_all ≤ s) (put : Put σ h unique σ') where
      no_other : (k : ℕ) → k < H.count → σ k ≡ unique → ⊥
      no_other k lk e = let x : s < sends_in_all = i.early k h s d lk lh e eh in omega arith

      not_verifying : (s' d' : ℕ) → unique ≡ verifying s' d' → ⊥
      not_verifying s' d' e = clash cc

      late : (k s' d' : ℕ) → k < H.count → k ≢ h → σ k ≡ verifying s' d' → s' < sends_in_all
      late k s' d' lk ne e =
          dite (dec_lt (H.address k) (H.address h))
          (λ lt.
          let o = i.order k h s' d' s d lk lh lt e eh in
          let r = i.range k s' d' lk e in
          let m : suc s' * H.interval ≤ sends_in_all * H.interval = omega arith in
          le_of_mul-le-mul_right m H.positive)
          (λ ge.
          dite (dec_lt (H.address h) (H.address k))
          (λ lt.
          let o = i.order h k s d s' d' lh lk lt eh e in
          let u = due k s' d' lk e in
          let p = H.positive in
          let m : sends_in_all * H.interval ≤ s * H.interval = mul-le-mul_right H.interval all in
          absurd (omega arith))
          (λ ge'. absurd (ne (H.apart k h lk lh (omega arith)))))

      keeps_unique : Invariant H t₀ t σ'
      keeps_unique = record {
        begun = begun_still;
        one = λ j k lj lk ej ek.
            dite (ℕ_discrete j h)
            (λ pj. dite (ℕ_discrete k h) (λ pk. pj ∙ sym pk) (λ pk. absurd (no_other k lk (sym (put.else k pk) ∙ ek))))
            (λ pj. absurd (no_other j lj (sym (put.else j pj) ∙ ej)));
        early = λ j k s' d' lj lk ej ek. let (ne, e) = back k put (not_verifying s' d') ek in late k s' d' lk ne e;
        order = λ a b s₁ d₁ s₂ d₂ la lb lt ea eb.
            i.order a b s₁ d₁ s₂ d₂ la lb lt (back a put (not_verifying s₁ d₁) ea).1 (back b put (not_verifying s₂ d₂) eb).1;
        range = λ k s' d' l e. old_range k s' d' l (back k put (not_verifying s' d') e).1;
        floor = λ l ll low e. (h, lh, put.here);
        owned = λ k l e.
            dite (ℕ_discrete k h)
            (λ p.
            let r = (i.range h s d lh eh).since in
            let m : sends_in_all * H.interval ≤ s * H.interval = mul-le-mul_right H.interval all in
            omega arith)
            (λ p. old_owned k l (sym (put.else k p) ∙ e));
      }

    not_unique : (s : ℕ) → From σ h t s → σ h ≢ unique
    not_unique s (fresh e e') u = clash cc
    not_unique s (more s₀ d e e' l e'') u = clash cc

    keeps : {x : Claim} (k s : ℕ) → From σ h t s → Put σ h x σ' → σ k ≡ unique → σ' k ≡ unique
    keeps k s f put e = put.else k (λ p. not_unique s f (cc)) ∙ e

    module _ (s k₀ : ℕ) (f : From σ h t s) (l₀ : k₀ < H.count) (ne₀ : k₀ ≢ h) (b : Beats H σ h k₀) (put : Put σ h stopped σ') where
      stopped_verifying : (s' d' : ℕ) → stopped ≡ verifying s' d' → ⊥
      stopped_verifying s' d' e = clash cc

      stopped_unique : stopped ≡ unique → ⊥
      stopped_unique e = clash cc

      beaten : ((k : ℕ) → k < H.count → H.address h ≤ H.address k) → Beats H σ h k₀ → (k : ℕ) × (k < H.count) × (σ' k ≡ unique)
      beaten low (by_unique e) = (k₀, l₀, put.else k₀ ne₀ ∙ e)
      beaten low (by_lower s' d' e lt) = let x = low k₀ l₀ in absurd (omega arith)

      keeps_loses : Invariant H t₀ t σ'
      keeps_loses = record {
        begun = begun_still;
        one = λ j k lj lk ej ek. i.one j k lj lk (back j put stopped_unique ej).1 (back k put stopped_unique ek).1;
        early = λ j k s' d' lj lk ej ek. i.early j k s' d' lj lk (back j put stopped_unique ej).1 (back k put (stopped_verifying s' d') ek).1;
        order = λ a b s₁ d₁ s₂ d₂ la lb lt ea eb.
            i.order a b s₁ d₁ s₂ d₂ la lb lt (back a put (stopped_verifying s₁ d₁) ea).1 (back b put (stopped_verifying s₂ d₂) eb).1;
        range = λ k s' d' l e. old_range k s' d' l (back k put (stopped_verifying s' d') e).1;
        floor = λ l ll low e.
            dite (ℕ_discrete l h)
            (λ p. beaten (λ k lk. let q : H.address h ≡ H.address l = cc in let x = low k lk in omega arith) b)
            (λ p. let (k, lk, ek) = i.floor l ll low (sym (put.else l p) ∙ e) in (k, lk, keeps k s f put ek));
        owned = λ k l e. old_owned k l (back k put stopped_unique e).1;
      }

    module _ (s : ℕ) (f : From σ h t s) (none : (k : ℕ) → k < H.count → k ≢ h → ¬ (Beats H σ h k))
        (put : Put σ h (verifying s (t + H.interval)) σ') where
      new_unique : verifying s (t + H.interval) ≡ unique → ⊥
      new_unique e = clash cc

      new_stopped : verifying s (t + H.interval) ≡ stopped → ⊥
      new_stopped e = clash cc

      new_range : From σ h t s → Range H t₀ t s (t + H.interval)
      new_range (fresh e e') =
          let b = begun_still in
          let m : s * H.interval ≡ 1 * H.interval = ap (λ x. x * H.interval) e' in
          record { least = omega arith; most = omega arith; ahead = omega arith; soon = omega arith; since = omega arith }
      new_range (more s₀ d e e' l e'') =
          let r = i.range h s₀ d lh e in
          let m : s * H.interval ≡ suc s₀ * H.interval = ap (λ x. x * H.interval) e'' in
          record { least = omega arith; most = omega arith; ahead = omega arith; soon = omega arith; since = omega arith }

      -- h against a higher host b
      above : (b s₂ d₂ : ℕ) → b < H.count → H.address h < H.address b → σ b ≡ verifying s₂ d₂ → From σ h t s
          → d₂ + s * H.interval ≤ (t + H.interval) + H.interval
      above b s₂ d₂ lb lt eb (fresh e e') =
          let r = i.range b s₂ d₂ lb eb in
          let m : s * H.interval ≡ 1 * H.interval = ap (λ x. x * H.interval) e' in
          omega arith
      above b s₂ d₂ lb lt eb (more s₀ d e e' l e'') =
          let o = i.order h b s₀ d s₂ d₂ lh lb lt e eb in
          let m : s * H.interval ≡ suc s₀ * H.interval = ap (λ x. x * H.interval) e'' in
          omega arith

      new_order : (a b s₁ d₁ s₂ d₂ : ℕ) → a < H.count → b < H.count → H.address a < H.address b → σ' a ≡ verifying s₁ d₁ → σ' b ≡ verifying s₂ d₂
          → d₂ + s₁ * H.interval ≤ d₁ + H.interval
      new_order a b s₁ d₁ s₂ d₂ la lb lt ea eb =
          dite (ℕ_discrete a h)
          (λ pa.
          dite (ℕ_discrete b h)
          (λ pb. let q : H.address a ≡ H.address b = cc in absurd (omega arith))
          (λ pb.
          let q : H.address a ≡ H.address h = cc in
          let qs : s ≡ s₁ = cc in
          let qd : t + H.interval ≡ d₁ = cc in
          let m : s * H.interval ≡ s₁ * H.interval = ap (λ x. x * H.interval) qs in
          let u = above b s₂ d₂ lb (omega arith) (sym (put.else b pb) ∙ eb) f in
          omega arith))
          (λ pa.
          let oa : σ a ≡ verifying s₁ d₁ = sym (put.else a pa) ∙ ea in
          dite (ℕ_discrete b h)
          (λ pb. let q : H.address b ≡ H.address h = cc in absurd (none a la pa (by_lower s₁ d₁ oa (omega arith))))
          (λ pb. i.order a b s₁ d₁ s₂ d₂ la lb lt oa (sym (put.else b pb) ∙ eb)))

      keeps_checks : Invariant H t₀ t σ'
      keeps_checks = record {
        begun = begun_still;
        one = λ j k lj lk ej ek. i.one j k lj lk (back j put new_unique ej).1 (back k put new_unique ek).1;
        early = λ j k s' d' lj lk ej ek.
            let (ne, e) = back j put new_unique ej in
            dite (ℕ_discrete k h) (λ p. absurd (none j lj ne (by_unique e))) (λ p. i.early j k s' d' lj lk e (sym (put.else k p) ∙ ek));
        order = new_order;
        range = λ k s' d' l e.
            dite (ℕ_discrete k h)
            (λ p.
            let qs : s ≡ s' = cc in
            let qd : t + H.interval ≡ d' = cc in
            rw (← qs, ← qd) (new_range f))
            (λ p. old_range k s' d' l (sym (put.else k p) ∙ e));
        floor = λ l ll low e.
            let (k, lk, ek) = i.floor l ll low (back l put new_stopped e).1 in
            (k, lk, keeps k s f put ek);
        owned = λ k l e. old_owned k l (back k put new_unique e).1;
      }

  keeps_change : Change H σ t σ' → Invariant H t₀ t σ'
  keeps_change (same eq) = keeps_same eq
  keeps_change (turns_unique h s d lh e dt all put) = keeps_unique h lh s d e dt all put
  keeps_change (loses h s k lh f lk ne b put) = keeps_loses h lh s k f lk ne b put
  keeps_change (checks h s lh f none put) = keeps_checks h lh s f none put

invariant_step : (H : LinkModel) (P : World → ℕ → Type 0) (t₀ : ℕ) (W W' : World) (e : Event) → Step H P W e W'
    → Invariant H t₀ W.time W.claims
    → Invariant H t₀ W'.time W'.claims
invariant_step H P t₀ W W' e S i =
    rw S.clock (keeps_change H t₀ W.time (time e) W.claims W'.claims i S.on_time.later S.on_time.due (change S))

pub invariant_run : {H : LinkModel} {P : World → ℕ → Type 0} {W W' : World} {es : List Event} (t₀ : ℕ) → Run H P W es W'
    → Invariant H t₀ W.time W.claims
    → Invariant H t₀ W'.time W'.claims
invariant_run t₀ stay i = i
invariant_run {H} {P} {W} t₀ (then {W' = W₁} {e = e} S R) i = invariant_run t₀ R (invariant_step H P t₀ W W₁ e S i)

pub invariant_fresh : (H : LinkModel) (W : World) → Fresh H W → Invariant H W.time W.time W.claims
invariant_fresh H W F = record {
  begun = omega arith;
  one = λ j k lj lk ej ek. let x = F.all_off j lj in clash cc;
  early = λ j k s d lj lk ej ek. let x = F.all_off j lj in clash cc;
  order = λ a b s d s' d' la lb lt ea eb. let x = F.all_off a la in clash cc;
  range = λ k s d l e. let x = F.all_off k l in clash cc;
  floor = λ l ll low e. let x = F.all_off l ll in clash cc;
  owned = λ k l e. let x = F.all_off k l in clash cc;
}
