-- Where w starts first, and each other host once the one before does not verify, w ends as the owner. Such a list has three phases: nobody
-- has started; w verifies alone; w owns the name and whoever starts then stops at once.
use Rattle.std.proofs.Common.{◌≡◌, refl, ◌∙◌, ◌≢◌, ◌⊎◌, inl, inr, List, [], ◌∷◌, ℕ, suc, ◌+◌, ◌<◌}
use Rattle.std.proofs.Math.Logic.{dite}
use Rattle.std.proofs.Math.Decide.{ℕ_discrete}
use Rattle.uniqueness.proofs.Model.{Claim, off, verifying, unique, stopped, LinkModel, Put, Send, World, Event, host, Act, begin, again, won, unchanged, Run, stay, then, Fresh, Settled, Owns, OneByOne, clash}
use Rattle.uniqueness.proofs.Model.Deliveries.{Beats, by_unique, by_lower, Sent, sent, sent_else}

-- w verifies, and all others are off
pub record Alone (H : LinkModel) (w s d : ℕ) (σ : ℕ → Claim) : Type 0 where
  pub here : σ w ≡ verifying s d
  pub else : (k : ℕ) → k < H.count → k ≢ w → σ k ≡ off

-- w is unique, and all others are off or have stopped
pub record Owning (H : LinkModel) (w : ℕ) (σ : ℕ → Claim) : Type 0 where
  pub here : σ w ≡ unique
  pub else : (k : ℕ) → k < H.count → k ≢ w → (σ k ≡ off) ⊎ (σ k ≡ stopped)

no_beat : {H : LinkModel} {σ : ℕ → Claim} {a k : ℕ} → σ k ≡ off → Beats H σ a k → ⊥
no_beat e (by_unique e') = clash cc
no_beat e (by_lower s d e' l) = clash cc

-- one that asks while all others are off goes on verifying
pub alone_sends : (H : LinkModel) (w s d : ℕ) (σ σ'' : ℕ → Claim) → ((k : ℕ) → k < H.count → k ≢ w → σ k ≡ off) → Send H σ w (verifying s d) σ''
    → Alone H w s d σ''
alone_sends H w s d σ σ'' offs S = go (sent H σ σ'' w s d S)
  where
    go : Sent H σ w s d σ'' → Alone H w s d σ''
    go (Sent.lost e k l ne b) = absurd (no_beat (offs k l ne) b)
    go (Sent.kept e none) = record { here = e; else = λ k l ne. sent_else S k ne ∙ offs k l ne }

-- one that starts while w owns the name stops at once
pub owned_stops : (H : LinkModel) (w h s d : ℕ) (σ σ'' : ℕ → Claim) → w < H.count → Owning H w σ → σ h ≡ off → Send H σ h (verifying s d) σ''
    → Owning H w σ'' × (σ'' h ≡ stopped)
owned_stops H w h s d σ σ'' lw v e S = go (sent H σ σ'' h s d S)
  where
    ne : w ≢ h
    ne p = let x = v.here in clash cc

    go : Sent H σ h s d σ'' → Owning H w σ'' × (σ'' h ≡ stopped)
    go (Sent.lost e' k l nk b) = (
      record {
        here = sent_else S w ne ∙ v.here;
        else = λ k l nk. dite (ℕ_discrete k h) (λ p. inr (cc)) (λ p. rw (sent_else S k p) (v.else k l nk));
      },
      e',
    )
    go (Sent.kept e' none) = absurd (none w lw ne (by_unique v.here))

-- hs: the accepted starts
pub data Phase (H : LinkModel) (w : ℕ) (σ : ℕ → Claim) (hs : List ℕ) : Type 0 where
  idle : hs ≡ [] → ((k : ℕ) → k < H.count → σ k ≡ off) → Phase H w σ hs
  alone : (s d : ℕ) → hs ≡ w ∷ [] → Alone H w s d σ → Phase H w σ hs
  owned : (l : ℕ) (ls : List ℕ) → hs ≡ l ∷ ls → Owning H w σ → Phase H w σ hs

pub alone_only : {H : LinkModel} {w s d h s' d' : ℕ} {σ : ℕ → Claim} → h < H.count → Alone H w s d σ → σ h ≡ verifying s' d' → h ≡ w
alone_only {w = w} {h = h} l v e =
    dite (ℕ_discrete h w) (λ p. p) (λ ne. let x = v.else h l ne in clash cc)

pub owned_none : {H : LinkModel} {w h s d : ℕ} {σ : ℕ → Claim} → h < H.count → Owning H w σ → σ h ≡ verifying s d → ⊥
owned_none {w = w} {h} {s} {d} {σ} l v e =
    dite (ℕ_discrete h w) (λ p. let x = v.here in clash cc) (λ ne. go (v.else h l ne))
  where
    go : (σ h ≡ off) ⊎ (σ h ≡ stopped) → ⊥
    go (inl x) = clash cc
    go (inr x) = clash cc

phase_act : {H : LinkModel} {w : ℕ} {W : World} {e : Event} {σ'' : ℕ → Claim} {hs : List ℕ} → w < H.count → host e < H.count
    → Act H (OneByOne w) W e σ'' hs
    → Phase H w W.claims W.started → Phase H w σ'' hs
phase_act {H} {w} {W} {σ'' = σ''} lw lh (begin {h = h} {t = t} e p S) (idle eh offs) =
    let q : h ≡ w = p.first eh in
    alone 1 (t + H.interval) (cc) (alone_sends H w 1 (t + H.interval) W.claims σ'' (λ k l ne. offs k l) (rw q at S))
phase_act {H} {w} {W} {σ'' = σ''} lw lh (begin {h = h} {t = t} e p S) (alone s d eh v) = absurd (p.next w [] eh s d v.here)
phase_act {H} {w} {W} {σ'' = σ''} lw lh (begin {h = h} {t = t} e p S) (owned l ls eh v) =
    owned h W.started refl (owned_stops H w h 1 (t + H.interval) W.claims σ'' lw v e S).0
phase_act {H} {w} {W} {σ'' = σ''} lw lh (again {h = h} {t = t} s d e due lt S) (idle eh offs) =
    let x = offs h lh in clash cc
phase_act {H} {w} {W} {σ'' = σ''} lw lh (again {h = h} {t = t} s d e due lt S) (alone s₀ d₀ eh v) =
    let q : h ≡ w = alone_only lh v e in
    alone (suc s) (t + H.interval) eh (alone_sends H w (suc s) (t + H.interval) W.claims σ'' v.else (rw q at S))
phase_act lw lh (again s d e due lt S) (owned l ls eh v) = absurd (owned_none lh v e)
phase_act lw lh (won {h = h} s d e due le put) (idle eh offs) = let x = offs h lh in clash cc
phase_act {H} {w} {W} {σ'' = σ''} lw lh (won {h = h} s d e due le put) (alone s₀ d₀ eh v) =
    let q : h ≡ w = alone_only lh v e in
    let put' : Put W.claims w unique σ'' = rw q at put in
    owned w [] eh (record { here = put'.here; else = λ k l ne. inl (put'.else k ne ∙ v.else k l ne) })
phase_act lw lh (won s d e due le put) (owned l ls eh v) = absurd (owned_none lh v e)
phase_act lw lh unchanged ph = ph

phase_run : {H : LinkModel} {w : ℕ} {W W' : World} {es : List Event} → w < H.count → Run H (OneByOne w) W es W'
    → Phase H w W.claims W.started → Phase H w W'.claims W'.started
phase_run lw stay ph = ph
phase_run lw (then S R) ph = phase_run lw R (phase_act lw S.on_link S.act ph)

-- the owner of such a list is the host that starts first
pub first_owns : {H : LinkModel} {w : ℕ} {W W' : World} {es : List Event} → w < H.count → Fresh H W → Run H (OneByOne w) W es W' → Settled H W'
    → Owns H w W'
first_owns {H} {w} {W} {W'} lw F R e = go (phase_run lw R (idle F.none F.all_off))
  where
    stop : (k : ℕ) → k < H.count → (W'.claims k ≡ off) ⊎ (W'.claims k ≡ stopped) → W'.claims k ≡ stopped
    stop k l (inl x) = absurd (e.started k l x)
    stop k l (inr x) = x

    go : Phase H w W'.claims W'.started → Owns H w W'
    go (idle eh offs) = absurd (e.started w lw (offs w lw))
    go (alone s d eh v) = absurd (e.rest w s d lw v.here)
    go (owned l ls eh v) = record { on_link = lw; owns = v.here; others = λ k l ne. stop k l (v.else k l ne) }
