-- What one event does to the claims is one of four things: nothing; a host becomes unique; a host sends its query and loses; a host sends
-- its query and goes on verifying.
use Rattle.std.proofs.Common.{◌≡◌, refl, ◌≢◌, List, ℕ, suc, ◌+◌, ◌≤◌, ◌<◌, arith}
use Rattle.host.specs.Bounds.{sends_in_all}
use Rattle.uniqueness.proofs.Model.{Claim, off, verifying, unique, stopped, LinkModel, Put, Send, World, Event, time, host, OnTime, Act, begin, again, won, unchanged, Step}
use Rattle.uniqueness.proofs.Model.Deliveries.{Beats, Sent, sent, sent_else}

-- h sends its query number s at time t: its first, or the next one, when it is due
pub data From (σ : ℕ → Claim) (h t s : ℕ) : Type 0 where
  fresh : σ h ≡ off → s ≡ 1 → From σ h t s
  more : (s₀ d : ℕ) → σ h ≡ verifying s₀ d → d ≡ t → s₀ < sends_in_all → s ≡ suc s₀ → From σ h t s

pub data Change (H : LinkModel) (σ : ℕ → Claim) (t : ℕ) (σ' : ℕ → Claim) : Type 0 where
  same : ((k : ℕ) → σ' k ≡ σ k) → Change H σ t σ'
  turns_unique : (h s d : ℕ) → h < H.count → σ h ≡ verifying s d → d ≡ t → sends_in_all ≤ s → Put σ h unique σ' → Change H σ t σ'
  loses : (h s k : ℕ) → h < H.count → From σ h t s → k < H.count → k ≢ h → Beats H σ h k → Put σ h stopped σ' → Change H σ t σ'
  checks : (h s : ℕ) → h < H.count → From σ h t s → ((k : ℕ) → k < H.count → k ≢ h → ¬ (Beats H σ h k)) → Put σ h (verifying s (t + H.interval)) σ'
      → Change H σ t σ'

sending : (H : LinkModel) (σ σ' : ℕ → Claim) (h s t : ℕ) → h < H.count → From σ h t s → Send H σ h (verifying s (t + H.interval)) σ'
    → Change H σ t σ'
sending H σ σ' h s t l f S = go (sent H σ σ' h s (t + H.interval) S)
  where
    go : Sent H σ h s (t + H.interval) σ' → Change H σ t σ'
    go (Sent.lost e k lk ne b) = loses h s k l f lk ne b (record { here = e; else = sent_else S })
    go (Sent.kept e none) = checks h s l f none (record { here = e; else = sent_else S })

acting : {H : LinkModel} {P : World → ℕ → Type 0} {W : World} {e : Event} {σ' : ℕ → Claim} {hs : List ℕ} → host e < H.count → OnTime H W (time e)
    → Act H P W e σ' hs → Change H W.claims (time e) σ'
acting {H} {P} {W} {σ' = σ'} l ot (begin {h = h} {t = t} e p S) = sending H W.claims σ' h 1 t l (fresh e refl) S
acting {H} {P} {W} {σ' = σ'} l ot (again {h = h} {t = t} s d e due lt S) =
    let upto : t ≤ d = ot.due h s d l e in
    sending H W.claims σ' h (suc s) t l (more s d e (omega arith) lt refl) S
acting l ot (won {h = h} {t = t} s d e due le put) =
    let upto : t ≤ d = ot.due h s d l e in
    turns_unique h s d l e (omega arith) le put
acting l ot unchanged = same (λ k. refl)

pub change : {H : LinkModel} {P : World → ℕ → Type 0} {W W' : World} {e : Event} → Step H P W e W' → Change H W.claims (time e) W'.claims
change S = acting S.on_link S.on_time S.act
