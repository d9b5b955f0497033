-- After any list of events, once all are started and none verifies, exactly one host owns the name: each is unique or stopped, two are not
-- unique, and if the lowest has stopped there is a unique one.
use Rattle.std.proofs.Common.{◌≡◌, refl, ap, ◌≢◌, ◌⊎◌, inl, inr, List, ℕ, zero, suc, ◌≤◌, ◌<◌, arith}
use Rattle.std.proofs.Math.Logic.{dite}
use Rattle.std.proofs.Math.Decide.{ℕ_discrete, dec_lt}
use Rattle.uniqueness.proofs.Model.{Claim, off, verifying, unique, stopped, LinkModel, World, Event, Run, Fresh, Settled, OneOwner}
use Rattle.uniqueness.proofs.Model.Invariant.{Invariant, invariant_run, invariant_fresh}

pub record Lowest (f : ℕ → ℕ) (n : ℕ) : Type 0 where
  pub at : ℕ
  pub below : at < n
  pub low : (k : ℕ) → k < n → f at ≤ f k

lowest : (f : ℕ → ℕ) (n : ℕ) → Lowest f (suc n)
lowest f zero = record { at = 0; below = omega arith; low = λ k l. let e : k ≡ 0 = omega arith in rw e (omega arith) }
lowest f (suc n) = go (lowest f n)
  where
    go : Lowest f (suc n) → Lowest f (suc (suc n))
    go o =
        dite (dec_lt (f (suc n)) (f o.at))
        (λ lt. record {
          at = suc n;
          below = omega arith;
          low = λ k l. dite (ℕ_discrete k (suc n)) (λ e. rw e (omega arith)) (λ ne. let x = o.low k (omega arith) in omega arith);
        })
        (λ ge. record {
          at = o.at;
          below = omega arith;
          low = λ k l.
              dite (ℕ_discrete k (suc n)) (λ e. let q : f k ≡ f (suc n) = ap f e in omega arith) (λ ne. o.low k (omega arith));
        })

lowest_pos : (f : ℕ → ℕ) (n : ℕ) → 0 < n → Lowest f n
lowest_pos f zero l = absurd (omega arith)
lowest_pos f (suc n) l = lowest f n

pub ends : (s : Claim) → s ≢ off → ((m d : ℕ) → s ≢ verifying m d) → (s ≡ unique) ⊎ (s ≡ stopped)
ends off a b = absurd (a refl)
ends (verifying m d) a b = absurd (b m d refl)
ends unique a b = inl refl
ends stopped a b = inr refl

module _ (H : LinkModel) (W : World) (t₀ : ℕ) (i : Invariant H t₀ W.time W.claims) (e : Settled H W) where
  end_of : (k : ℕ) → k < H.count → (W.claims k ≡ unique) ⊎ (W.claims k ≡ stopped)
  end_of k l = ends (W.claims k) (e.started k l) (λ s d. e.rest k s d l)

  an_owner : (k : ℕ) × (k < H.count) × (W.claims k ≡ unique)
  an_owner = go (end_of o.at o.below)
    where
      o : Lowest H.address H.count
      o = lowest_pos H.address H.count H.some

      go : (W.claims o.at ≡ unique) ⊎ (W.claims o.at ≡ stopped) → (k : ℕ) × (k < H.count) × (W.claims k ≡ unique)
      go (inl u) = (o.at, o.below, u)
      go (inr s) = i.floor o.at o.below o.low s

  one_of : (k : ℕ) × (k < H.count) × (W.claims k ≡ unique) → OneOwner H W
  one_of (w, l, u) = record {
    owner = w;
    owns = record { on_link = l; owns = u; others = λ k lk ne. go k lk ne (end_of k lk) };
    only = λ k lk ek. i.one k w lk l ek u;
  }
    where
      go : (k : ℕ) → k < H.count → k ≢ w → (W.claims k ≡ unique) ⊎ (W.claims k ≡ stopped) → W.claims k ≡ stopped
      go k lk ne (inl ek) = absurd (ne (i.one k w lk l ek u))
      go k lk ne (inr ek) = ek

pub one_owner : {H : LinkModel} {P : World → ℕ → Type 0} {W W' : World} {es : List Event} → Fresh H W → Run H P W es W' → Settled H W' → OneOwner H W'
one_owner {H} {W = W} {W' = W'} F R e =
    let i = invariant_run W.time R (invariant_fresh H W F) in
    one_of H W' W.time i e (an_owner H W' W.time i e)
