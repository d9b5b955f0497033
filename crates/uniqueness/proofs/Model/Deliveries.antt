-- What is left of a host's claim once its query and the replies to it are delivered, whatever the order: the asker has stopped if some host
-- beats it, else it goes on verifying; and nobody else's claim changes. A message is a hit if it stops the asker or calls forth one
-- that does; taking one message out of the list for those that it calls forth keeps whether there is a hit.
use Rattle.std.proofs.Common.{◌≡◌, refl, sym, ◌∙◌, ap, subst, ◌≢◌, ◌⊎◌, inl, inr, Bool, true, false, List, [], ◌∷◌, ◌++◌, ℕ, zero, suc, ◌<◌, arith, le_of_suc-le-suc, eq-or-lt_of_le}
use mathlib.Core.List.{Memᴰ}
use Rattle.std.proofs.Math.Decide.{ℕ_discrete, dec_lt}
use mathlib.Core.List.Memᴰ
use Rattle.uniqueness.proofs.Model.{Claim, off, verifying, unique, stopped, LinkModel, Message, query, reply, answer, after_reply, yield, Delivery, done, asked, taken_in, queries, unless, Send, send, clash}

-- host k's answer stops the asker a
pub data Beats (H : LinkModel) (σ : ℕ → Claim) (a k : ℕ) : Type 0 where
  by_unique : σ k ≡ unique → Beats H σ a k
  by_lower : (s d : ℕ) → σ k ≡ verifying s d → H.address k < H.address a → Beats H σ a k

-- a message that stops the asker a, or calls forth one that does
abbrev pub Hit : LinkModel → (ℕ → Claim) → ℕ → Message → Type 0
Hit H σ a (query k) = Beats H σ a k
Hit H σ a (reply k true) = H.address k < H.address a
Hit H σ a (reply k false) = Unit {0}

pub others : {H : LinkModel} {a : ℕ} {σ σ'' : ℕ → Claim} {ms : List Message} → Delivery H a σ ms σ'' → (k : ℕ) → k ≢ a → σ'' k ≡ σ k
others done k ne = refl
others (asked l r j D) k ne = others D k ne
others (taken_in σ' l r j t put D) k ne = others D k ne ∙ put.else k ne

stopped_stays : (own source : ℕ) (t : Bool) (s : Claim) → s ≡ stopped → after_reply own source t s ≡ stopped
stopped_stays own source t off e = cc
stopped_stays own source true (verifying s d) e = clash cc
stopped_stays own source false (verifying s d) e = refl
stopped_stays own source t unique e = cc
stopped_stays own source t stopped e = refl

stays_stopped : {H : LinkModel} {a : ℕ} {σ σ'' : ℕ → Claim} {ms : List Message} → Delivery H a σ ms σ'' → σ a ≡ stopped → σ'' a ≡ stopped
stays_stopped done e = e
stays_stopped (asked l r j D) e = stays_stopped D e
stays_stopped {H} {a} {σ} (taken_in σ' l r j t put D) e = stays_stopped D (put.here ∙ stopped_stays (H.address a) (H.address j) t (σ a) e)

data Outcome (H : LinkModel) (σ : ℕ → Claim) (a s d : ℕ) (ms : List Message) (σ'' : ℕ → Claim) : Type 0 where
  lost : σ'' a ≡ stopped → (m : Message) → Memᴰ m ms → Hit H σ a m → Outcome H σ a s d ms σ''
  kept : σ'' a ≡ verifying s d → ((m : Message) → Memᴰ m ms → ¬ (Hit H σ a m)) → Outcome H σ a s d ms σ''

module _ (H : LinkModel) (σ₀ : ℕ → Claim) (a : ℕ) where
  answer_hits : (k : ℕ) (s : Claim) → σ₀ k ≡ s → (m : Message) → Memᴰ m (answer k s) → Hit H σ₀ a m → Beats H σ₀ a k
  answer_hits k off e m i h = absurd (Memᴰ.not-nil i)
  answer_hits k (verifying s d) e m i h = by_lower s d e (subst (λ x. Hit H σ₀ a x) (Memᴰ.eq_of_singleton i) h)
  answer_hits k unique e m i h = by_unique e
  answer_hits k stopped e m i h = absurd (Memᴰ.not-nil i)

  hits_answer : (k : ℕ) (s : Claim) → σ₀ k ≡ s → Beats H σ₀ a k → (m : Message) × Memᴰ m (answer k s) × Hit H σ₀ a m
  hits_answer k off e (by_unique e') = clash cc
  hits_answer k off e (by_lower s d e' l) = clash cc
  hits_answer k (verifying s d) e (by_unique e') = clash cc
  hits_answer k (verifying s d) e (by_lower s' d' e' l) = (reply k true, Memᴰ.head refl, l)
  hits_answer k unique e b = (reply k false, Memᴰ.head refl, tt)
  hits_answer k stopped e (by_unique e') = clash cc
  hits_answer k stopped e (by_lower s d e' l) = clash cc

  -- one message m₀ between l and r is taken out and the messages new put in its place
  swap_one : {s d : ℕ} {σ'' : ℕ → Claim} (l r new : List Message) (m₀ : Message)
      → ((m : Message) → Memᴰ m new → Hit H σ₀ a m → Hit H σ₀ a m₀)
      → (Hit H σ₀ a m₀ → (m : Message) × Memᴰ m new × Hit H σ₀ a m)
      → Outcome H σ₀ a s d (l ++ (new ++ r)) σ'' → Outcome H σ₀ a s d (l ++ (m₀ ∷ r)) σ''
  swap_one {s} {d} {σ''} l r new m₀ up down (lost e m i h) = go (Memᴰ.append_cases l i)
    where
      go₂ : Memᴰ m new ⊎ Memᴰ m r → Outcome H σ₀ a s d (l ++ (m₀ ∷ r)) σ''
      go₂ (inl i₂) = lost e m₀ (Memᴰ.append_right l (Memᴰ.head refl)) (up m i₂ h)
      go₂ (inr i₂) = lost e m (Memᴰ.append_right l (Memᴰ.tail i₂)) h

      go : Memᴰ m l ⊎ Memᴰ m (new ++ r) → Outcome H σ₀ a s d (l ++ (m₀ ∷ r)) σ''
      go (inl i₁) = lost e m (Memᴰ.append_left (m₀ ∷ r) i₁) h
      go (inr i₁) = go₂ (Memᴰ.append_cases new i₁)
  swap_one l r new m₀ up down (kept e none) = kept e (λ m i h. go m h (Memᴰ.append_cases l i))
    where
      go₂ : (m : Message) → Hit H σ₀ a m → (m ≡ m₀) ⊎ Memᴰ m r → ⊥
      go₂ m h (inl e₂) =
          let (m₁, i₁, h₁) = down (subst (λ x. Hit H σ₀ a x) e₂ h) in
          none m₁ (Memᴰ.append_right l (Memᴰ.append_left r i₁)) h₁
      go₂ m h (inr i₂) = none m (Memᴰ.append_right l (Memᴰ.append_right new i₂)) h

      go : (m : Message) → Hit H σ₀ a m → Memᴰ m l ⊎ Memᴰ m (m₀ ∷ r) → ⊥
      go m h (inl i₁) = none m (Memᴰ.append_left (new ++ r) i₁) h
      go m h (inr i₁) = go₂ m h (Memᴰ.cases_cons i₁)

  no_query : (k j : ℕ) (s : Claim) → Memᴰ (query j) (answer k s) → ⊥
  no_query k j off i = Memᴰ.not-nil i
  no_query k j (verifying s d) i = let e = Memᴰ.eq_of_singleton i in clash cc
  no_query k j unique i = let e = Memᴰ.eq_of_singleton i in clash cc
  no_query k j stopped i = Memᴰ.not-nil i

  far_swap : (l r new : List Message) (m₀ : Message) → ((k : ℕ) → ¬ (Memᴰ (query k) new))
      → ((k : ℕ) → Memᴰ (query k) (l ++ (m₀ ∷ r)) → k ≢ a) → (k : ℕ) → Memᴰ (query k) (l ++ (new ++ r)) → k ≢ a
  far_swap l r new m₀ none far k i = go (Memᴰ.append_cases l i)
    where
      go₂ : Memᴰ (query k) new ⊎ Memᴰ (query k) r → k ≢ a
      go₂ (inl i₂) = absurd (none k i₂)
      go₂ (inr i₂) = far k (Memᴰ.append_right l (Memᴰ.tail i₂))

      go : Memᴰ (query k) l ⊎ Memᴰ (query k) (new ++ r) → k ≢ a
      go (inl i₁) = far k (Memᴰ.append_left (m₀ ∷ r) i₁)
      go (inr i₁) = go₂ (Memᴰ.append_cases new i₁)

  reply_in : {s d : ℕ} {σ' σ'' : ℕ → Claim} (l r : List Message) (k : ℕ) → Delivery H a σ' (l ++ r) σ'' → (x : Dec (H.address k < H.address a))
      → σ' a ≡ yield x (verifying s d) → (σ' a ≡ verifying s d → Outcome H σ₀ a s d (l ++ r) σ'') → Outcome H σ₀ a s d (l ++ (reply k true ∷ r)) σ''
  reply_in l r k D (yes p) e ih = lost (stays_stopped D e) (reply k true) (Memᴰ.append_right l (Memᴰ.head refl)) p
  reply_in l r k D (no p) e ih = swap_one l r [] (reply k true) (λ m i. absurd (Memᴰ.not-nil i)) (λ h. absurd (p h)) (ih e)

  settle : {s d : ℕ} {σ σ'' : ℕ → Claim} {ms : List Message} → Delivery H a σ ms σ'' → ((k : ℕ) → k ≢ a → σ k ≡ σ₀ k)
      → ((k : ℕ) → Memᴰ (query k) ms → k ≢ a) → σ a ≡ verifying s d → Outcome H σ₀ a s d ms σ''
  settle done same far e = kept e (λ m i. absurd (Memᴰ.not-nil i))
  settle (asked {σ = σ} l r k D) same far e =
      let ek : σ₀ k ≡ σ k = sym (same k (far k (Memᴰ.append_right l (Memᴰ.head refl)))) in
      swap_one l r (answer k (σ k)) (query k) (answer_hits k (σ k) ek) (hits_answer k (σ k) ek)
      (settle D same (far_swap l r (answer k (σ k)) (query k) (λ j. no_query k j (σ k)) far) e)
  settle (taken_in σ' l r k true put D) same far e =
      reply_in l r k D (dec_lt (H.address k) (H.address a)) (put.here ∙ ap (after_reply (H.address a) (H.address k) true) e)
      (λ e'. settle D (λ j ne. put.else j ne ∙ same j ne) (far_swap l r [] (reply k true) (λ j. Memᴰ.not-nil) far) e')
  settle (taken_in σ' l r k false put D) same far e =
      lost (stays_stopped D (put.here ∙ ap (after_reply (H.address a) (H.address k) false) e)) (reply k false)
      (Memᴰ.append_right l (Memᴰ.head refl)) tt

-- the queries of h below m: to each other host, and to no one else
unless_in : {A : Type 0} {x : Message} (c : Dec A) (m : Message) (l : List Message) → Memᴰ x l → Memᴰ x (unless c m l)
unless_in (yes p) m l i = i
unless_in (no p) m l i = Memᴰ.tail i

unless_head : {A : Type 0} (c : Dec A) (m : Message) (l : List Message) → ¬ A → Memᴰ m (unless c m l)
unless_head (yes p) m l ne = absurd (ne p)
unless_head (no p) m l ne = Memᴰ.head refl

to_others : (h m k : ℕ) → k < m → k ≢ h → Memᴰ (query k) (queries h m)
unfolding queries
to_others h zero k l ne = absurd (omega arith)
to_others h (suc m) k l ne = go (to_others h m k) (eq-or-lt_of_le (le_of_suc-le-suc l))
  where
    go : (k < m → k ≢ h → Memᴰ (query k) (queries h m)) → (k ≡ m) ⊎ (k < m) → Memᴰ (query k) (queries h (suc m))
    go ih (inl e) =
        subst (λ x. Memᴰ (query x) (queries h (suc m))) (sym e) (unless_head (ℕ_discrete m h) (query m) (queries h m) (λ e'. ne (e ∙ e')))
    go ih (inr l') = unless_in (ℕ_discrete m h) (query m) (queries h m) (ih l' ne)

pub record Other (h m : ℕ) (x : Message) : Type 0 where
  pub who : ℕ
  pub is : x ≡ query who
  pub below : who < m
  pub not_h : who ≢ h

of_others : (h m : ℕ) (x : Message) → Memᴰ x (queries h m) → Other h m x
unfolding queries
of_others h zero x i = absurd (Memᴰ.not-nil i)
of_others h (suc m) x i = go (of_others h m x) (ℕ_discrete m h) i
  where
    more : Other h m x → Other h (suc m) x
    more o = record { who = o.who; is = o.is; below = omega arith; not_h = o.not_h }

    go₂ : (Memᴰ x (queries h m) → Other h m x) → m ≢ h → (x ≡ query m) ⊎ Memᴰ x (queries h m) → Other h (suc m) x
    go₂ ih ne (inl e) = record { who = m; is = e; below = omega arith; not_h = ne }
    go₂ ih ne (inr i') = more (ih i')

    go : (Memᴰ x (queries h m) → Other h m x) → (c : Dec (m ≡ h)) → Memᴰ x (unless c (query m) (queries h m)) → Other h (suc m) x
    go ih (yes p) i' = more (ih i')
    go ih (no p) i' = go₂ ih p (Memᴰ.cases_cons i')

-- what a send leaves, in terms of the states before it
pub data Sent (H : LinkModel) (σ : ℕ → Claim) (h s d : ℕ) (σ'' : ℕ → Claim) : Type 0 where
  lost : σ'' h ≡ stopped → (k : ℕ) → k < H.count → k ≢ h → Beats H σ h k → Sent H σ h s d σ''
  kept : σ'' h ≡ verifying s d → ((k : ℕ) → k < H.count → k ≢ h → ¬ (Beats H σ h k)) → Sent H σ h s d σ''

pub sent_else : {H : LinkModel} {σ σ'' : ℕ → Claim} {h : ℕ} {s : Claim} → Send H σ h s σ'' → (k : ℕ) → k ≢ h → σ'' k ≡ σ k
sent_else (send σ' put D) k ne = others D k ne ∙ put.else k ne

pub sent : (H : LinkModel) (σ σ'' : ℕ → Claim) (h s d : ℕ) → Send H σ h (verifying s d) σ'' → Sent H σ h s d σ''
sent H σ σ'' h s d (send σ' put D) =
    go (settle H σ h D put.else (λ k i. let o = of_others h H.count (query k) i in λ e. o.not_h (cc)) put.here)
  where
    go : Outcome H σ h s d (queries h H.count) σ'' → Sent H σ h s d σ''
    go (Outcome.lost e m i hit) =
        let o = of_others h H.count m i in
        lost e o.who o.below o.not_h (subst (λ x. Hit H σ h x) o.is hit)
    go (Outcome.kept e none) = kept e (λ k l ne b. none (query k) (to_others h H.count k l ne) b)
