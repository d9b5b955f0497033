-- The statement of specs/Replies.antt leaves nothing open: two calls of which it holds, for the same arrival and records, give the same.
use Rattle.std.proofs.Common.{ℕ, ◌+◌, ◌≤◌, ◌≡◌, refl, sym, ap, ◌∙◌, subst, ◌⊎◌, inl, inr, List, [], ◌∷◌, ◌++◌, Bool, true, false, arith, length, take, drop, length-append}
use Rattle.octets.specs.Octets.{part_of}
use Rattle.octets.specs.declared.Endpoint.{Endpoint}
use Rattle.name_table.specs.Entries.{Data, data_octets}
use Rattle.message.specs.declared.Question.{Question}
use Rattle.host.specs.Outcomes.{Done, CallResult, reply}
use Rattle.host.specs.Receive.{Arrival}
use Rattle.host.specs.declared.Interface.{Interface}
use Rattle.host.specs.declared.NameState.{NameState}
use Rattle.host.specs.declared.Host.{Host}
use Rattle.witness.specs.Replies.{record_octets, records_octets, reply_of, flags_of, DoesNotFit, WholeReply}

size_on : (d : Data) (ds : List Data) → length (records_octets (d ∷ ds)) ≡ 12 + length (data_octets d) + length (records_octets ds)
size_on d ds = omega (arith, length-append (record_octets d) (records_octets ds))

-- after `used` octets and the records given, none is left or the first that is does not fit
abbrev Stops : ℕ → List Data → List Data → Type 0
Stops used given left = (left ≡ []) ⊎ DoesNotFit (used + length (records_octets given)) left

-- what is left does not begin with a record that fits
no_more : (used : ℕ) (left : List Data) (d : Data) (ds rest : List Data) → Stops used [] left → left ≡ d ∷ ds ++ rest
    → used + length (records_octets (d ∷ ds)) ≤ 512 → ⊥
no_more used left d ds rest (inl e) f h = omega (arith, ap length (sym e ∙ f))
no_more used left d ds rest (inr n) f h =
    let e : n.first ∷ n.more ≡ d ∷ (ds ++ rest) = sym n.are ∙ f in
    let g : n.first ≡ d = cc in
    omega (arith, n.passes, ap (λ (x : Data). length (data_octets x)) g, size_on d ds)

stops_on : (used : ℕ) (d : Data) (ds left : List Data) → Stops used (d ∷ ds) left → Stops (used + (12 + length (data_octets d))) ds left
stops_on used d ds left (inl e) = inl e
stops_on used d ds left (inr n) =
    inr (record { first = n.first; more = n.more; are = n.are; passes = omega (arith, n.passes, size_on d ds) })

same_given : (used : ℕ) (g l g₂ l₂ : List Data) → g ++ l ≡ g₂ ++ l₂ → Stops used g l → Stops used g₂ l₂
    → used + length (records_octets g) ≤ 512 → used + length (records_octets g₂) ≤ 512 → (g ≡ g₂) × (l ≡ l₂)
same_given used [] l [] l₂ e s s₂ h h₂ = (refl, e)
same_given used [] l (d ∷ g₂) l₂ e s s₂ h h₂ = absurd (no_more used l d g₂ l₂ s e h₂)
same_given used (d ∷ g) l [] l₂ e s s₂ h h₂ = absurd (no_more used l₂ d g l s₂ (sym e) h)
same_given used (d ∷ g) l (d₂ ∷ g₂) l₂ e s s₂ h h₂ =
    let x : d ≡ d₂ = cc in
    let y : g ++ l ≡ g₂ ++ l₂ = cc in
    let t₂ : Stops (used + (12 + length (data_octets d))) g₂ l₂ = subst (λ (z : Data). Stops (used + (12 + length (data_octets z))) g₂ l₂) (sym x) (stops_on used d₂ g₂ l₂ s₂) in
    let r = same_given (used + (12 + length (data_octets d))) g l g₂ l₂ y (stops_on used d g l s) t₂
    (omega (arith, size_on d g)) (omega (arith, size_on d₂ g₂, ap (λ (z : Data). length (data_octets z)) x)) in
    let a = r.0 in
    (cc, r.1)

same_cut : (c d : Bool) (l : List Data) → (c ≡ false → l ≡ []) → (l ≡ [] → c ≡ false) → (d ≡ false → l ≡ []) → (l ≡ [] → d ≡ false) → c ≡ d
same_cut true true l p q r s = refl
same_cut false false l p q r s = refl
same_cut true false l p q r s = q (r refl)
same_cut false true l p q r s = sym (s (p refl))

same_done : {i j : List Interface} {c d : ℕ} {r s : CallResult} {t u : Endpoint} {x y : List ℕ} → i ≡ j → c ≡ d → r ≡ s → t ≡ u → x ≡ y
    → ◌≡◌ {A = Done}
    (record { host = record { interfaces = i; clock = c }; result = r; to = t; octets = x })
    (record { host = record { interfaces = j; clock = d }; result = s; to = u; octets = y })
same_done e f g k l = rw (e, f, g, k, l)

module _ (h : Host) (a : Arrival) (q : Question) (state : NameState) (records : List Data) where
  stops : (d : Done) (w : WholeReply h a q state records d) → Stops q.end w.given w.left
  stops d w = go w.cut refl
    where
      go : (c : Bool) → w.cut ≡ c → Stops q.end w.given w.left
      go false e = inl (w.whole.0 e)
      go true e = inr (subst (λ (n : ℕ). DoesNotFit n w.left) w.len_is (w.left_out e))

  -- There is one whole reply.
  pub one_reply : (d e : Done) → WholeReply h a q state records d → WholeReply h a q state records e → d ≡ e
  one_reply d e w v =
      let r = same_given q.end w.given w.left v.given v.left (sym w.asked ∙ v.asked) (stops d w) (stops e v)
      (omega (arith, w.most, w.len_is)) (omega (arith, v.most, v.len_is)) in
      let l : w.len ≡ v.len = w.len_is ∙ ap (λ (g : List Data). q.end + length (records_octets g)) r.0 ∙ sym v.len_is in
      let c : w.cut ≡ v.cut =
      same_cut w.cut v.cut w.left w.whole.0 w.whole.1 (λ x. r.1 ∙ v.whole.0 x) (λ x. v.whole.1 (sym r.1 ∙ x)) in
      let o : d.octets ≡ e.octets =
      w.octets
      ∙ ap (λ (g : List Data). reply_of (take 2 a.datagram) (flags_of state w.cut) (part_of a.datagram 12 q.end) g ++ drop w.len a.out) r.0
      ∙ ap (λ (b : Bool). reply_of (take 2 a.datagram) (flags_of state b) (part_of a.datagram 12 q.end) v.given ++ drop w.len a.out) c
      ∙ ap (λ (n : ℕ). reply_of (take 2 a.datagram) (flags_of state v.cut) (part_of a.datagram 12 q.end) v.given ++ drop n a.out) l
      ∙ sym v.octets in
      same_done (w.interfaces ∙ sym v.interfaces) (w.clock ∙ sym v.clock) (w.result ∙ ap reply l ∙ sym v.result) (w.to ∙ sym v.to) o
