-- A list that starts w first and each other host in turn exists: w starts and ticks when due until it is unique, then the others start one
-- by one. It takes three intervals, and so ends no later than any list that ends with an owner. Every delivery can be made to its end.
use Rattle.std.proofs.Common.{◌≡◌, refl, sym, ◌∙◌, ap, ◌≢◌, inl, Bool, true, false, List, [], ◌∷◌, ◌++◌, ℕ, zero, suc, ◌+◌, ◌≤◌, ◌<◌, arith}
use Rattle.std.proofs.Math.Logic.{dite}
use Rattle.std.proofs.Math.Decide.{ℕ_discrete}
use Rattle.host.specs.Bounds.{sends_in_all}
use Rattle.uniqueness.specs.Link.{update}
use Rattle.uniqueness.proofs.Model.{Claim, off, verifying, unique, stopped, LinkModel, Message, query, reply, answer, after_reply, Delivery, done, asked, taken_in, queries, updated, Send, send, World, Event, start, tick, OnTime, begin, again, won, Step, Run, stay, then, Fresh, Settled, Owns, OneByOne, clash}
use Rattle.uniqueness.proofs.Model.Deliveries.{sent_else}
use Rattle.uniqueness.proofs.Model.Invariant.{invariant_run, invariant_fresh}
use Rattle.uniqueness.proofs.Model.InTurn.{Alone, Owning, alone_sends, owned_stops, alone_only, owned_none}

-- every delivery can be made to its end
module _ (H : LinkModel) (a : ℕ) where
  Ends : (ℕ → Claim) → List Message → Type 0
  Ends σ ms = (σ'' : ℕ → Claim) × Delivery H a σ ms σ''

  reply_first : (σ : ℕ → Claim) (k : ℕ) (t : Bool) (r : List Message) → ((σ' : ℕ → Claim) → Ends σ' r) → Ends σ (reply k t ∷ r)
  unfolding Ends
  reply_first σ k t r ih =
      let s = after_reply (H.address a) (H.address k) t (σ a) in
      let (σ'', D) = ih (update σ a s) in
      (σ'', taken_in (update σ a s) [] r k t (updated σ a s) D)

  answered : (σ : ℕ → Claim) (k : ℕ) (s : Claim) (r : List Message) → ((σ' : ℕ → Claim) → Ends σ' r) → Ends σ (answer k s ++ r)
  answered σ k off r ih = ih σ
  answered σ k (verifying s d) r ih = reply_first σ k true r ih
  answered σ k unique r ih = reply_first σ k false r ih
  answered σ k stopped r ih = ih σ

  deliverable : (ms : List Message) (σ : ℕ → Claim) → Ends σ ms
  unfolding Ends
  deliverable [] σ = (σ, done)
  deliverable (query k ∷ r) σ =
      let (σ'', D) = answered σ k (σ k) r (λ σ'. deliverable r σ') in
      (σ'', asked [] r k D)
  deliverable (reply k t ∷ r) σ = reply_first σ k t r (λ σ'. deliverable r σ')

  pub can_send : (σ : ℕ → Claim) (s : Claim) → (σ'' : ℕ → Claim) × Send H σ a s σ''
  unfolding Ends
  can_send σ s = let (σ'', D) = deliverable (queries a H.count) (update σ a s) in (σ'', send (update σ a s) (updated σ a s) D)

-- from W a run by the rule P leads to a world with Q
pub record Leads (H : LinkModel) (P : World → ℕ → Type 0) (W : World) (Q : World → Type 0) : Type 0 where
  pub events : List Event
  pub end : World
  pub run : Run H P W events end
  pub good : Q end

join : {H : LinkModel} {P : World → ℕ → Type 0} {W W' W'' : World} {es es' : List Event} → Run H P W es W' → Run H P W' es' W''
    → Run H P W (es ++ es') W''
join stay R = R
join (then S R') R = then S (join R' R)

chain : {H : LinkModel} {P : World → ℕ → Type 0} {W : World} {Q Q' : World → Type 0} → Leads H P W Q → ((W' : World) → Q W' → Leads H P W' Q')
    → Leads H P W Q'
chain L f =
    let M = f L.end L.good in
    record { events = L.events ++ M.events; end = M.end; run = join L.run M.run; good = M.good }

step : {H : LinkModel} {P : World → ℕ → Type 0} {W : World} {Q : World → Type 0} (e : Event) (W' : World) → Step H P W e W' → Q W' → Leads H P W Q
step e W' S q = record { events = e ∷ []; end = W'; run = then S stay; good = q }

module _ (H : LinkModel) (w : ℕ) (lw : w < H.count) where
  record AtAlone (s d t : ℕ) (W : World) : Type 0 where
    alone : Alone H w s d W.claims
    started_is : W.started ≡ w ∷ []
    time_is : W.time ≡ t

  record AtOwning (t m : ℕ) (W : World) : Type 0 where
    owned : Owning H w W.claims
    last : ℕ
    last_in : last < H.count
    rest : List ℕ
    started_is : W.started ≡ last ∷ rest
    time_is : W.time ≡ t
    started : (k : ℕ) → k < m → W.claims k ≢ off

  starts : (W : World) → Fresh H W → Leads H (OneByOne w) W (AtAlone 1 (W.time + H.interval) W.time)
  starts W F =
      let t = W.time in
      let (σ'', S) = can_send H w W.claims (verifying 1 (t + H.interval)) in
      let offs = F.all_off in
      step (start w t) (record { claims = σ''; time = t; started = w ∷ W.started })
      (record {
        on_link = lw;
        on_time = record { later = omega arith; due = λ k s d l e. let x = offs k l in clash cc };
        act = begin (offs w lw) (record { first = λ e. refl; next = λ l ls e. let n = F.none in clash cc }) S;
        clock = refl;
      })
      (record { alone = alone_sends H w 1 (t + H.interval) W.claims σ'' (λ k l ne. offs k l) S; started_is = ap (λ x. w ∷ x) F.none; time_is = refl })

  alone_time : (s d t : ℕ) (W : World) → t ≤ d → AtAlone s d t W → OnTime H W d
  alone_time s d t W le a = record {
    later = omega (arith, a.time_is);
    due = λ k s' d' l e.
        let p : k ≡ w = alone_only l a.alone e in
        let q : d ≡ d' = let x = a.alone.here in cc in
        omega arith;
  }

  ticks : (s d t : ℕ) (W : World) → t ≤ d → s < sends_in_all → AtAlone s d t W → Leads H (OneByOne w) W (AtAlone (suc s) (d + H.interval) d)
  ticks s d t W le lt a =
      let (σ'', S) = can_send H w W.claims (verifying (suc s) (d + H.interval)) in
      step (tick w d) (record { claims = σ''; time = d; started = W.started })
      (record { on_link = lw; on_time = alone_time s d t W le a; act = again s d a.alone.here (omega arith) lt S; clock = refl })
      (record { alone = alone_sends H w (suc s) (d + H.interval) W.claims σ'' a.alone.else S; started_is = a.started_is; time_is = refl })

  turns_unique : (d t : ℕ) (W : World) → t ≤ d → AtAlone sends_in_all d t W → Leads H (OneByOne w) W (AtOwning d 0)
  turns_unique d t W le a =
      let σ'' = update W.claims w unique in
      let pt = updated W.claims w unique in
      step (tick w d) (record { claims = σ''; time = d; started = W.started })
      (record { on_link = lw; on_time = alone_time sends_in_all d t W le a; act = won sends_in_all d a.alone.here (omega arith) (omega arith) pt; clock = refl })
      (record {
        owned = record { here = pt.here; else = λ k l ne. inl (pt.else k ne ∙ a.alone.else k l ne) };
        last = w;
        last_in = lw;
        rest = [];
        started_is = a.started_is;
        time_is = refl;
        started = λ k l. absurd (omega arith);
      })

  grown : (m : ℕ) (σ : ℕ → Claim) → ((k : ℕ) → k < m → σ k ≢ off) → σ m ≢ off → (k : ℕ) → k < suc m → σ k ≢ off
  grown m σ old new k l = dite (ℕ_discrete k m) (λ e z. new (let q : σ m ≡ off = cc in q)) (λ ne. old k (omega arith))

  -- host m is started too
  start_it : (t m : ℕ) (W : World) → m < H.count → AtOwning t m W → W.claims m ≡ off → Leads H (OneByOne w) W (AtOwning t (suc m))
  start_it t m W lm a e =
      let (σ'', S) = can_send H m W.claims (verifying 1 (t + H.interval)) in
      let (v, stop) = owned_stops H w m 1 (t + H.interval) W.claims σ'' lw a.owned e S in
      step (start m t) (record { claims = σ''; time = t; started = m ∷ W.started })
      (record {
        on_link = lm;
        on_time = record { later = omega (arith, a.time_is); due = λ k s d l ek. absurd (owned_none l a.owned ek) };
        act = begin e (record { first = λ z. let h = a.started_is in clash cc; next = not_verifying }) S;
        clock = refl;
      })
      (record {
        owned = v;
        last = m;
        last_in = lm;
        rest = W.started;
        started_is = refl;
        time_is = refl;
        started = grown m σ''
            (λ k l z. a.started k l (sym (sent_else S k (λ p. let q : k ≡ m = p in omega arith)) ∙ z))
            (λ z. clash cc);
      })
    where
      not_verifying : (l : ℕ) (ls : List ℕ) → W.started ≡ l ∷ ls → (s d : ℕ) → W.claims l ≢ verifying s d
      not_verifying l ls eh s d el =
          let q : l ≡ a.last = cc in
          let e' : W.claims a.last ≡ verifying s d = cc in
          owned_none a.last_in a.owned e'

  skip_it : (t m : ℕ) (W : World) → AtOwning t m W → W.claims m ≢ off → Leads H (OneByOne w) W (AtOwning t (suc m))
  skip_it t m W a ne = record {
    events = [];
    end = W;
    run = stay;
    good = record { owned = a.owned; last = a.last; last_in = a.last_in; rest = a.rest; started_is = a.started_is; time_is = a.time_is; started = grown m W.claims a.started ne };
  }

  one_more : (t m : ℕ) (W : World) → m < H.count → AtOwning t m W → (x : Claim) → W.claims m ≡ x → Leads H (OneByOne w) W (AtOwning t (suc m))
  one_more t m W lm a off e = start_it t m W lm a e
  one_more t m W lm a (verifying s d) e = skip_it t m W a (λ z. clash cc)
  one_more t m W lm a unique e = skip_it t m W a (λ z. clash cc)
  one_more t m W lm a stopped e = skip_it t m W a (λ z. clash cc)

  all_started : (t m : ℕ) (W : World) → m ≤ H.count → AtOwning t 0 W → Leads H (OneByOne w) W (AtOwning t m)
  all_started t zero W le a = record { events = []; end = W; run = stay; good = a }
  all_started t (suc m) W le a = chain (all_started t m W (omega arith) a) (λ W' a'. one_more t m W' le a' (W'.claims m) refl)

  pub record AtEnd (t : ℕ) (W : World) : Type 0 where
    pub settled : Settled H W
    pub time_is : W.time ≡ t

  at_end : (t : ℕ) (W : World) → AtOwning t H.count W → AtEnd t W
  at_end t W a = record { settled = record { started = a.started; rest = λ k s d l e. owned_none l a.owned e }; time_is = a.time_is }

  abbrev pub after : ℕ → ℕ
  after t = t + H.interval + H.interval + H.interval

  -- w first, then all the others, from any fresh world: it takes three intervals
  pub list_in_turn : (W : World) → Fresh H W → Leads H (OneByOne w) W (AtEnd (after W.time))
  list_in_turn W F =
      chain (starts W F) λ W₁ a₁.
      chain (ticks 1 _ _ W₁ (omega arith) (omega arith) a₁) λ W₂ a₂.
      chain (ticks 2 _ _ W₂ (omega arith) (omega arith) a₂) λ W₃ a₃.
      chain (turns_unique _ _ W₃ (omega arith) a₃) λ W₄ a₄.
      chain (all_started _ H.count W₄ (omega arith) a₄) λ W₅ a₅.
      record { events = []; end = W₅; run = stay; good = at_end _ W₅ a₅ }

-- a run's clock does not go back
pub times : {H : LinkModel} {P : World → ℕ → Type 0} {W W' : World} {es : List Event} → Run H P W es W' → W.time ≤ W'.time
times stay = omega arith
times (then S R) = let r = times R in let c = S.clock in let l = S.on_time.later in omega arith

-- where a list has an owner, there is a list that starts that owner first, and it ends no later
pub record ListInTurn (H : LinkModel) (W : World) (w t : ℕ) : Type 0 where
  pub events : List Event
  pub end : World
  pub run : Run H (OneByOne w) W events end
  pub settled : Settled H end
  pub by_then : end.time ≤ t

pub list_exists : {H : LinkModel} {P : World → ℕ → Type 0} {W W' : World} {es : List Event} → Fresh H W → Run H P W es W' → (w : ℕ) → Owns H w W'
    → ListInTurn H W w W'.time
list_exists {H} {W = W} {W' = W'} F R w h =
    let i = invariant_run W.time R (invariant_fresh H W F) in
    let b = i.owned w h.on_link h.owns in
    let L = list_in_turn H w h.on_link W F in
    let q = L.good.time_is in
    record { events = L.events; end = L.end; run = L.run; settled = L.good.settled; by_then = omega arith }
