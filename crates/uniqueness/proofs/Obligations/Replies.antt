-- Obligations of a station: receive, of a reply to its query. Each follows from one law of receive, as in file Queries.
use Rattle.std.proofs.Common.{ℕ, ◌≤◌, ◌<◌, ◌≡◌, refl, sym, ◌∙◌, ap, subst, Bool, true, false, inl, inr, ⊎_elim, List, length}
use Rattle.octets.specs.Bounds.{used_by6}
use Rattle.octets.specs.Octets.{Octets}
use Rattle.octets.specs.Addresses.{same_address, below_address}
use Rattle.octets.proofs.Tests.{never}
use Rattle.message.specs.Bounds.{type_any, class_in}
use Rattle.message.specs.declared.Header.{Header}
use Rattle.message.specs.Header.{header_of}
use Rattle.message.specs.Reply.{reply_header}
use Rattle.host.specs.declared.NameState.{NameState}
use Rattle.host.specs.declared.NameState.TheVariants.{Off, Verifying, Unique, Defending, Stopped, Shared}
use Rattle.host.specs.Outcomes.{Done, kept as Kept, stopped as StoppedName}
use Rattle.host.specs.Receive.{Arrival, header}
use Rattle.host.specs.Stopping.{stopped_until}
use Rattle.host.specs.ExactlyWhen.{ResponseArrives, AsksFor, state_here, WaitsFor, TakenBy, IsAwaited, IsTaken, MatchArrives}
use Rattle.host.proofs.Received.{stops_it, keeps_it, not_awaited}
use Rattle.uniqueness.specs.Link.{Station, Link, Receipt, SameName, OnLink, Conditions}
use Rattle.uniqueness.proofs.Obligations.{top, host_with, RefusedWith, refused_with, Taken, waits, address, own, arrival, responded}
use Rattle.uniqueness.proofs.Obligations.{verifying as verifying_with}
use Rattle.uniqueness.proofs.Obligations.HostWith.{write_at, clock_at}
use Rattle.uniqueness.proofs.Obligations.Stations.{held, few_is, not_group}
use Rattle.uniqueness.proofs.Obligations.Messages.{asks, ReplyTo}
use Rattle.uniqueness.proofs.Obligations.Arrivals.{own_is, not_from_us, state_is, asks_for, arrives}

-- a state that waits for nothing
waits_not : (x : NameState) (id qtype class : ℕ) → waits x ≡ false → WaitsFor x id qtype class → ⊥
waits_not Off id qtype class e w = w
waits_not (Verifying n own timer) id qtype class e w = never refl e
waits_not Unique id qtype class e w = w
waits_not (Defending own own_type own_class timer) id qtype class e w = never refl e
waits_not (Stopped until) id qtype class e w = w
waits_not Shared id qtype class e w = w

module _ (L : Link) (c : Conditions L) (s : Station) (o : OnLink L s) where
  -- ---- a reply to a start's query

  module _ (x : NameState) (clock t id : ℕ) (y a b : List ℕ) (v : Receipt) (f : clock ≤ t) (g : t ≤ top) (w : SameName y L.name) (tb : Bool) (r : ReplyTo id y tb b) where
    abbrev reply_here : Arrival
    reply_here = arrival L s t (own L s) b a v

    abbrev own_reply_header : Header
    own_reply_header = reply_header id false r.cut tb r.answers

    reply_arrives : ResponseArrives (host_with s x clock) reply_here (held L s o) (asks y)
    reply_arrives =
        let e = r.reads.header in
        record {
          arrives = arrives L c s o x clock t f g y w (own L s) b a v own_reply_header r.reads refl refl refl;
          is_response = ap (λ (z : Header). z.response) e;
          not_to_group = not_group L s o c;
          rcode = ap (λ (z : Header). z.rcode) e;
        }

    reply_name : AsksFor reply_here (held L s o) (asks y) s.name
    reply_name = asks_for L c s o x clock t f g y w (own L s) b a v own_reply_header r.reads

    reply_state : state_here (host_with s x clock) reply_here s.name ≡ x
    reply_state = state_is L c s o x clock t f g y w (own L s) b a v

    awaited_is : WaitsFor x id type_any class_in → IsAwaited (host_with s x clock) reply_here (asks y) s.name
    awaited_is m =
        subst (λ (z : NameState). WaitsFor z (header_of b).id type_any class_in) (sym reply_state)
        (subst (λ (z : ℕ). WaitsFor x z type_any class_in) (sym (ap (λ (z : Header). z.id) r.reads.header)) m)

    awaited_back : IsAwaited (host_with s x clock) reply_here (asks y) s.name → WaitsFor x (header_of b).id type_any class_in
    awaited_back m = subst (λ (z : NameState). WaitsFor z (header_of b).id type_any class_in) reply_state m

    matches : same_address (address L a) (own L s) ≡ false → WaitsFor x id type_any class_in → MatchArrives (host_with s x clock) reply_here (held L s o) (asks y) s.name
    matches e m = record { response = reply_arrives; name = reply_name; awaited = awaited_is m; not_ours = not_from_us L c s o x clock a e }

    taken_is : TakenBy x tb (address L a) (own L s) ≡ IsTaken (host_with s x clock) reply_here s.name
    taken_is =
        ap (λ (z : NameState). TakenBy z tb (address L a) (own L s)) (sym reply_state)
        ∙ ap (λ (z : Bool). TakenBy (state_here (host_with s x clock) reply_here s.name) z (address L a) (own L s)) (sym (ap (λ (z : Header). z.tentative) r.reads.header))
        ∙ ap (TakenBy (state_here (host_with s x clock) reply_here s.name) (header_of b).tentative (address L a)) (sym (own_is L c s o x clock))

    reply_stops : same_address (address L a) (own L s) ≡ false → WaitsFor x id type_any class_in → TakenBy x tb (address L a) (own L s)
        → (until : ℕ) × Taken (host_with s (Stopped until) t) (StoppedName s.name) (responded L s x clock t b a v)
    reply_stops e m p =
        let d = stops_it (host_with s x clock) reply_here s.name (record { names = held L s o; q = asks y; match = matches e m; taken = subst (λ (A : Type 0). A) taken_is p }) in
        let until : ℕ = stopped_until t (header reply_here).answers b (asks y).end in
        (until, record { host = ap (λ (u : Done). u.host) d ∙ write_at s o.four o.used (few_is L s o) x (Stopped until) clock t; outcome = ap (λ (u : Done). u.result) d })

    reply_keeps : same_address (address L a) (own L s) ≡ false → WaitsFor x id type_any class_in → (TakenBy x tb (address L a) (own L s) → ⊥)
        → Taken (host_with s x t) (Kept s.name) (responded L s x clock t b a v)
    reply_keeps e m p =
        let d = keeps_it (host_with s x clock) reply_here s.name
        (record { names = held L s o; q = asks y; match = matches e m; not_taken = λ k. p (subst (λ (A : Type 0). A) (sym taken_is) k) }) in
        record { host = ap (λ (u : Done). u.host) d ∙ clock_at s o.four o.used (few_is L s o) x clock t; outcome = ap (λ (u : Done). u.result) d }

  pub reply_clear : (sends id due clock t : ℕ) (y a b : List ℕ) (v : Receipt) → clock ≤ t → t ≤ top → id < 65536 → SameName y L.name
      → Octets a → length a ≡ used_by6 → same_address (address L a) (own L s) ≡ false → ReplyTo id y false b
      → (until : ℕ) × Taken (host_with s (Stopped until) t) (StoppedName s.name) (responded L s (verifying_with sends id due) clock t b a v)
  reply_clear sends id due clock t y a b v f g h w q n e r =
      reply_stops (verifying_with sends id due) clock t id y a b v f g w false r e (refl, refl, refl) (inl refl)

  pub reply_below : (sends id due clock t : ℕ) (y a b : List ℕ) (v : Receipt) → clock ≤ t → t ≤ top → id < 65536 → SameName y L.name
      → Octets a → length a ≡ used_by6 → same_address (address L a) (own L s) ≡ false → ReplyTo id y true b
      → below_address (address L a) (own L s) ≡ true
      → (until : ℕ) × Taken (host_with s (Stopped until) t) (StoppedName s.name) (responded L s (verifying_with sends id due) clock t b a v)
  reply_below sends id due clock t y a b v f g h w q n e r l =
      reply_stops (verifying_with sends id due) clock t id y a b v f g w true r e (refl, refl, refl) (inr l)

  pub reply_above : (sends id due clock t : ℕ) (y a b : List ℕ) (v : Receipt) → clock ≤ t → t ≤ top → id < 65536 → SameName y L.name
      → Octets a → length a ≡ used_by6 → same_address (address L a) (own L s) ≡ false → ReplyTo id y true b
      → below_address (address L a) (own L s) ≡ false
      → Taken (host_with s (verifying_with sends id due) t) (Kept s.name) (responded L s (verifying_with sends id due) clock t b a v)
  reply_above sends id due clock t y a b v f g h w q n e r l =
      reply_keeps (verifying_with sends id due) clock t id y a b v f g w true r e (refl, refl, refl) (⊎_elim (λ p. never refl p) (λ p. never p l))

  pub reply_late : (x : NameState) (clock t id : ℕ) (y a b : List ℕ) (tb : Bool) (v : Receipt) → clock ≤ t → t ≤ top → id < 65536 → SameName y L.name
      → Octets a → length a ≡ used_by6 → ReplyTo id y tb b → waits x ≡ false
      → RefusedWith 15 (host_with s x clock) (responded L s x clock t b a v)
  reply_late x clock t id y a b tb v f g h w q n r e =
      refused_with 15 _ _ _
      (not_awaited _ _
      (record {
        names = held L s o;
        q = asks y;
        response = reply_arrives x clock t id y a b v f g w tb r;
        none = inr (s.name, reply_name x clock t id y a b v f g w tb r, λ m. waits_not x _ _ _ e (awaited_back x clock t id y a b v f g w tb r m));
      }))
