-- Receive, as the simulation asks for it, from the obligations: a query is answered as the receiver's claim says; a reply to the host's own
-- query stops it if it is clear or from a lower address, and a reply to a host that does not verify changes nothing.
use Rattle.std.proofs.Common.{◌≡◌, refl, sym, ◌∙◌, ap, subst, ◌≢◌, Bool, true, false, List, ℕ, ◌≤◌, ◌<◌, arith, length}
use Rattle.std.proofs.Math.Decide.{dec_lt}
use Rattle.octets.specs.declared.Address.{Address}
use Rattle.octets.specs.declared.Endpoint.{Endpoint}
use Rattle.octets.specs.Addresses.{below_address, group_of}
use Rattle.host.specs.Bounds.{latest as latest_time}
use Rattle.host.specs.declared.Host.{Host}
use Rattle.host.specs.Outcomes.{Done, CallResult, kept as Kept, reply as Reply, stopped as Stopped}
use Rattle.host.specs.Asking.{check_query}
use Rattle.host.specs.Receive.{receive}
use Rattle.uniqueness.specs.Link.{sort, Link, address_of, Receipt, SameName, Conditions}
use Rattle.uniqueness.proofs.Model.{Claim, off, verifying, unique, stopped, after_reply, yield, clash}
use Rattle.uniqueness.proofs.Simulation.{Kind, System, Tells, Answers, QuietAs}
use Rattle.uniqueness.proofs.Obligations.{host_with, Replied, waits, Obligations}
use Rattle.uniqueness.proofs.Obligations.{verifying as verifying_with}
use Rattle.uniqueness.proofs.Hosts.{Sent, output_of, sent_of, outcome_of, sent_is, Inputs, id_of, state_of, own_fits, own_long, laws, tag_is, system}
use Rattle.uniqueness.proofs.Hosts.AddressOrder.{below_lt, not_below_le}
use Rattle.uniqueness.proofs.Hosts.StartTick.{stands, refused_quiet, taken_quiet}

module _ (O : Obligations) (L : Link) (C : Conditions L) (ObservedAs : ℕ → ℕ → Host → Kind → Type 0) where
  abbrev our_system : System Host Sent Inputs Receipt ℕ
  our_system = system O L C ObservedAs

  -- host k receives the octets b from host a
  abbrev receives : ℕ → ℕ → Receipt → ℕ → Host → Address → List ℕ → Done
  receives k a z t c to b =
      receive c
      (record {
        table = (L.station k).table;
        interface = (L.station k).interface;
        from = record { address = address_of L a; port = z.port };
        to = to;
        datagram = b;
        time = t;
        id = z.lent.id;
        out = z.lent.out;
      })

  -- 1. A QUERY

  module _ (a k : ℕ) (la : a < L.count) (l : k < L.count) (z : Receipt) (t : ℕ) (lt : t ≤ latest_time) (g : ℕ) where
    replied_tells : (y : List ℕ) (f : Bool) (h : Host) (d : Done) → g < 65536 → SameName y L.name
        → Replied (O.ReplyTo g y f) (record { address = address_of L a; port = z.port }) h d → Tells our_system a k g f (outcome_of d).output
    replied_tells y f h d fits same T = record {
      what = sent_of d;
      is = ap (λ (o : CallResult). output_of (sort o) (sent_of d)) T.outcome;
      reply = record {
        id_fits = fits;
        to = ap (λ (x : Endpoint). x.address) T.to;
        spelling = y;
        same = same;
        octets = subst (λ (b : List ℕ). O.ReplyTo g y f b) (sym (sent_is d T.len (Reply T.len) T.outcome refl)) T.octets;
      };
    }

    abbrev Answered : Claim → Done → Type 0
    Answered s d = our_system.StandsFor k t s d.host × Answers our_system a k g s (outcome_of d).output

    answers : (id until clock : ℕ) (y : List ℕ) → id < 65536 → clock ≤ t → g < 65536 → SameName y L.name → (s : Claim)
        → Answered s (receives k a z t (host_with (L.station k) (state_of s id until) clock) (group_of L.family) (check_query g y))
    answers id until clock y f e fits same off =
        refused_quiet O L C ObservedAs k t off id until clock _ f e
        ((laws O L C k l).query_off clock t g y (address_of L a).octets z e lt fits same (own_fits L C a la) (own_long L C a la))
    answers id until clock y f e fits same (verifying m d) =
        let T = (laws O L C k l).query_verifying m id d clock t g y (address_of L a).octets z e lt fits same (own_fits L C a la) (own_long L C a la) in
        (stands L k t (verifying m d) id until t _ f (omega arith) T.host, replied_tells y true _ _ fits same T)
    answers id until clock y f e fits same unique =
        let T = (laws O L C k l).query_unique clock t g y (address_of L a).octets z e lt fits same (own_fits L C a la) (own_long L C a la) in
        (stands L k t unique id until t _ f (omega arith) T.host, replied_tells y false _ _ fits same T)
    answers id until clock y f e fits same stopped =
        refused_quiet O L C ObservedAs k t stopped id until clock _ f e
        ((laws O L C k l).query_stopped until clock t g y (address_of L a).octets z e lt fits same (own_fits L C a la) (own_long L C a la))

    pub query_in : (s : Claim) (c : Host) (b : Sent) → our_system.StandsFor k t s c → our_system.IsQuery a g b
        → our_system.StandsFor k t s (our_system.calls.receive k c z t a b).state × Answers our_system a k g s (our_system.calls.receive k c z t a b).output
    query_in s c b r q =
        subst (λ (c : Host). Answered s (receives k a z t c b.to.address b.octets)) (sym r.is)
        (subst (λ (x : Address). Answered s (receives k a z t c₀ x b.octets)) (sym q.to)
        (subst (λ (x : List ℕ). Answered s (receives k a z t c₀ (group_of L.family) x)) (sym q.octets)
        (answers r.id r.until r.clock q.spelling r.id_fits r.early q.id_fits q.same s)))
      where
        c₀ : Host
        c₀ = host_with (L.station k) (state_of s r.id r.until) r.clock

  -- 2. A REPLY

  module _ (a k : ℕ) (la : a < L.count) (lk : k < L.count) (ne : k ≢ a) (z : Receipt) (t : ℕ) (lt : t ≤ latest_time) (g : ℕ) where
    abbrev claim_after : Bool → Claim → Claim
    claim_after f s = after_reply (our_system.link.address a) (our_system.link.address k) f s

    abbrev TakenIn : Bool → Claim → Done → Type 0
    TakenIn f s d = QuietAs our_system a t (claim_after f s) (outcome_of d) × ((m d' : ℕ) → claim_after f s ≡ verifying m d' → our_system.tag a d.host ≡ g)

    long : length (address_of L k).octets ≡ length (address_of L a).octets
    long = own_long L C k lk ∙ sym (own_long L C a la)

    lower : (s d : ℕ) → below_address (address_of L k) (address_of L a) ≡ true → claim_after true (verifying s d) ≡ stopped
    lower s d e = go (dec_lt (our_system.link.address k) (our_system.link.address a))
      where
        go : (x : Dec (our_system.link.address k < our_system.link.address a)) → yield x (verifying s d) ≡ stopped
        go (yes p) = refl
        go (no p) = absurd (p (below_lt (address_of L k) (address_of L a) refl long (own_fits L C k lk) (own_fits L C a la) e))

    higher : (s d : ℕ) → below_address (address_of L k) (address_of L a) ≡ false → claim_after true (verifying s d) ≡ verifying s d
    higher s d e = go (dec_lt (our_system.link.address k) (our_system.link.address a))
      where
        le : our_system.link.address a ≤ our_system.link.address k
        le = not_below_le (address_of L k) (address_of L a) refl long (own_fits L C k lk) (own_fits L C a la) e

        go : (x : Dec (our_system.link.address k < our_system.link.address a)) → yield x (verifying s d) ≡ verifying s d
        go (yes p) = absurd (omega (arith, le, p))
        go (no p) = refl

    module _ (b y : List ℕ) (fits : g < 65536) (same : SameName y L.name) where
      abbrev TakesIn : Bool → Claim → ℕ → ℕ → ℕ → Type 0
      TakesIn f s id until clock = TakenIn f s (receives a k z t (host_with (L.station a) (state_of s id until) clock) (address_of L a) b)

      -- nobody waits for it
      late : (s : Claim) (f : Bool) (id until clock : ℕ) → id < 65536 → clock ≤ t → O.ReplyTo g y f b → waits (state_of s id until) ≡ false → claim_after f s ≡ s
          → ((m d : ℕ) → s ≢ verifying m d) → TakesIn f s id until clock
      late s f id until clock id_fits e replies waits_not claim_is not_verifying =
          let T = (laws O L C a la).reply_late (state_of s id until) clock t g y (address_of L k).octets b f z e lt fits same (own_fits L C k lk)
          (own_long L C k lk) replies waits_not in
          let (stand, o) = refused_quiet O L C ObservedAs a t s id until clock _ id_fits e T in
          ((rw claim_is stand, o), λ m d v. absurd (not_verifying m d (sym claim_is ∙ v)))

      clear : (m id until d clock : ℕ) → id ≡ g → clock ≤ t → O.ReplyTo g y false b → TakesIn false (verifying m d) id until clock
      clear m id until d clock own_id e replies =
          let (new, T) = (laws O L C a la).reply_clear m id d clock t y (address_of L k).octets b z e lt (rw own_id fits) same (own_fits L C k lk)
          (own_long L C k lk) (C.apart k a lk la ne) (rw own_id replies) in
          (taken_quiet O L C ObservedAs a t stopped id new (Stopped (L.station a).name) _ (rw own_id fits) T (λ b. refl), λ m' d' v. clash cc)

      set_at : (m id until d clock : ℕ) → id ≡ g → clock ≤ t → O.ReplyTo g y true b → (x : Bool) → below_address (address_of L k) (address_of L a) ≡ x
          → TakesIn true (verifying m d) id until clock
      set_at m id until d clock own_id e replies true is_below =
          let (new, T) = (laws O L C a la).reply_below m id d clock t y (address_of L k).octets b z e lt (rw own_id fits) same (own_fits L C k lk)
          (own_long L C k lk) (C.apart k a lk la ne) (rw own_id replies) is_below in
          let (stand, o) = taken_quiet O L C ObservedAs a t stopped id new (Stopped (L.station a).name) _ (rw own_id fits) T (λ b. refl) in
          let claim_is = lower m d is_below in
          ((rw claim_is stand, o), λ m' d' v. let u = sym claim_is ∙ v in clash cc)
      set_at m id until d clock own_id e replies false is_below =
          let T = (laws O L C a la).reply_above m id d clock t y (address_of L k).octets b z e lt (rw own_id fits) same (own_fits L C k lk)
          (own_long L C k lk) (C.apart k a lk la ne) (rw own_id replies) is_below in
          let (stand, o) = taken_quiet O L C ObservedAs a t (verifying m d) id until (Kept (L.station a).name) _ (rw own_id fits) T (λ b. refl) in
          let claim_is = higher m d is_below in
          ((rw claim_is stand, o), λ m' d' v. tag_is O L C a la (verifying_with m id d) t _ T.host ∙ own_id)

      takes_in : (s : Claim) (f : Bool) (id until clock : ℕ) → id < 65536 → clock ≤ t → O.ReplyTo g y f b → ((m d : ℕ) → s ≡ verifying m d → id ≡ g)
          → TakesIn f s id until clock
      takes_in off f id until clock id_fits e replies tagged = late off f id until clock id_fits e replies refl refl (λ m d v. clash cc)
      takes_in (verifying m d) false id until clock id_fits e replies tagged = clear m id until d clock (tagged m d refl) e replies
      takes_in (verifying m d) true id until clock id_fits e replies tagged = set_at m id until d clock (tagged m d refl) e replies (below_address (address_of L k) (address_of L a)) refl
      takes_in unique f id until clock id_fits e replies tagged = late unique f id until clock id_fits e replies refl refl (λ m d v. clash cc)
      takes_in stopped f id until clock id_fits e replies tagged = late stopped f id until clock id_fits e replies refl refl (λ m d v. clash cc)

    pub reply_in : (s : Claim) (c : Host) (b : Sent) (f : Bool) → our_system.StandsFor a t s c → ((m d : ℕ) → s ≡ verifying m d → our_system.tag a c ≡ g)
        → our_system.IsReply a k g f b
        → TakenIn f s (receives a k z t c b.to.address b.octets)
    reply_in s c b f r tagged q =
        subst (λ (c : Host). TakenIn f s (receives a k z t c b.to.address b.octets)) (sym r.is)
        (subst (λ (x : Address). TakenIn f s (receives a k z t c₀ x b.octets)) (sym q.to)
        (takes_in b.octets q.spelling q.id_fits q.same s f r.id r.until r.clock r.id_fits r.early q.octets same_id))
      where
        c₀ : Host
        c₀ = host_with (L.station a) (state_of s r.id r.until) r.clock

        same_id : (m d : ℕ) → s ≡ verifying m d → r.id ≡ g
        same_id m d e =
            sym (ap (λ (s : Claim). id_of (state_of s r.id r.until)) e) ∙ sym (tag_is O L C a la (state_of s r.id r.until) r.clock c r.is) ∙ tagged m d e
