-- The delivered calls as a system of file Simulation: what a call sends, which of a host's states stands for which claim, which octets are a
-- query or a reply. The files below show, from the obligations alone, that it simulates the model.
use Rattle.std.proofs.Common.{◌≡◌, refl, sym, ◌∙◌, ap, subst, Bool, false, not, List, map, ℕ, zero, suc, ◌≤◌, ◌<◌, arith, get_or, take, length, replicate, get_or-set_same}
use Rattle.std.proofs.lemmas.List.{length-map, length-replicate}
use Rattle.std.proofs.Math.Logic.{dite}
use Rattle.std.proofs.Math.Decide.{ℕ_discrete}
use Rattle.octets.specs.Bounds.{used_by6}
use Rattle.octets.specs.Octets.{Octets}
use Rattle.octets.specs.declared.Endpoint.{Endpoint}
use Rattle.octets.specs.Addresses.{group_of}
use Rattle.octets.proofs.Tests.{never}
use Rattle.refusal.specs.Numbers.{Report}
use Rattle.name_table.specs.Bounds.{most_names}
use Rattle.host.specs.Bounds.{room as room_octets, latest as latest_time}
use Rattle.host.specs.declared.NameState.{NameState}
use Rattle.host.specs.declared.NameState.TheVariants.{Off, Verifying, Defending}
use Rattle.host.specs.declared.NameState.TheVariants.{Unique as IsUnique, Stopped as HasStopped}
use Rattle.host.specs.declared.Interface.{Interface}
use Rattle.host.specs.declared.Host.{Host}
use Rattle.host.specs.Outcomes.{Done, CallResult, refused as Refused, ready as Ready, quiet as Quiet, kept as Kept, query as Query, reply as Reply, unique as Unique, shared as Shared, stopped as Stopped}
use Rattle.host.specs.State.{off_name}
use Rattle.host.specs.Asking.{check_query}
use Rattle.host.specs.Start.{start}
use Rattle.host.specs.Tick.{tick}
use Rattle.uniqueness.specs.Link as Spec
use Rattle.uniqueness.specs.Link.{sort, sort_of, Station, Link, address_of, Lent, Receipt, sent, sent_length, those, has_address, is_refused, Observed, SameName, Conditions, Probe, received}
use Rattle.uniqueness.proofs.Model.{Claim, off, verifying, unique, stopped, LinkModel}
use Rattle.uniqueness.proofs.Simulation.{Output, nothing, ask, tell, Outcome, Calls, Kind, is_off, is_verifying, is_owning, is_stopped, System}
use Rattle.uniqueness.proofs.Obligations.{unstarted, in_use, host_with, Meets, Obligations}
use Rattle.uniqueness.proofs.Obligations.{verifying as verifying_with}
use AddressOrder.{rank_of, same_of_rank}
pub mod AddressOrder
pub mod Probes
pub mod StartTick
pub mod Receive
pub mod Simulate

-- 1. WHAT A CALL SENDS

pub record Sent : Type 0 where
  pub to : Endpoint
  pub octets : List ℕ

abbrev pub output_of : Spec.Sort → Sent → Output Sent
output_of (Spec.refused n) b = nothing
output_of (Spec.query len) b = ask b
output_of (Spec.reply len) b = tell b
output_of Spec.silent b = nothing

abbrev pub sent_of : Done → Sent
sent_of d = record { to = d.to; octets = sent d }

abbrev pub outcome_of : Done → Outcome Host Sent
outcome_of d = record { state = d.host; output = output_of (sort_of d) (sent_of d); accepted = not (is_refused (sort_of d)) }

pub refused_is : (o : CallResult) → not (is_refused (sort o)) ≡ false → (r : Report) × (o ≡ Refused r)
refused_is (Refused r) e = (r, refl)
refused_is Ready e = never refl e
refused_is Quiet e = never refl e
refused_is (Kept k) e = never refl e
refused_is (Query k n) e = never refl e
refused_is (Reply n) e = never refl e
refused_is (Unique k) e = never refl e
refused_is (Shared k) e = never refl e
refused_is (Stopped k) e = never refl e

pub sent_is : (d : Done) (len : ℕ) (o : CallResult) → d.result ≡ o → sent_length (sort o) ≡ len → sent d ≡ take len d.octets
sent_is d len o e l = ap (λ (n : ℕ). take n d.octets) (ap (λ (x : CallResult). sent_length (sort x)) e ∙ l)

-- the further inputs of a start or a tick
pub record Inputs : Type 0 where
  pub interface : ℕ
  pub name : ℕ
  pub lent : Lent

-- an ID and a buffer to lend
pub zeros_fit : (n : ℕ) → Octets (replicate n 0)
zeros_fit zero = tt
zeros_fit (suc n) = (omega arith, zeros_fit n)

pub some_lent : Lent
some_lent = record {
  id = 0;
  id_fits = omega arith;
  out = replicate room_octets 0;
  out_fits = zeros_fit room_octets;
  room = subst (λ (n : ℕ). room_octets ≤ n) (sym (length-replicate {A = ℕ} room_octets 0)) (omega arith);
}

pub some_receipt : Receipt
some_receipt = record { port = 0; port_fits = omega arith; lent = some_lent }

-- 2. WHAT A STATE STANDS FOR

-- the state of station s's name in a host
name_state : Station → Host → NameState
name_state s h = (get_or (get_or h.interfaces s.interface (in_use s Off)).names s.name off_name)

name_in : (s : Station) (x : NameState) (t : ℕ) → s.interface < length s.settings → s.name < most_names → name_state s (host_with s x t) ≡ x
unfolding name_state host_with
name_in s x t li ln =
    let li' : s.interface < length (map unstarted s.settings) = subst (λ (n : ℕ). s.interface < n)
    (sym (length-map s.settings unstarted)) li in
    let ln' : s.name < length (replicate most_names off_name) = ln in
    let a = get_or-set_same (map unstarted s.settings) s.interface (in_use s x) (in_use s Off) li' in
    let b = get_or-set_same (replicate most_names off_name) s.name x off_name ln' in
    ap (λ (i : Interface). (get_or i.names s.name off_name)) a ∙ b

-- the ID of a host's own query
abbrev pub id_of : NameState → ℕ
id_of Off = 0
id_of (Verifying n id timer) = id
id_of IsUnique = 0
id_of (Defending id qtype qclass timer) = 0
id_of (HasStopped until) = 0
id_of NameState.Shared = 0

-- the state of a claim: with this ID if it is verifying, and until then if it has stopped
abbrev pub state_of : Claim → ℕ → ℕ → NameState
state_of off id until = Off
state_of (verifying m d) id until = verifying_with m id d
state_of unique id until = IsUnique
state_of stopped id until = HasStopped until

-- what a probe observes
abbrev pub observation : Kind → Observed
observation is_off = Spec.off
observation is_verifying = Spec.verifying
observation is_owning = Spec.owning
observation is_stopped = Spec.stopped

abbrev kind_of : Observed → Kind
kind_of Spec.off = is_off
kind_of Spec.verifying = is_verifying
kind_of Spec.owning = is_owning
kind_of Spec.stopped = is_stopped
kind_of Spec.other = is_off

kind_observation : (x : Kind) → kind_of (observation x) ≡ x
kind_observation is_off = refl
kind_observation is_verifying = refl
kind_observation is_owning = refl
kind_observation is_stopped = refl

pub same_kind : (x y : Kind) → observation x ≡ observation y → x ≡ y
same_kind x y e = sym (kind_observation x) ∙ ap kind_of e ∙ kind_observation y

-- 3. THE LINK'S HOSTS

module _ (L : Link) (C : Conditions L) where
  pub own_fits : (k : ℕ) → k < L.count → Octets (address_of L k).octets
  own_fits k l = ((C.stations k l).fits (L.station k).interface (C.stations k l).used).octets

  pub own_long : (k : ℕ) → k < L.count → length (address_of L k).octets ≡ used_by6
  own_long k l = ((C.stations k l).fits (L.station k).interface (C.stations k l).used).long

  abbrev pub some_probe : Probe L
  some_probe = record {
    time = latest_time;
    in_range = omega arith;
    spelling = (C.stations 0 C.some).spelling;
    same = (C.stations 0 C.some).same;
    id = 0;
    id_fits = omega arith;
    source = replicate used_by6 0;
    source_long = length-replicate {A = ℕ} used_by6 0;
    source_fits = zeros_fit used_by6;
    receipt = some_receipt;
  }

module _ (L : Link) where
  abbrev pub calls : Calls Host Sent Inputs Receipt
  calls = record {
    start = λ k c x t. outcome_of (start c (L.station k).table x.interface x.name t x.lent.id x.lent.out);
    tick = λ k c x t. outcome_of (tick c (L.station k).table x.interface t x.lent.id x.lent.out);
    receive = λ k c z t j b. outcome_of (received L t c (record { sender = j; receiver = k; to = b.to; octets = b.octets }) z);
    route = λ b. those (has_address L b.to.address) L.count;
  }

  -- set up, all names Off but the one, which is in the claim's state, and a clock that is not ahead
  pub record StandsFor (k t : ℕ) (s : Claim) (c : Host) : Type 0 where
    pub id : ℕ
    pub id_fits : id < 65536
    pub until : ℕ
    pub clock : ℕ
    pub early : clock ≤ t
    pub is : c ≡ host_with (L.station k) (state_of s id until) clock

  pub tag : ℕ → Host → ℕ
  tag k c = id_of (name_state (L.station k) c)

  pub record IsQuery (a id : ℕ) (b : Sent) : Type 0 where
    pub id_fits : id < 65536
    pub to : b.to.address ≡ group_of L.family
    pub spelling : List ℕ
    pub same : SameName spelling L.name
    pub octets : b.octets ≡ check_query id spelling

  pub record IsReply (O : Obligations) (a k id : ℕ) (f : Bool) (b : Sent) : Type 0 where
    pub id_fits : id < 65536
    pub to : b.to.address ≡ address_of L a
    pub spelling : List ℕ
    pub same : SameName spelling L.name
    pub octets : O.ReplyTo id spelling f b.octets

  unfoldable pub OfName : ℕ → Inputs → Type 0
  OfName k x = x.name ≡ (L.station k).name

  unfoldable pub OnInterface : ℕ → Inputs → Type 0
  OnInterface k x = x.interface ≡ (L.station k).interface

module _ (O : Obligations) (L : Link) (C : Conditions L) where
  -- what the obligations say of host k
  pub laws : (k : ℕ) (l : k < L.count) → Meets O.ReplyTo L (L.station k) (C.stations k l)
  laws k l = O.meets L C (L.station k) (C.stations k l)

  pub tag_is : (k : ℕ) → k < L.count → (x : NameState) (t : ℕ) (c : Host) → c ≡ host_with (L.station k) x t → tag L k c ≡ id_of x
  unfolding tag
  tag_is k l x t c e =
      let li : (L.station k).interface < length (L.station k).settings = subst (λ (n : ℕ). (L.station k).interface < n)
      (sym (C.stations k l).four) (C.stations k l).used in
      ap (λ (h : Host). id_of (name_state (L.station k) h)) e ∙ ap id_of (name_in (L.station k) x t li (laws k l).few)

  abbrev pub link_model : LinkModel
  link_model = record {
    count = L.count;
    some = C.some;
    interval = L.interval;
    positive = (laws 0 C.some).set_up_interval;
    address = λ k. rank_of (address_of L k);
    apart = λ j k lj lk e.
        dite (ℕ_discrete j k) (λ p. p)
        (λ ne.
        let long = own_long L C j lj ∙ sym (own_long L C k lk) in
        never (same_of_rank (address_of L j) (address_of L k) refl long (own_fits L C j lj) (own_fits L C k lk) e) (C.apart j k lj lk ne));
  }

  abbrev pub system : (ℕ → ℕ → Host → Kind → Type 0) → System Host Sent Inputs Receipt ℕ
  system ObservedAs = record {
    calls = calls L;
    link = link_model;
    latest = latest_time;
    ObservedAs = ObservedAs;
    StandsFor = StandsFor L;
    tag = tag L;
    IsQuery = IsQuery L;
    IsReply = IsReply L O;
    OfName = OfName L;
    OnInterface = OnInterface L;
  }
