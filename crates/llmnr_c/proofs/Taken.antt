-- A step that is taken into the host that it was made of gives the host that the library's definition gives; and the outcome, the destination and
-- the octets are those on that host. So it does not matter that a call is given the names of its own interface alone.
use Rattle.std.proofs.Common.{ℕ, zero, suc, ◌<◌, ◌≡◌, refl, sym, ap, ◌∙◌, List, [], ◌∷◌, map, false, arith, length, get_or, set, get_or-set_same, leb, leb-true, leb-false}
use Rattle.std.proofs.Math.Seq.{set_out}
use Rattle.octets.specs.Bounds.{interfaces}
use Rattle.octets.proofs.Tests.{split}
use Rattle.host.specs.State.{absent, off_name, interface_of as interface_at, state_of as state_at, with_state}
use Rattle.host.specs.Outcomes.{Done}
use Rattle.host.specs.Laws.{SameHere, SameDone}
use Rattle.host.specs.Start.{start}
use Rattle.host.specs.Receive.{Arrival, receive}
use Rattle.host.specs.Tick.{tick}
use Rattle.host.specs.declared.NameState.{NameState}
use Rattle.host.specs.declared.Interface.{Interface}
use Rattle.host.specs.declared.Host.{Host}
use Rattle.host.proofs.Laws.{start_same, receive_same, tick_same}
use Rattle.lookup.specs.Outcomes.{Done as LookupDone}
use Rattle.lookup.specs.Laws.{SameQuestion}
use Rattle.lookup.specs.Receive.{Arrival as LookupArrival, receive as lookup_receive}
use Rattle.lookup.specs.Tick.{tick as lookup_tick}
use Rattle.lookup.proofs.Laws.{receive_asks_the_same, tick_asks_the_same}
use Rattle.responder.specs.Served.{changes, name_told}
use Rattle.llmnr_c.specs.Outcomes.{flat_outcome}
use Rattle.llmnr_c.specs.FlatHost.{state_of, host_of, seen, flat_state, no_names, step_on, take_step}
use Rattle.llmnr_c.specs.FlatLookup.{lookup_of, step_of as lookup_step, take_step as take_lookup}
use Rattle.llmnr_c.specs.declared.flat.FlatName.{FlatName}
use Rattle.llmnr_c.specs.declared.flat.FlatNames.{FlatNames}
use Rattle.llmnr_c.specs.declared.flat.FlatHost.{FlatHost}
use Rattle.llmnr_c.specs.declared.flat_lookup.FlatLookup.{FlatLookup}
use Rattle.llmnr_c.proofs.Lists.{Four, four, fours}
use Rattle.llmnr_c.proofs.RoundTrip.{name_back, phase_back}
use Rattle.llmnr_c.proofs.Calls.{told_number}
use Rattle.llmnr_c.proofs.Told.{Tells, silent, tells, start_tells, tick_tells, receive_tells}

-- ---- one name of an interface put in place

module _ {A B : Type 0} (g : A → B) where
  map_set : (l : List A) (i : ℕ) (x : A) → map g (set l i x) ≡ set (map g l) i (g x)
  map_set [] i x = refl
  map_set (a ∷ l) zero x = refl
  map_set (a ∷ l) (suc i) x = ap (λ (r : List B). g a ∷ r) (map_set l i x)

-- what is put in place may be what stands there then
set_read : {A : Type 0} (l : List A) (i : ℕ) (x d : A) → set l i (get_or (set l i x) i d) ≡ set l i x
set_read l i x d =
    split (leb (length l) i)
    (λ p. set_out l i _ (leb-true _ _ p) ∙ sym (set_out l i x (leb-true _ _ p)))
    (λ p. ap (set l i) (get_or-set_same l i x d (leb-false _ _ p)))

-- the names of an interface with a state of the k-th, as it then stands there
named : (l : List FlatName) (k : ℕ) (s : NameState)
    → map state_of (set l k (flat_state (get_or (set (map state_of l) k s) k off_name))) ≡ set (map state_of l) k s
named l k s =
    map_set state_of l k _
    ∙ ap (set (map state_of l) k) (name_back (get_or (set (map state_of l) k s) k off_name))
    ∙ set_read (map state_of l) k s off_name

-- ---- the host

module _ (f : FlatHost) (i : ℕ) (n : FlatNames) (long : length f.interfaces ≡ 4) (own : i < interfaces → n ≡ get_or f.interfaces i no_names) where
  -- what the call is given looks the same from this interface
  same_here : SameHere (host_of f) (seen f.settings f.clock n) i
  same_here = record { clock = refl; settings = refl; here = go i own }
    where
      go : (j : ℕ) → (j < interfaces → n ≡ get_or f.interfaces j no_names) → interface_at (host_of f) j ≡ interface_at (seen f.settings f.clock n) j
      go zero e = rw (e (omega arith))
      go (suc zero) e = rw (e (omega arith))
      go (suc (suc zero)) e = rw (e (omega arith))
      go (suc (suc (suc zero))) e = rw (e (omega arith))
      go (suc (suc (suc (suc j)))) e = refl

  -- a name put in place
  put : (j k : ℕ) (s : NameState) {l : List FlatNames} → Four l
      → (host_of (record {
        settings = f.settings;
        interfaces =
            set l j
            (record { names = set (get_or l j no_names).names k (flat_state (state_at (with_state (host_of (record { settings = f.settings; interfaces = l; clock = f.clock })) j k s 0) j k)) });
        clock = f.clock;
      })).interfaces
      ≡ (with_state (host_of (record { settings = f.settings; interfaces = l; clock = f.clock })) j k s 0).interfaces
  put zero k s (four a b c d) = rw (named a.names k s)
  put (suc zero) k s (four a b c d) = rw (named b.names k s)
  put (suc (suc zero)) k s (four a b c d) = rw (named c.names k s)
  put (suc (suc (suc zero))) k s (four a b c d) = rw (named d.names k s)
  put (suc (suc (suc (suc j)))) k s (four a b c d) = refl

  taken : (d e : Done) → SameDone d e i → Tells (host_of f) i d → host_of (take_step f i (step_on i e).step) ≡ d.host
  taken d e same (silent q unchanged) =
      let r : changes e.result ≡ false = ap changes (sym same.result) ∙ q in
      rw (r, ← same.after.clock, ← unchanged)
  taken d e same (tells s q changed) =
      let k = name_told d.result in
      let r : e.result ≡ d.result = sym same.result in
      let there : state_at e.host i k ≡ state_at (with_state (host_of f) i k s 0) i k
      = sym (ap (λ (x : Interface). (get_or x.names k off_name)) same.after.here) ∙ ap (λ (l : List Interface). (get_or (get_or l i absent).names k off_name)) changed in
      rw (r, q, ← told_number d.result, there, ← same.after.clock)
      (ap (λ (l : List Interface). record { interfaces = l; clock = d.host.clock }) (put i k s (fours f.interfaces long) ∙ sym changed))

-- ---- the calls

-- what a call gives on a whole host, by the step that it gives in C
pub record TakesUp (f : FlatHost) (i : ℕ) (d e : Done) : Type 0 where
  pub host : host_of (take_step f i (step_on i e).step) ≡ d.host
  pub outcome : (step_on i e).step.outcome ≡ flat_outcome d.result
  pub to : (step_on i e).step.to ≡ d.to
  pub octets : (step_on i e).octets ≡ d.octets

takes_up : (f : FlatHost) (i : ℕ) (n : FlatNames) → length f.interfaces ≡ 4 → (i < interfaces → n ≡ get_or f.interfaces i no_names) → (d e : Done) → SameDone d e i
    → Tells (host_of f) i d → TakesUp f i d e
takes_up f i n long own d e same t =
    record { host = taken f i n long own d e same t; outcome = ap flat_outcome (sym same.result); to = sym same.to; octets = sym same.octets }

module _ (f : FlatHost) (i : ℕ) (n : FlatNames) (long : length f.interfaces ≡ 4) (own : i < interfaces → n ≡ get_or f.interfaces i no_names) where
  abbrev given : Host
  given = seen f.settings f.clock n

  pub start_taken : (table : List ℕ) (k time id : ℕ) (out : List ℕ) → TakesUp f i (start (host_of f) table i k time id out) (start given table i k time id out)
  start_taken table k time id out =
      takes_up f i n long own _ _ (start_same _ _ table i k time id out (same_here f i n long own)) (start_tells (host_of f) table i time id out k)

  pub tick_taken : (table : List ℕ) (time id : ℕ) (out : List ℕ) → TakesUp f i (tick (host_of f) table i time id out) (tick given table i time id out)
  tick_taken table time id out =
      takes_up f i n long own _ _ (tick_same _ _ table i time id out (same_here f i n long own)) (tick_tells (host_of f) table i time id out)

pub receive_taken : (f : FlatHost) (a : Arrival) (n : FlatNames) → length f.interfaces ≡ 4 → (a.interface < interfaces → n ≡ get_or f.interfaces a.interface no_names)
    → TakesUp f a.interface (receive (host_of f) a) (receive (seen f.settings f.clock n) a)
receive_taken f a n long own =
    takes_up f a.interface n long own _ _ (receive_same _ _ a (same_here f a.interface n long own)) (receive_tells (host_of f) a)

-- ---- a lookup: a step that is taken into it gives the lookup that the definition gives, since what it asks never changes

lookup_taken : (f : FlatLookup) (d : LookupDone) → SameQuestion (lookup_of f) d.lookup → lookup_of (take_lookup f (lookup_step d).step) ≡ d.lookup
lookup_taken f d q = rw (phase_back d.lookup.phase, ← q.settings, ← q.interface, ← q.name, ← q.len, ← q.qtype, ← q.id)

pub lookup_receive_taken : (f : FlatLookup) (a : LookupArrival)
    → lookup_of (take_lookup f (lookup_step (lookup_receive (lookup_of f) a)).step) ≡ (lookup_receive (lookup_of f) a).lookup
lookup_receive_taken f a = lookup_taken f (lookup_receive (lookup_of f) a) (receive_asks_the_same (lookup_of f) a)

pub lookup_tick_taken : (f : FlatLookup) (time id : ℕ) (out : List ℕ)
    → lookup_of (take_lookup f (lookup_step (lookup_tick (lookup_of f) time id out)).step) ≡ (lookup_tick (lookup_of f) time id out).lookup
lookup_tick_taken f time id out = lookup_taken f (lookup_tick (lookup_of f) time id out) (tick_asks_the_same (lookup_of f) time id out)
