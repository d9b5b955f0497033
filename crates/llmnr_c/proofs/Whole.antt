-- A host in normal form stays so when a step is taken into it, and then it is the whole host of the library's definition, made flat. A lookup is so
-- whatever its form.
use Rattle.std.proofs.Common.{ℕ, zero, suc, ◌≡◌, sym, ap, ◌∙◌, List, [], ◌∷◌, get_or, set, length-set}
use Rattle.octets.proofs.Tests.{split}
use Rattle.host.specs.State.{state_of as state_at}
use Rattle.host.specs.Outcomes.{Done}
use Rattle.host.specs.declared.NameState.{NameState}
use Rattle.lookup.specs.Outcomes.{Done as LookupDone}
use Rattle.lookup.specs.Laws.{SameQuestion}
use Rattle.lookup.specs.Receive.{Arrival as LookupArrival, receive as lookup_receive}
use Rattle.lookup.specs.Tick.{tick as lookup_tick}
use Rattle.lookup.proofs.Laws.{receive_asks_the_same, tick_asks_the_same}
use Rattle.responder.specs.Served.{changes, name_told}
use Rattle.llmnr_c.specs.Outcomes.{flat_outcome}
use Rattle.llmnr_c.specs.FlatHost.{flat_state, flat_host, no_names, step_on, take_step}
use Rattle.llmnr_c.specs.FlatLookup.{lookup_of, flat_lookup, step_of as lookup_step, take_step as take_lookup}
use Rattle.llmnr_c.specs.Normal.{AreNormalNames, AreNormalInterfaces, IsNormalHost}
use Rattle.llmnr_c.specs.declared.flat.FlatName.{FlatName}
use Rattle.llmnr_c.specs.declared.flat.FlatNames.{FlatNames}
use Rattle.llmnr_c.specs.declared.flat.FlatHost.{FlatHost}
use Rattle.llmnr_c.specs.declared.flat_lookup.FlatLookup.{FlatLookup}
use Rattle.llmnr_c.proofs.RoundTrip.{name_normal, host_forth}
use Rattle.llmnr_c.proofs.Taken.{TakesUp}

names_set : (l : List FlatName) (k : ℕ) (s : NameState) → AreNormalNames l → AreNormalNames (set l k (flat_state s))
names_set [] k s a = tt
names_set (x ∷ l) zero s a = (name_normal s, a.1)
names_set (x ∷ l) (suc k) s a = (a.0, names_set l k s a.1)

names_there : (l : List FlatNames) (i : ℕ) → AreNormalInterfaces l → AreNormalNames (get_or l i no_names).names
names_there [] i a = tt
names_there (x ∷ l) zero a = a.0
names_there (x ∷ l) (suc i) a = names_there l i a.1

interfaces_set : (l : List FlatNames) (i : ℕ) (x : FlatNames) → AreNormalInterfaces l → AreNormalNames x.names → AreNormalInterfaces (set l i x)
interfaces_set [] i x a n = tt
interfaces_set (y ∷ l) zero x a n = (n, a.1)
interfaces_set (y ∷ l) (suc i) x a n = (a.0, interfaces_set l i x a.1 n)

module _ (f : FlatHost) (i : ℕ) where
  pub stays_normal : (d : Done) → IsNormalHost f → IsNormalHost (take_step f i (step_on i d).step)
  stays_normal d n =
      let there = names_set (get_or f.interfaces i no_names).names (flat_outcome d.result).name (state_at d.host i (name_told d.result)) (names_there f.interfaces i n.names) in
      split (changes d.result)
      (λ c. rw c (record { settings = n.settings; four = length-set f.interfaces i _ ∙ n.four; names = interfaces_set f.interfaces i _ n.names there }))
      (λ c. rw c (record { settings = n.settings; four = n.four; names = n.names }))

  -- of the calls whose steps proofs/Taken.antt takes up
  pub whole : (d e : Done) → IsNormalHost f → TakesUp f i d e → take_step f i (step_on i e).step ≡ flat_host d.host
  whole d e n t = sym (host_forth (take_step f i (step_on i e).step) (stays_normal e n)) ∙ ap flat_host t.host

-- ---- a lookup

lookup_whole : (f : FlatLookup) (d : LookupDone) → SameQuestion (lookup_of f) d.lookup → take_lookup f (lookup_step d).step ≡ flat_lookup d.lookup
lookup_whole f d q = rw (q.settings, q.interface, q.name, q.len, q.qtype, q.id)

pub lookup_receive_whole : (f : FlatLookup) (a : LookupArrival)
    → take_lookup f (lookup_step (lookup_receive (lookup_of f) a)).step ≡ flat_lookup (lookup_receive (lookup_of f) a).lookup
lookup_receive_whole f a = lookup_whole f (lookup_receive (lookup_of f) a) (receive_asks_the_same (lookup_of f) a)

pub lookup_tick_whole : (f : FlatLookup) (time id : ℕ) (out : List ℕ)
    → take_lookup f (lookup_step (lookup_tick (lookup_of f) time id out)).step ≡ flat_lookup (lookup_tick (lookup_of f) time id out).lookup
lookup_tick_whole f time id out = lookup_whole f (lookup_tick (lookup_of f) time id out) (tick_asks_the_same (lookup_of f) time id out)
