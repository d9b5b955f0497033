-- A query of a lookup, whole. A start sends it exactly under the conditions of specs/ExactlyWhen.antt, and what it then gives, whole.
use Rattle.std.proofs.Common.{ℕ, ◌+◌, ◌/◌, ◌%◌, ◌≤◌, ◌≡◌, refl, ap, ◌∙◌, ◌↔◌, ◌⊎◌, List, [], ◌∷◌, append_assoc, Bool, arith, length, get_or, replicate, length-append}
use Rattle.octets.specs.Octets.{Octets, put}
use Rattle.octets.specs.Addresses.{unused}
use Rattle.octets.specs.declared.Setting.{Setting}
use Rattle.octets.proofs.Tests.{not_below}
use Rattle.octets.proofs.Splice.{put_in, splice_start}
use Rattle.octets.proofs.PlainAddresses.{group_endpoint_lem}
use Rattle.refusal.specs.Checks.{Clear, passed}
use Rattle.refusal.proofs.Checks.{passes}
use Rattle.message.specs.Query.{query_octets}
use Rattle.message.proofs.Query.{query_plain}
use Rattle.host.specs.State.{IsInterval}
use Rattle.host.proofs.Conditions.{interval_is}
use Rattle.lookup.specs.State.{setting_of}
use Rattle.lookup.specs.Outcomes.{Done, query, query_for, asking}
use Rattle.lookup.specs.Start.{start_checks, started_lookup, start}
use Rattle.lookup.specs.ExactlyWhen.{lookup_query, Asks, StartsWhen, begun}
use Rattle.lookup.specs.declared.Lookup.{Lookup}
use Rattle.lookup.proofs.Laws.{start_by, Starts, start_is}
use Rattle.lookup.proofs.Conditions.{used_is, name_is, name_permitted}

-- ---- a query

-- its octets in plain words
pub query_is : (id : ℕ) (name : List ℕ) (qtype : ℕ) → query_for id name qtype ≡ lookup_query id name qtype
query_is id name qtype = ap (query_octets id 0) (append_assoc name (qtype / 256 ∷ qtype % 256 ∷ []) (0 ∷ 1 ∷ [])) ∙ query_plain id _

-- it has sixteen octets besides the name, so every buffer has room
query_fits : (id : ℕ) (name : List ℕ) (qtype : ℕ) (out : List ℕ) → length name ≤ 255 → 512 ≤ length out → length (lookup_query id name qtype) ≤ length out
query_fits id name qtype out s r = omega (arith, length-append name (qtype / 256 ∷ qtype % 256 ∷ 0 ∷ 1 ∷ []))

-- what goes out, at the front of a buffer that has room
pub sent_is : (l : Lookup) (id : ℕ) (name : List ℕ) (qtype : ℕ) (out : List ℕ) → ((setting_of l).family ≡ 4) ⊎ ((setting_of l).family ≡ 6) → length name ≤ 255
    → 512 ≤ length out → Asks l (lookup_query id name qtype) out (asking l (query_for id name qtype) out)
sent_is l id name qtype out u s r =
    let e = query_is id name qtype in
    let f : 0 + length (lookup_query id name qtype) ≤ length out = omega (arith, query_fits id name qtype out s r) in
    record {
      lookup = refl;
      result = ap (λ (x : List ℕ). query (length x)) e;
      to = group_endpoint_lem _ u;
      octets = ap (put out 0) e ∙ put_in out 0 (lookup_query id name qtype) f ∙ splice_start out (lookup_query id name qtype);
    }

-- ---- start

module _ (settings : List Setting) (i : ℕ) (name : List ℕ) (qtype : ℕ) (permission : Bool) (time id : ℕ) (out : List ℕ) (o : Octets name) where
  starts_clear : StartsWhen settings i name permission time out → Clear (start_checks settings i name permission time out)
  starts_clear w = (
    (not_below (length out) 512).1 w.room,
    (
      (used_is i (get_or settings i unused)).1 w.used,
      ((not_below 281474976710655 time).1 w.latest, ((name_is name o).1 w.name_is, ((name_permitted permission name w.name_is).1 w.may_ask, tt))),
    ),
  )

  pub starts_when : Clear (start_checks settings i name permission time out) → StartsWhen settings i name permission time out
  starts_when c =
      let n = (name_is name o).0 c.1.1.1.0 in
      record {
        room = (not_below (length out) 512).0 c.0;
        used = (used_is i (get_or settings i unused)).0 c.1.0;
        latest = (not_below 281474976710655 time).0 c.1.1.0;
        name_is = n;
        may_ask = (name_permitted permission name n).0 c.1.1.1.1.0;
      }

  -- It is sent once, and due an interval of n from now.
  pub start_asks : StartsWhen settings i name permission time out → (n : ℕ) → IsInterval (get_or settings i unused) n
      → Asks (begun settings i name qtype time id n) (lookup_query id name qtype) out (start settings i name qtype permission time id out)
  start_asks w n v =
      let s : length name ≤ 255 = omega (arith, ap length w.name_is.octets_are, w.name_is.is_name.short) in
      let e : started_lookup settings i name qtype time id ≡ begun settings i name qtype time id n =
      rw (interval_is _ n v, put_in (replicate 255 0) 0 name (omega arith), splice_start (replicate 255 0) name) in
      rw (start_by settings i name qtype permission time id out passed (passes _ (starts_clear w)), e)
      (sent_is (begun settings i name qtype time id n) id name qtype out w.used.family s w.room)

  -- A start sends a query exactly then.
  pub start_exactly : ((len : ℕ) × ((start settings i name qtype permission time id out).result ≡ query len)) ↔ StartsWhen settings i name permission time out
  start_exactly = (
    λ x. to (start_is settings i name qtype permission time id out) x.0 x.1,
    λ w. (_, ap (λ (d : Done). d.result) (start_by settings i name qtype permission time id out passed (passes _ (starts_clear w)))),
  )
    where
      to : {d : Done} → Starts settings i name qtype permission time id out d → (len : ℕ) → d.result ≡ query len → StartsWhen settings i name permission time out
      to (Starts.refuses t) len e = let z : ◌≡◌ {A = ℕ} 0 1 = cc in absurd (omega arith)
      to (Starts.asks c) len e = starts_when c
