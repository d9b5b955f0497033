-- What the reader of a resource record means, and the walk over records.
use Rattle.std.proofs.Common.{None, Option, Some, Ok, Err, ℕ, zero, suc, ◌+◌, ◌-◌, ◌<◌, ◌≤◌, ◌≡◌, refl, sym, ap, ◌∙◌, subst, List, [], ◌∷◌, ◌↔◌, ◌⊎◌, inl, inr, arith, ltb, length, lt-ltb, le-ltb, ltb-true, ltb-false}
use Rattle.octets.specs.Octets.{Octets}
use Rattle.octets.specs.Words.{big_at}
use Rattle.octets.proofs.Tests.{split}
use Rattle.octets.proofs.Readers.{finds_none}
use Rattle.names.specs.declared.RecordName.{RecordName}
use Rattle.names.specs.RecordNameWalk.{record_name_at}
use Rattle.names.proofs.Readings.{reads_a_reading}
use Rattle.message.specs.Bounds.{fixed_octets}
use Rattle.message.specs.declared.ResourceRecord.{ResourceRecord}
use Rattle.message.specs.Records.{record_of, record_at, walk_from, records_from, IsRecord, AreRecords, StopsAt}

-- ---- the reader, by what it finds

module _ (s : List ℕ) (at : ℕ) where
  pub record_no_owner : record_name_at s at ≡ None → record_at s at ≡ None
  unfolding record_at
  record_no_owner e = rw e

  module _ (n : RecordName) (e : record_name_at s at ≡ Some n) where
    pub record_cut : length s < n.next + fixed_octets → record_at s at ≡ None
    unfolding record_at
    record_cut h = rw (e, lt-ltb _ _ h)

    pub record_data_cut : n.next + fixed_octets ≤ length s → length s < n.next + fixed_octets + big_at s (n.next + 8) → record_at s at ≡ None
    unfolding record_at
    record_data_cut h k = rw (e, le-ltb _ _ h, lt-ltb _ _ k)

    pub record_good : n.next + fixed_octets + big_at s (n.next + 8) ≤ length s → record_at s at ≡ Some (record_of s n n.next)
    unfolding record_at
    record_good k =
        let h : n.next + fixed_octets ≤ length s = omega arith in
        rw (e, le-ltb _ _ h, le-ltb _ _ k)

-- ---- in plain words

is_record : (s : List ℕ) (at : ℕ) (n : RecordName) → Octets s → record_name_at s at ≡ Some n
    → n.next + fixed_octets + big_at s (n.next + 8) ≤ length s → IsRecord s at (record_of s n n.next)
is_record s at n o e h =
    record {
      owner = (reads_a_reading s at n o).0 e;
      rtype = refl;
      class = refl;
      ttl = refl;
      len = refl;
      start = refl;
      next = refl;
      whole = h;
    }

found : (s : List ℕ) (at : ℕ) (r : ResourceRecord) → Octets s → record_at s at ≡ Some r → IsRecord s at r
found s at r o e = go (record_name_at s at) refl
  where
    go : (m : Option RecordName) → record_name_at s at ≡ m → IsRecord s at r
    go None f = absurd (let z : ◌≡◌ {A = ℕ} 0 1 = cc (record_no_owner s at f) in omega arith)
    go (Some n) f =
        split
        (ltb (length s) (n.next + fixed_octets))
        (λ t. absurd (let z : ◌≡◌ {A = ℕ} 0 1 = cc (record_cut s at n f (ltb-true _ _ t)) in omega arith))
        (λ t. split
        (ltb (length s) (n.next + fixed_octets + big_at s (n.next + 8)))
        (λ u. absurd (let z : ◌≡◌ {A = ℕ} 0 1 = cc (record_data_cut s at n f (ltb-false _ _ t) (ltb-true _ _ u)) in omega arith))
        (λ u.
        let h : n.next + fixed_octets + big_at s (n.next + 8) ≤ length s = ltb-false _ _ u in
        let g : record_of s n n.next ≡ r = cc (record_good s at n f h) in
        subst (λ (x : ResourceRecord). IsRecord s at x) g (is_record s at n o f h)))

same_record : (s : List ℕ) (at : ℕ) (r : ResourceRecord) → IsRecord s at r → record_of s r.owner r.owner.next ≡ r
same_record s at r f =
    go (sym f.rtype) (sym f.class) (sym f.ttl) (sym f.len) (sym f.start)
    (sym (f.next ∙ ap (λ (k : ℕ). k + r.len) f.start ∙ ap (λ (k : ℕ). r.owner.next + fixed_octets + k) f.len))
  where
    go : {t c l n p e t2 c2 l2 n2 p2 e2 : ℕ} → t ≡ t2 → c ≡ c2 → l ≡ l2 → n ≡ n2 → p ≡ p2 → e ≡ e2
        → ◌≡◌ {A = ResourceRecord}
        (record { owner = r.owner; rtype = t; class = c; ttl = l; len = n; start = p; next = e })
        (record { owner = r.owner; rtype = t2; class = c2; ttl = l2; len = n2; start = p2; next = e2 })
    go a b c d e f = cc

read : (s : List ℕ) (at : ℕ) (r : ResourceRecord) → Octets s → IsRecord s at r → record_at s at ≡ Some r
read s at r o f =
    let h : r.owner.next + fixed_octets + big_at s (r.owner.next + 8) ≤ length s =
    omega (arith, f.start, f.len, f.next, f.whole) in
    record_good s at r.owner ((reads_a_reading s at r.owner o).1 f.owner) h ∙ ap Some (same_record s at r f)

-- The reader finds a record exactly if one stands there: an owner name, the ten fixed octets and the data, all inside.
pub reads_a_record : (s : List ℕ) (at : ℕ) (r : ResourceRecord) → Octets s → (record_at s at ≡ Some r) ↔ IsRecord s at r
reads_a_record s at r o = (found s at r o, read s at r o)

-- It answers "bad" exactly if none does.
pub reads_no_record : (s : List ℕ) (at : ℕ) → Octets s → (record_at s at ≡ None) ↔ ((r : ResourceRecord) → IsRecord s at r → ⊥)
reads_no_record s at o = finds_none (λ r. reads_a_record s at r o) (λ r e. let z : ◌≡◌ {A = ℕ} 0 1 = cc in omega arith) (either (record_at s at))
  where
    either : (m : Option ResourceRecord) → ((r : ResourceRecord) × (m ≡ Some r)) ⊎ (m ≡ None)
    either (Some r) = inl (r, refl)
    either None = inr refl

-- ---- the walk, turn by turn

pub walk_on : (k : ℕ) (s : List ℕ) (p : ℕ) (r : ResourceRecord) → 0 < k → record_at s p ≡ Some r
    → walk_from k s p ≡ walk_from (k - 1) s r.next
unfolding walk_from
walk_on zero s p r h e = absurd (omega arith)
walk_on (suc k) s p r h e = let n : suc k - 1 ≡ k = omega arith in rw (e, n)

pub walk_bad : (k : ℕ) (s : List ℕ) (p : ℕ) → 0 < k → record_at s p ≡ None → walk_from k s p ≡ Err p
unfolding walk_from
walk_bad zero s p h e = absurd (omega arith)
walk_bad (suc k) s p h e = rw e

pub walk_end : (k : ℕ) (s : List ℕ) (p : ℕ) → k ≤ 0 → walk_from k s p ≡ Ok p
unfolding walk_from
walk_end zero s p h = refl
walk_end (suc k) s p h = absurd (omega arith)

-- ---- the walk in plain words

-- k records stand one after another, from an offset up to an end
abbrev Walks : ℕ → List ℕ → ℕ → List ResourceRecord → ℕ → Type 0
Walks k s at rs end = (length rs ≡ k) × AreRecords s at rs end

-- A walk that ends has passed k records.
pub walk_passes : (k : ℕ) (s : List ℕ) (at e : ℕ) → Octets s → walk_from k s at ≡ Ok e → Walks k s at (records_from k s at) e
unfolding walk_from records_from
walk_passes zero s at e o f = (refl, cc)
walk_passes (suc k) s at e o f = go (record_at s at) refl (λ r. walk_passes k s r.next e o)
  where
    go : (m : Option ResourceRecord) → record_at s at ≡ m
        → ((r : ResourceRecord) → walk_from k s r.next ≡ Ok e → Walks k s r.next (records_from k s r.next) e)
        → Walks (suc k) s at (records_from (suc k) s at) e
    go (Some r) g i =
        let w = i r (rw g at f) in
        rw g (ap suc w.0, (found s at r o g, w.1))
    go None g i = let z : ◌≡◌ {A = ℕ} 0 1 = cc (rw g at f) in absurd (omega arith)

walks_to : (k : ℕ) (s : List ℕ) (at e : ℕ) (rs : List ResourceRecord) → Octets s → length rs ≡ k → AreRecords s at rs e
    → walk_from k s at ≡ Ok e
unfolding walk_from
walks_to zero s at e [] o l a = ap Ok a
walks_to zero s at e (r ∷ rs) o l a = absurd (omega arith)
walks_to (suc k) s at e [] o l a = absurd (omega arith)
walks_to (suc k) s at e (r ∷ rs) o l a =
    rw (read s at r o a.0) (walks_to k s r.next e rs o (omega arith) a.1)

-- The walk over k records ends at an offset exactly if k records stand one after another up to it.
pub walks : (k : ℕ) (s : List ℕ) (at e : ℕ) → Octets s
    → (walk_from k s at ≡ Ok e) ↔ ((rs : List ResourceRecord) × (length rs ≡ k) × AreRecords s at rs e)
walks k s at e o = (λ f. let w = walk_passes k s at e o f in (records_from k s at, w.0, w.1), λ w. walks_to k s at e w.0 o w.1 w.2)

-- fewer than k records stand one after another, and after them stands none
abbrev Stops : ℕ → List ℕ → ℕ → List ResourceRecord → ℕ → Type 0
Stops k s at rs bad = (length rs < k) × AreRecords s at rs bad × ((r : ResourceRecord) → IsRecord s bad r → ⊥)

-- One that stops has passed the records before the first bad one.
pub walk_passes_some : (k : ℕ) (s : List ℕ) (at p : ℕ) → Octets s → walk_from k s at ≡ Err p → Stops k s at (records_from k s at) p
unfolding walk_from records_from
walk_passes_some zero s at p o f = let z : ◌≡◌ {A = ℕ} 0 1 = cc in absurd (omega arith)
walk_passes_some (suc k) s at p o f = go (record_at s at) refl (λ r. walk_passes_some k s r.next p o)
  where
    go : (m : Option ResourceRecord) → record_at s at ≡ m
        → ((r : ResourceRecord) → walk_from k s r.next ≡ Err p → Stops k s r.next (records_from k s r.next) p)
        → Stops (suc k) s at (records_from (suc k) s at) p
    go (Some r) g i =
        let w = i r (rw g at f) in
        rw g (omega (arith, w.0), (found s at r o g, w.1), w.2)
    go None g i =
        let e : at ≡ p = cc (rw g at f) in
        rw g (omega arith, e, subst (λ (x : ℕ). (r : ResourceRecord) → IsRecord s x r → ⊥) e ((reads_no_record s at o).0 g))

stops_there : (k : ℕ) (s : List ℕ) (at p : ℕ) (rs : List ResourceRecord) → Octets s → length rs < k → AreRecords s at rs p
    → ((r : ResourceRecord) → IsRecord s p r → ⊥) → walk_from k s at ≡ Err p
unfolding walk_from
stops_there zero s at p rs o l a n = absurd (omega arith)
stops_there (suc k) s at p [] o l a n = rw (a, (reads_no_record s p o).1 n)
stops_there (suc k) s at p (r ∷ rs) o l a n =
    rw (read s at r o a.0) (stops_there k s r.next p rs o (omega arith) a.1 n)

-- It stops at an offset exactly if fewer records stand one after another up to it, and after them stands none.
pub stops : (k : ℕ) (s : List ℕ) (at p : ℕ) → Octets s → (walk_from k s at ≡ Err p) ↔ StopsAt s at k p
stops k s at p o = (to, λ w. stops_there k s at p w.records o w.fewer w.are w.none)
  where
    to : walk_from k s at ≡ Err p → StopsAt s at k p
    to f =
        let w = walk_passes_some k s at p o f in
        record { records = records_from k s at; fewer = w.0; are = w.1; none = w.2 }
