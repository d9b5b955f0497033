-- What the names and records of a good table are, by number.
use Rattle.std.proofs.Common.{ℕ, suc, zero, ◌+◌, ◌-◌, ◌<◌, ◌≤◌, ◌≡◌, refl, sym, ap, ◌∙◌, subst, List, [], ◌∷◌, ◌++◌, append_assoc, map, arith, length, get_or, take, drop, length-append, length-drop, take_at, drop_at, drop-drop}
use Rattle.octets.specs.Octets.{part_of}
use Rattle.octets.proofs.Tests.{split}
use Rattle.octets.proofs.Octets.{part_in}
use Rattle.names.specs.Names.{Labels, encode}
use Rattle.name_table.specs.Bounds.{everywhere, entry_head}
use Rattle.name_table.specs.Kinds.{kind_of}
use Rattle.name_table.specs.Masks.{is_valid}
use Rattle.name_table.specs.declared.Kind.{Kind}
use Rattle.name_table.specs.declared.Kind.TheVariants.{Unique, Shared, Octets, Target, Mask, Unknown}
use Rattle.name_table.specs.declared.Record.{Record}
use Rattle.name_table.specs.declared.RecordRead.{RecordRead}
use Rattle.name_table.specs.declared.RecordRead.TheVariants.{Good, Mask, End}
use Rattle.name_table.specs.Check.{no_name, is_whole, length_at, kind_at}
use Rattle.name_table.specs.Records.{record_by, record_at, Masked, on_record, records_from, records_under, records_of, valid_on, answer_in}
use Rattle.name_table.specs.Entries.{NameKind, unique, shared, Data, a, aaaa, ptr, Entry, name, resource, mask, kind, data_octets, data_type, body, entry_octets, table_octets, names, located, Owned, leading, owned, valid_for, Answer, answer_of, GoodTable}
use Rattle.name_table.proofs.Fold.{whole_yes, whole_is}
use Rattle.name_table.proofs.Entries.{entry_length, entry_size, entry_kind, entry_whole}

-- a record or a mask that is read at an offset ends after it begins, within the table
abbrev pub Inside : List ℕ → ℕ → RecordRead → Type 0
Inside s at (Good r) = (at + entry_head ≤ r.end) × (r.end ≤ length s)
Inside s at (Mask m end) = (at + entry_head ≤ end) × (end ≤ length s)
Inside s at End = Unit

inside_by : (s : List ℕ) (at : ℕ) (k : Kind) (u : List ℕ) (start end : ℕ) → (at + entry_head ≤ end) × (end ≤ length s) → Inside s at (record_by k u start end)
unfolding record_by
inside_by s at Unique u start end h = tt
inside_by s at Shared u start end h = tt
inside_by s at (Octets t n) u start end h = h
inside_by s at (Target t) u start end h = h
inside_by s at Mask u start end h = h
inside_by s at Unknown u start end h = tt

read_inside : (s : List ℕ) (at : ℕ) → Inside s at (record_at s at)
unfolding record_at
read_inside s at =
    split (is_whole (drop at s))
    (λ p. let w = whole_is (drop at s) p in
    rw p (inside_by s at (kind_of (kind_at (drop at s))) (drop at s) (at + entry_head) (at + length_at (drop at s))
    (omega (arith, w.least), omega (arith, w.head, w.inside, length-drop at s))))
    (λ p. rw p tt)

pub read_is_inside : (s : List ℕ) (at : ℕ) (x : RecordRead) → record_at s at ≡ x → Inside s at x
read_is_inside s at x e = subst (Inside s at) e (read_inside s at)

-- past the end there is no record
past : (k : ℕ) (s : List ℕ) (m at : ℕ) → length s < at → records_from (suc k) s m at ≡ []
unfolding records_from record_at
past k s m at h =
    split (is_whole (drop at s))
    (λ p. let w = whole_is (drop at s) p in absurd (omega (arith, w.head, length-drop at s)))
    (λ p. rw p)

-- any fuel that reaches the end of the table does
pub records_fuel : (k j : ℕ) (s : List ℕ) (m at : ℕ) → length s < at + k → length s < at + j → records_from k s m at ≡ records_from j s m at
unfolding records_from
records_fuel zero zero s m at h g = refl
records_fuel zero (suc j) s m at h g = sym (past j s m at (omega arith))
records_fuel (suc k) zero s m at h g = past k s m at (omega arith)
records_fuel (suc k) (suc j) s m at h g = go (record_at s at) (read_inside s at) (records_fuel k j s)
  where
    go : (x : RecordRead) → Inside s at x
        → ((l end : ℕ) → length s < end + k → length s < end + j → records_from k s l end ≡ records_from j s l end)
        → on_record x m (records_from k s) ≡ on_record x m (records_from j s)
    go (Good r) i f = ap (λ (t : List Masked). record { valid = m; held = r } ∷ t) (f m r.end (omega arith) (omega arith))
    go (Mask l end) i f = f l end (omega arith) (omega arith)
    go End i f = refl

-- the records from an offset on are the one there, if any, and those from its end on
pub records_turn : (s : List ℕ) (m at : ℕ) → records_under s m at ≡ on_record (record_at s at) m (λ l end. records_under s l end)
unfolding records_from
records_turn s m at = go (record_at s at) (read_inside s at)
  where
    go : (x : RecordRead) → Inside s at x → on_record x m (records_from (length s) s) ≡ on_record x m (λ l end. records_under s l end)
    go (Good r) i =
        ap (λ (t : List Masked). record { valid = m; held = r } ∷ t) (records_fuel (length s) (suc (length s)) s m r.end (omega arith) (omega arith))
    go (Mask l end) i = records_fuel (length s) (suc (length s)) s l end (omega arith) (omega arith)
    go End i = refl

module _ (s : List ℕ) (m at : ℕ) where
  pub records_on : (r : Record) → record_at s at ≡ Good r → records_under s m at ≡ record { valid = m; held = r } ∷ records_under s m r.end
  records_on r e = records_turn s m at ∙ rw e

  pub records_mask : (l end : ℕ) → record_at s at ≡ Mask l end → records_under s m at ≡ records_under s l end
  records_mask l end e = records_turn s m at ∙ rw e

  pub records_end : record_at s at ≡ End → records_under s m at ≡ []
  records_end e = records_turn s m at ∙ rw e

-- an entry that stands after the octets b, and before r
module _ (s b : List ℕ) (e : Entry) (r : List ℕ) (q : s ≡ b ++ (entry_octets e ++ r)) where
  rest_is : drop (length b) s ≡ entry_octets e ++ r
  rest_is = ap (drop (length b)) q ∙ drop_at b (entry_octets e ++ r) (length b) refl

  pub long : length s ≡ length b + (entry_head + length (body e)) + length r
  long = ap length q ∙ length-append b (entry_octets e ++ r) ∙ omega (arith, length-append (entry_octets e) r, entry_length e)

  -- its body is the part between its head and its end
  pub body_stands : part_of s (length b + entry_head) (length b + (entry_head + length (body e))) ≡ body e
  body_stands =
      let h : length b + entry_head ≤ length b + (entry_head + length (body e)) = omega arith in
      let g : length b + (entry_head + length (body e)) ≤ length s = omega (arith, long) in
      let z : length (body e) ≡ length b + (entry_head + length (body e)) - (length b + entry_head) = omega arith in
      part_in s (length b + entry_head) (length b + (entry_head + length (body e))) h g
      ∙ ap (take (length b + (entry_head + length (body e)) - (length b + entry_head))) (sym (drop-drop entry_head (length b) s) ∙ ap (drop entry_head) rest_is)
      ∙ take_at (body e) r _ z

  pub record_stands : record_at s (length b) ≡ record_by (kind_of (kind e)) (entry_octets e ++ r) (length b + entry_head) (length b + (entry_head + length (body e)))
  unfolding record_at
  record_stands = rw (rest_is, whole_yes (entry_octets e ++ r) (entry_whole e r), entry_kind e r, entry_size e r)

  -- what stands after it
  pub next_stands : s ≡ (b ++ entry_octets e) ++ r
  next_stands = q ∙ sym (append_assoc b (entry_octets e) r)

  pub next_at : length (b ++ entry_octets e) ≡ length b + (entry_head + length (body e))
  next_at = length-append b (entry_octets e) ∙ ap (λ (n : ℕ). length b + n) (entry_length e)

pub record_of_data : (d : Data) (u : List ℕ) (start end : ℕ)
    → record_by (kind_of (kind (resource d))) u start end ≡ Good (record { rtype = data_type d; start = start; end = end })
unfolding record_by kind_of
record_of_data (a o) u start end = refl
record_of_data (aaaa o) u start end = refl
record_of_data (ptr n) u start end = refl

pub no_record : (k : NameKind) (n : Labels) (u : List ℕ) (start end : ℕ) → record_by (kind_of (kind (name k n))) u start end ≡ End
unfolding record_by kind_of
no_record unique n u start end = refl
no_record shared n u start end = refl

mask_there : (m : ℕ) (r : List ℕ) (start end : ℕ) → record_by (kind_of (kind (mask m))) (entry_octets (mask m) ++ r) start end ≡ Mask m end
unfolding record_by kind_of
mask_there m r start end = refl

pub none_at : (s : List ℕ) (at : ℕ) → drop at s ≡ [] → record_at s at ≡ End
unfolding record_at is_whole
none_at s at e = rw e

-- a record with its mask: as it stands in the table, and as an entry has it
abbrev pub shown_in : List ℕ → Masked → ℕ × Answer
shown_in s r = (r.valid, answer_in s r.held)

abbrev pub shown_of : Owned → ℕ × Answer
shown_of o = (o.valid, answer_of o.rdata)

-- the records that some entries begin with
leads : (k : ℕ) (s b : List ℕ) (m : ℕ) (es : List Entry) → s ≡ b ++ table_octets es → length (table_octets es) < k
    → map (shown_in s) (records_from k s m (length b)) ≡ map shown_of (leading m es)
unfolding records_from
leads zero s b m es q h = absurd (omega arith)
leads (suc k) s b m [] q h = rw (none_at s (length b) (ap (drop (length b)) q ∙ drop_at b [] (length b) refl))
leads (suc k) s b m (name j n ∷ es) q h =
    rw (record_stands s b (name j n) (table_octets es) q, no_record j n (entry_octets (name j n) ++ table_octets es) (length b + entry_head) (length b + (entry_head + length (encode n))))
leads (suc k) s b m (resource d ∷ es) q h =
    let e : Entry = resource d in
    let r = table_octets es in
    let i : record_at s (length b) ≡ Good (record { rtype = data_type d; start = length b + entry_head; end = length b + (entry_head + length (data_octets d)) }) = record_stands s b e r q ∙ record_of_data d (entry_octets e ++ r) (length b + entry_head) (length b + (entry_head + length (data_octets d))) in
    let l : length (table_octets es) < k = omega (arith, length-append (entry_octets e) r, entry_length e) in
    let t = leads k s (b ++ entry_octets e) m es (next_stands s b e r q) l in
    rw (i, body_stands s b e r q) (ap (λ (u : List (ℕ × Answer)). (m, answer_of d) ∷ u) (rw (next_at s b e r q) at t))
leads (suc k) s b m (mask l ∷ es) q h =
    let e : Entry = mask l in
    let r = table_octets es in
    let i : record_at s (length b) ≡ Mask l (length b + 5) = record_stands s b e r q ∙ mask_there l r (length b + entry_head) (length b + 5) in
    let g : length (table_octets es) < k = omega (arith, length-append (entry_octets e) r, entry_length e) in
    let t = leads k s (b ++ entry_octets e) l es (next_stands s b e r q) g in
    rw i (rw (next_at s b e r q) at t)

-- some entries that stand after the octets b: the octets and the records of their k-th name
by_number : (s b : List ℕ) (es : List Entry) (k : ℕ) → s ≡ b ++ table_octets es → k < length (names es)
    → (part_of s (get_or (located (length b) es) k no_name).start (get_or (located (length b) es) k no_name).end ≡ encode (get_or (names es) k []))
    × (map (shown_in s) (records_of s (get_or (located (length b) es) k no_name).end) ≡ map shown_of (get_or (owned es) k []))
by_number s b [] k q h = absurd (omega arith)
by_number s b (name j n ∷ es) zero q h =
    let e : Entry = name j n in
    let r = table_octets es in
    let l : length (table_octets es) < suc (length s) = omega (arith, long s b e r q) in
    (body_stands s b e r q, rw (next_at s b e r q) at (leads (suc (length s)) s (b ++ entry_octets e) everywhere es (next_stands s b e r q) l))
by_number s b (name j n ∷ es) (suc k) q h =
    let e : Entry = name j n in
    let r = table_octets es in
    rw (next_at s b e r q) at (by_number s (b ++ entry_octets e) es k (next_stands s b e r q) (omega arith))
by_number s b (resource d ∷ es) k q h =
    let e : Entry = resource d in
    let r = table_octets es in
    rw (next_at s b e r q) at (by_number s (b ++ entry_octets e) es k (next_stands s b e r q) h)
by_number s b (mask m ∷ es) k q h =
    let e : Entry = mask m in
    let r = table_octets es in
    rw (next_at s b e r q) at (by_number s (b ++ entry_octets e) es k (next_stands s b e r q) h)

-- of records that are the same with their masks, the same are valid
valid_same : (s : List ℕ) (i : ℕ) (rs : List Masked) (os : List Owned) → map (shown_in s) rs ≡ map shown_of os
    → map (answer_in s) (valid_on i rs) ≡ map answer_of (valid_for i os)
unfolding valid_on
valid_same s i [] [] e = refl
valid_same s i [] (o ∷ os) e = absurd (omega (arith, ap length e))
valid_same s i (r ∷ rs) [] e = absurd (omega (arith, ap length e))
valid_same s i (r ∷ rs) (o ∷ os) e =
    let h : shown_in s r ≡ shown_of o = cc in
    let v : r.valid ≡ o.valid = ap (λ (p : ℕ × Answer). p.0) h in
    let x : answer_in s r.held ≡ answer_of o.rdata = ap (λ (p : ℕ × Answer). p.1) h in
    let t = valid_same s i rs os cc in
    split (is_valid o.valid i)
    (λ y. rw (v, y) (ap (λ (z : Answer). z ∷ map (answer_in s) (valid_on i rs)) x ∙ ap (λ (z : List Answer). answer_of o.rdata ∷ z) t))
    (λ y. rw (v, y) t)

module _ (s : List ℕ) (t : GoodTable s) (k : ℕ) (h : k < length (names t.entries)) where
  -- The k-th name of a good table stands where the check says.
  pub name_stands : part_of s (get_or (located 0 t.entries) k no_name).start (get_or (located 0 t.entries) k no_name).end ≡ encode (get_or (names t.entries) k [])
  name_stands = (by_number s [] t.entries k t.octets h).0

  -- The records read from the end of the k-th name on are that name's, in order, each with its mask, type and data.
  pub records_are : map (shown_in s) (records_of s (get_or (located 0 t.entries) k no_name).end) ≡ map shown_of (get_or (owned t.entries) k [])
  records_are = (by_number s [] t.entries k t.octets h).1

  -- Those of them that are valid on an interface are that name's records that are.
  pub valid_are : (i : ℕ) → map (answer_in s) (valid_on i (records_of s (get_or (located 0 t.entries) k no_name).end))
      ≡ map answer_of (valid_for i (get_or (owned t.entries) k []))
  valid_are i = valid_same s i _ (get_or (owned t.entries) k []) records_are

-- a turn of the loop that counts records
pub count_on : (s : List ℕ) (m at : ℕ) (r : Record) → record_at s at ≡ Good r → length (records_under s m at) ≡ 1 + length (records_under s m r.end)
count_on s m at r e = ap length (records_on s m at r e) ∙ omega arith

pub count_mask : (s : List ℕ) (m at l end : ℕ) → record_at s at ≡ Mask l end → length (records_under s m at) ≡ length (records_under s l end)
count_mask s m at l end e = ap length (records_mask s m at l end e)

pub count_end : (s : List ℕ) (m at : ℕ) → record_at s at ≡ End → length (records_under s m at) ≡ 0
count_end s m at e = ap length (records_end s m at e)
