-- Lists of entries: the state that the check has after them, an entry that stands at the start of some octets, and that no other does.
use Rattle.std.proofs.Common.{ℕ, suc, zero, ◌+◌, ◌-◌, ◌<◌, ◌≤◌, ◌≡◌, refl, sym, ap, ◌∙◌, List, [], ◌∷◌, ◌++◌, append_assoc, append-nil, ◌⊎◌, inl, inr, arith, add-zero, zero-add, length, get_or, drop, length-append, take_at, drop_at}
use Rattle.octets.specs.Bounds.{used_by4, used_by6}
use Rattle.octets.proofs.Octets.{part_in}
use Rattle.names.specs.Names.{Labels, IsName, encode}
use Rattle.names.specs.Folding.{folded_name}
use Rattle.names.proofs.Names.{same_labels}
use Rattle.name_table.specs.Bounds.{most_names, most_records, entry_head}
use Rattle.name_table.specs.Check.{Held, State, length_at, kind_at, body_at, with_name, with_record, with_mask}
use Rattle.name_table.specs.Entries.{NameKind, unique, shared, Data, a, aaaa, ptr, Entry, name, resource, mask, kind, data_octets, body, entry_octets, table_octets, names, records_after, records, New, NameRules, MaskRules, Keeps, NoEntry, Breaks, cut_short, length_below_head, past_the_end, kind_zero, kind_above_6, not_a_name, not_4_octets, not_16_octets, not_1_octet, mask_zero, mask_above_15, root_name, too_many_names, equal_name, no_owner, too_many_records, located}
use Rattle.name_table.proofs.Fold.{Whole}

-- every name is one
abbrev pub AreNames : List Labels → Type 0
AreNames [] = Unit
AreNames (n ∷ ns) = IsName n × AreNames ns

-- the state that the check has after some entries
abbrev pub state_of : List Entry → State
state_of es = record { names = located 0 es; records = records es; at = length (table_octets es) }

pub entry_length : (e : Entry) → length (entry_octets e) ≡ entry_head + length (body e)
entry_length e = omega arith

pub table_append : (es fs : List Entry) → table_octets (es ++ fs) ≡ table_octets es ++ table_octets fs
table_append [] fs = refl
table_append (e ∷ es) fs = ap (λ (r : List ℕ). entry_octets e ++ r) (table_append es fs) ∙ sym (append_assoc (entry_octets e) (table_octets es) (table_octets fs))

table_cons : (e : Entry) (es : List Entry) → length (table_octets (e ∷ es)) ≡ entry_head + length (body e) + length (table_octets es)
table_cons e es = length-append (entry_octets e) (table_octets es) ∙ ap (λ (n : ℕ). n + length (table_octets es)) (entry_length e)

pub names_append : (es fs : List Entry) → names (es ++ fs) ≡ names es ++ names fs
names_append [] fs = refl
names_append (name k n ∷ es) fs = ap (λ (r : List Labels). n ∷ r) (names_append es fs)
names_append (resource d ∷ es) fs = names_append es fs
names_append (mask m ∷ es) fs = names_append es fs

records_append : (r : ℕ) (es fs : List Entry) → records_after r (es ++ fs) ≡ records_after (records_after r es) fs
records_append r [] fs = refl
records_append r (name k n ∷ es) fs = records_append 0 es fs
records_append r (resource d ∷ es) fs = records_append (r + 1) es fs
records_append r (mask m ∷ es) fs = records_append r es fs

pub located_append : (o : ℕ) (es fs : List Entry) → located o (es ++ fs) ≡ located o es ++ located (o + length (table_octets es)) fs
located_append o [] fs = ap (λ (i : ℕ). located i fs) (sym (add-zero o))
located_append o (name k n ∷ es) fs =
    let e : o + (entry_head + length (encode n)) + length (table_octets es) ≡ o + length (table_octets (name k n ∷ es)) = omega (arith, table_cons (name k n) es) in
    let h : Held = record { kind = kind (name k n); start = o + entry_head; end = o + (entry_head + length (encode n)); octets = encode n } in
    ap (λ (r : List Held). h ∷ r) (located_append (o + (entry_head + length (encode n))) es fs ∙ ap (λ (i : ℕ). located (o + (entry_head + length (encode n))) es ++ located i fs) e)
located_append o (resource d ∷ es) fs =
    let e : o + (entry_head + length (data_octets d)) + length (table_octets es) ≡ o + length (table_octets (resource d ∷ es)) = omega (arith, table_cons (resource d) es) in
    located_append (o + (entry_head + length (data_octets d))) es fs ∙ ap (λ (i : ℕ). located (o + (entry_head + length (data_octets d))) es ++ located i fs) e
located_append o (mask m ∷ es) fs =
    let e : o + 5 + length (table_octets es) ≡ o + length (table_octets (mask m ∷ es)) = omega (arith, table_cons (mask m) es) in
    located_append (o + 5) es fs ∙ ap (λ (i : ℕ). located (o + 5) es ++ located i fs) e

pub located_length : (o : ℕ) (es : List Entry) → length (located o es) ≡ length (names es)
located_length o [] = refl
located_length o (name k n ∷ es) = ap suc (located_length (o + (entry_head + length (encode n))) es)
located_length o (resource d ∷ es) = located_length (o + (entry_head + length (data_octets d))) es
located_length o (mask m ∷ es) = located_length (o + 5) es

at_next : (es : List Entry) (e : Entry) → length (table_octets (es ++ (e ∷ []))) ≡ length (table_octets es) + (entry_head + length (body e))
at_next es e = ap length (table_append es (e ∷ [])) ∙ length-append (table_octets es) (table_octets (e ∷ [])) ∙ omega (arith, table_cons e [])

names_next : (es : List Entry) (e : Entry) → located 0 (es ++ (e ∷ [])) ≡ located 0 es ++ located (length (table_octets es)) (e ∷ [])
names_next es e = located_append 0 es (e ∷ []) ∙ ap (λ (i : ℕ). located 0 es ++ located i (e ∷ [])) (zero-add (length (table_octets es)))

-- the state after one entry more
pub after_name : (es : List Entry) (k : NameKind) (n : Labels)
    → with_name (state_of es) (kind (name k n)) (encode n) (entry_head + length (encode n)) ≡ state_of (es ++ (name k n ∷ []))
after_name es k n = sym (rw (names_next es (name k n), records_append 0 es (name k n ∷ []), at_next es (name k n)))

pub after_record : (es : List Entry) (d : Data) → with_record (state_of es) (entry_head + length (data_octets d)) ≡ state_of (es ++ (resource d ∷ []))
after_record es d =
    sym (rw (names_next es (resource d), records_append 0 es (resource d ∷ []), at_next es (resource d), append-nil (located 0 es)))

pub after_mask : (es : List Entry) (m : ℕ) → with_mask (state_of es) 5 ≡ state_of (es ++ (mask m ∷ []))
after_mask es m = sym (rw (names_next es (mask m), records_append 0 es (mask m ∷ []), at_next es (mask m), append-nil (located 0 es)))

-- kinds
name_kind : (k : NameKind) (n : Labels) → (1 ≤ kind (name k n)) × (kind (name k n) ≤ 2)
name_kind unique n = omega arith
name_kind shared n = omega arith

data_kind : (d : Data) → (3 ≤ kind (resource d)) × (kind (resource d) ≤ 5)
data_kind (a o) = omega arith
data_kind (aaaa o) = omega arith
data_kind (ptr n) = omega arith

kind_range : (e : Entry) → (1 ≤ kind e) × (kind e ≤ 6)
kind_range (name k n) = omega (arith, name_kind k n)
kind_range (resource d) = omega (arith, data_kind d)
kind_range (mask m) = omega arith

name_kinds : (j k : NameKind) (n m : Labels) → kind (name j n) ≡ kind (name k m) → j ≡ k
name_kinds unique unique n m e = refl
name_kinds unique shared n m e = absurd (omega arith)
name_kinds shared unique n m e = absurd (omega arith)
name_kinds shared shared n m e = refl

-- an entry that stands at the start: its length, kind, body, and what follows it
module _ (e : Entry) (r : List ℕ) where
  pub entry_size : length_at (entry_octets e ++ r) ≡ entry_head + length (body e)
  entry_size = omega arith

  pub entry_kind : kind_at (entry_octets e ++ r) ≡ kind e
  entry_kind = omega (arith, (kind_range e).1)

  pub entry_whole : Whole (entry_octets e ++ r)
  entry_whole =
      let z = entry_size in
      let l = length-append (entry_octets e) r in
      let m = entry_length e in
      record { head = omega arith; least = omega arith; inside = omega arith }

  pub entry_body : body_at (entry_octets e ++ r) ≡ body e
  entry_body =
      let l : length (body e) ≡ length_at (entry_octets e ++ r) - entry_head = omega (arith, entry_size) in
      part_in (entry_octets e ++ r) entry_head (length_at (entry_octets e ++ r)) entry_whole.least entry_whole.inside
      ∙ take_at (body e) r (length_at (entry_octets e ++ r) - entry_head) l

  pub entry_rest : drop (length_at (entry_octets e ++ r)) (entry_octets e ++ r) ≡ r
  entry_rest = drop_at (entry_octets e) r (length_at (entry_octets e ++ r)) (entry_length e ∙ sym entry_size)

-- what an entry of a kind keeps
named : (es : List Entry) (e : Entry) → Keeps es e → kind e ≤ 2 → (n : Labels) × NameRules es n × (body e ≡ encode n)
named es (name k n) r h = (n, r, refl)
named es (resource d) r h = absurd (omega (arith, data_kind d))
named es (mask m) r h = absurd (omega arith)

filled : (es : List Entry) (e : Entry) → Keeps es e → (kind e ≤ 2) ⊎ (kind e ≡ 5) → (n : Labels) × IsName n × (body e ≡ encode n)
filled es (name k n) r h = (n, r.is_name, refl)
filled es (resource (a d)) r (inl h) = absurd (omega arith)
filled es (resource (a d)) r (inr h) = absurd (omega arith)
filled es (resource (aaaa d)) r (inl h) = absurd (omega arith)
filled es (resource (aaaa d)) r (inr h) = absurd (omega arith)
filled es (resource (ptr n)) r h = (n, r.0, refl)
filled es (mask m) r (inl h) = absurd (omega arith)
filled es (mask m) r (inr h) = absurd (omega arith)

owned_by : (es : List Entry) (e : Entry) → Keeps es e → 3 ≤ kind e → 1 ≤ length (names es)
owned_by es (name k n) r h = absurd (omega (arith, name_kind k n))
owned_by es (resource d) r h = r.1.has_owner
owned_by es (mask m) r h = r.has_name

counted : (es : List Entry) (e : Entry) → Keeps es e → 3 ≤ kind e → kind e ≤ 5 → records es < most_records
counted es (name k n) r h l = absurd (omega (arith, name_kind k n))
counted es (resource d) r h l = r.1.few_records
counted es (mask m) r h l = absurd (omega arith)

masked : (es : List Entry) (e : Entry) → Keeps es e → kind e ≡ 6 → (m : ℕ) × MaskRules es m × (body e ≡ m ∷ [])
masked es (name k n) r h = absurd (omega (arith, name_kind k n))
masked es (resource d) r h = absurd (omega (arith, data_kind d))
masked es (mask m) r h = (m, r, refl)

sized : (es : List Entry) (e : Entry) → Keeps es e → ((kind e ≡ 3) → length (body e) ≡ used_by4) × ((kind e ≡ 4) → length (body e) ≡ used_by6)
sized es (name k n) r = (λ h. absurd (omega (arith, name_kind k n)), λ h. absurd (omega (arith, name_kind k n)))
sized es (resource (a d)) r = (λ h. r.0.size, λ h. absurd (omega arith))
sized es (resource (aaaa d)) r = (λ h. absurd (omega arith), λ h. r.0.size)
sized es (resource (ptr n)) r = (λ h. absurd (omega arith), λ h. absurd (omega arith))
sized es (mask m) r = (λ h. absurd (omega arith), λ h. absurd (omega arith))

pub not_new : (ms : List Labels) (n : Labels) (i : ℕ) → i < length ms → folded_name (get_or ms i []) ≡ folded_name n → New ms n → ⊥
not_new [] n i h e w = omega arith
not_new (m ∷ ms) n zero h e w = w.0 e
not_new (m ∷ ms) n (suc i) h e w = not_new ms n i (omega arith) e w.1

-- A rule that is broken is one that no entry there keeps.
pub none_stands : (es : List Entry) (s : List ℕ) → Breaks es s → NoEntry es s
none_stands es s b e r k q = go b
  where
    size : length_at s ≡ entry_head + length (body e)
    size = ap length_at q ∙ entry_size e r

    kind_is : kind_at s ≡ kind e
    kind_is = ap kind_at q ∙ entry_kind e r

    body_is : body_at s ≡ body e
    body_is = ap body_at q ∙ entry_body e r

    long : length s ≡ entry_head + length (body e) + length r
    long = ap length q ∙ length-append (entry_octets e) r ∙ ap (λ (i : ℕ). i + length r) (entry_length e)

    low : kind_at s ≤ 2 → kind e ≤ 2
    low h = omega (arith, kind_is)

    high : 3 ≤ kind_at s → 3 ≤ kind e
    high h = omega (arith, kind_is)

    either : (kind_at s ≤ 2) ⊎ (kind_at s ≡ 5) → (kind e ≤ 2) ⊎ (kind e ≡ 5)
    either (inl h) = inl (low h)
    either (inr h) = inr (sym kind_is ∙ h)

    go : Breaks es s → ⊥
    go (cut_short h) = omega (arith, long)
    go (length_below_head h) = omega (arith, size)
    go (past_the_end h) = omega (arith, size, long)
    go (kind_zero h) = omega (arith, kind_is, (kind_range e).0)
    go (kind_above_6 h) = omega (arith, kind_is, (kind_range e).1)
    go (not_a_name h f) = let t = filled es e k (either h) in f t.0 t.1 (body_is ∙ t.2)
    go (not_4_octets h f) = f (ap length body_is ∙ (sized es e k).0 (sym kind_is ∙ h))
    go (not_16_octets h f) = f (ap length body_is ∙ (sized es e k).1 (sym kind_is ∙ h))
    go (not_1_octet h f) = let t = masked es e k (sym kind_is ∙ h) in f (ap length (body_is ∙ t.2))
    go (mask_zero h f) =
        let t = masked es e k (sym kind_is ∙ h) in
        let z : 0 ∷ [] ≡ t.0 ∷ [] = sym f ∙ body_is ∙ t.2 in
        omega (arith, t.1.not_zero, ap (λ (x : List ℕ). get_or x 0 0) z)
    go (mask_above_15 h m f l) =
        let t = masked es e k (sym kind_is ∙ h) in
        let z : m ∷ [] ≡ t.0 ∷ [] = sym f ∙ body_is ∙ t.2 in
        omega (arith, t.1.four_bits, ap (λ (x : List ℕ). get_or x 0 0) z)
    go (root_name h f) = let t = named es e k (low h) in t.1.not_root (same_labels t.0 [] t.1.is_name.labels tt (sym t.2 ∙ sym body_is ∙ f))
    go (too_many_names h f) = let t = named es e k (low h) in let l : length (names es) < most_names = t.1.eight_names in omega arith
    go (equal_name h n i w f j g) =
        let t = named es e k (low h) in
        let same : n ≡ t.0 = same_labels n t.0 w.labels t.1.is_name.labels (sym f ∙ body_is ∙ t.2) in
        not_new (names es) t.0 i j (g ∙ ap folded_name same) t.1.new
    go (no_owner h f) = omega (arith, owned_by es e k (high h), ap length f)
    go (too_many_records h l f) = omega (arith, counted es e k (high h) (omega (arith, kind_is)))

-- two entries that keep the rules and have one kind and one body
same_entry : (es : List Entry) (e f : Entry) → Keeps es e → Keeps es f → kind e ≡ kind f → body e ≡ body f → e ≡ f
same_entry es (name j n) (name k m) x y w q =
    let i : j ≡ k = name_kinds j k n m w in
    let l : n ≡ m = same_labels n m x.is_name.labels y.is_name.labels q in
    cc
same_entry es (name j n) (resource d) x y w q = absurd (omega (arith, name_kind j n, data_kind d))
same_entry es (resource d) (name k m) x y w q = absurd (omega (arith, name_kind k m, data_kind d))
same_entry es (name j n) (mask m) x y w q = absurd (omega (arith, name_kind j n))
same_entry es (mask m) (name j n) x y w q = absurd (omega (arith, name_kind j n))
same_entry es (resource d) (mask m) x y w q = absurd (omega (arith, data_kind d))
same_entry es (mask m) (resource d) x y w q = absurd (omega (arith, data_kind d))
same_entry es (mask m) (mask l) x y w q = cc
same_entry es (resource (a d)) (resource (a c)) x y w q = cc
same_entry es (resource (a d)) (resource (aaaa c)) x y w q = absurd (omega arith)
same_entry es (resource (a d)) (resource (ptr c)) x y w q = absurd (omega arith)
same_entry es (resource (aaaa d)) (resource (a c)) x y w q = absurd (omega arith)
same_entry es (resource (aaaa d)) (resource (aaaa c)) x y w q = cc
same_entry es (resource (aaaa d)) (resource (ptr c)) x y w q = absurd (omega arith)
same_entry es (resource (ptr d)) (resource (a c)) x y w q = absurd (omega arith)
same_entry es (resource (ptr d)) (resource (aaaa c)) x y w q = absurd (omega arith)
same_entry es (resource (ptr n)) (resource (ptr m)) x y w q =
    let l : n ≡ m = same_labels n m x.0.labels y.0.labels q in
    cc

-- At most one entry that keeps the rules stands at the start of s.
pub one_entry : (es : List Entry) (e f : Entry) (r t : List ℕ) → Keeps es e → Keeps es f → entry_octets e ++ r ≡ entry_octets f ++ t → e ≡ f
one_entry es e f r t x y q =
    same_entry es e f x y (sym (entry_kind e r) ∙ ap kind_at q ∙ entry_kind f t) (sym (entry_body e r) ∙ ap body_at q ∙ entry_body f t)

-- names stay names
pub names_kept : (es : List Entry) (e : Entry) → AreNames (names es) → Keeps es e → AreNames (names (es ++ (e ∷ [])))
names_kept es e x k = rw (names_append es (e ∷ [])) (both (names es) (names (e ∷ [])) x (one e k))
  where
    both : (ms ns : List Labels) → AreNames ms → AreNames ns → AreNames (ms ++ ns)
    both [] ns y z = z
    both (m ∷ ms) ns y z = (y.0, both ms ns y.1 z)

    one : (f : Entry) → Keeps es f → AreNames (names (f ∷ []))
    one (name j n) h = (h.is_name, tt)
    one (resource d) h = tt
    one (mask m) h = tt
