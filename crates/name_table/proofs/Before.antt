-- What has no kind 6 is read as it was: a table that was good is good with the same names and the same records of each, on every interface;
-- one that was bad is bad at the same offset, unless a kind 6 stands there.
use Rattle.std.proofs.Common.{None, Option, Some, ℕ, suc, zero, ◌+◌, ◌<◌, ◌≡◌, refl, sym, ap, ◌∙◌, subst, List, [], ◌∷◌, ◌++◌, ◌⊎◌, inl, inr, arith, ltb, eqb, length, get_or, drop, length-append, drop_at, drop-drop, eq-eqb, ne_eqb, eqb-true}
use Rattle.std.proofs.lemmas.Bool.{eqb-false}
use Rattle.octets.specs.Octets.{Octets}
use Rattle.octets.proofs.Tests.{split}
use Rattle.name_table.specs.Bounds.{longest_table, everywhere, entry_head}
use Rattle.name_table.specs.Kinds.{kind_of}
use Rattle.name_table.specs.Check.{Held, State, Stepped, on, broken, on_step, Walked, whole, stopped, good, bad, checked_by, length_at, kind_at, body_at, is_whole, form_by, form_at, step_by, if_new, find_name, with_name, no_name, step, from, start, check_table}
use Rattle.name_table.specs.Entries.{unique, shared, a, aaaa, ptr, Entry, name, resource, mask, kind, data_type, body, entry_octets, table_octets, names, NoMask, GoodTable, located}
use Rattle.name_table.specs.Records.{record_at, Masked, records_from, records_of, valid_on}
use Rattle.name_table.specs.Before.{kind_before, form_before, step_before, from_before, check_before, record_before, records_from_before, records_before}
use Rattle.name_table.specs.declared.Form.{Form}
use Rattle.name_table.specs.declared.Form.TheVariants.{Name, Record, Mask}
use Rattle.name_table.specs.declared.Record.{Record as TableRecord}
use Rattle.name_table.specs.declared.RecordRead.TheVariants.{End}
use Rattle.name_table.proofs.Entries.{located_length, entry_length, entry_kind, entry_rest}
use Rattle.name_table.proofs.Meaning.{good_iff}
use Rattle.name_table.proofs.Records.{record_stands, next_stands, next_at, long, none_at, no_record, record_of_data}
use Rattle.name_table.proofs.Masks.{everywhere_valid}

-- ---- the check

kind_same : (k : ℕ) → (k ≡ 6 → ⊥) → kind_before k ≡ kind_of k
unfolding kind_before kind_of
kind_same k h = rw (ne_eqb k 6 h)

step_same : (s : List ℕ) (σ : State) → (kind_at s ≡ 6 → ⊥) → step_before s σ ≡ step s σ
unfolding step_before form_before step form_at
step_same s σ h = rw (kind_same (kind_at s) h)

step_six : (s : List ℕ) (σ : State) → kind_at s ≡ 6 → step_before s σ ≡ broken
unfolding step_before form_before kind_before form_by
step_six s σ e = split (is_whole s) (λ w. rw (w, e)) (λ w. rw w)

-- a step moves on by the length of its entry
moved : (f : Option Form) (k : ℕ) (b : List ℕ) (len : ℕ) (σ τ : State) → step_by f k b len σ ≡ on τ → τ.at ≡ σ.at + len
moved (Some Name) k b len σ τ e = go (find_name σ.names b) e
  where
    go : (x : Option ℕ) → if_new x (with_name σ k b len) ≡ on τ → τ.at ≡ σ.at + len
    go (Some j) q = absurd (let z : ◌≡◌ {A = ℕ} 0 1 = cc in omega arith)
    go None q = let z : with_name σ k b len ≡ τ = cc in ap (λ (v : State). v.at) (sym z)
moved (Some Record) k b len σ τ e = let z : record { names = σ.names; records = σ.records + 1; at = σ.at + len } ≡ τ = cc in ap (λ (v : State). v.at) (sym z)
moved (Some Mask) k b len σ τ e = let z : record { names = σ.names; records = σ.records; at = σ.at + len } ≡ τ = cc in ap (λ (v : State). v.at) (sym z)
moved None k b len σ τ e = absurd (let z : ◌≡◌ {A = ℕ} 0 1 = cc in omega arith)

step_moves : (s : List ℕ) (σ τ : State) → step s σ ≡ on τ → τ.at ≡ σ.at + length_at s
unfolding step
step_moves s σ τ e = moved (form_at s (length σ.names) σ.records) (kind_at s) (body_at s) (length_at s) σ τ e

module _ (k : ℕ) (s : List ℕ) (σ : State) where
  end_before : length s ≡ 0 → from_before (suc k) s σ ≡ whole σ
  unfolding from_before
  end_before e = rw (eq-eqb _ _ e)

  turn_before : (x : Stepped) → (length s ≡ 0 → ⊥) → step_before s σ ≡ x
      → from_before (suc k) s σ ≡ on_step x (from_before k (drop (length_at s) s)) σ.at
  unfolding from_before
  turn_before x n e = rw (ne_eqb _ _ n, e)

-- the same as now, or stopped at a kind 6
data SameOr (s : List ℕ) (now : Walked) : Walked → Type 0 where
  same : SameOr s now now
  six : (at : ℕ) → kind_at (drop at s) ≡ 6 → SameOr s now (stopped at)

walk : (k : ℕ) (s u : List ℕ) (σ : State) → u ≡ drop σ.at s → SameOr s (from k u σ) (from_before k u σ)
unfolding from from_before
walk zero s u σ p = same
walk (suc k) s u σ p =
    split (eqb (length u) 0)
    (λ e. rw e same)
    (λ e. split (eqb (kind_at u) 6)
    (λ q. let z : step_before u σ ≡ broken = step_six u σ (eqb-true _ _ q) in
    rw (e, z) (six σ.at (ap kind_at (sym p) ∙ eqb-true _ _ q)))
    (λ q. let z = step_same u σ (eqb-false _ _ q) in rw (e, z) (go (step u σ) refl (λ τ. walk k s (drop (length_at u) u) τ))))
  where
    go : (x : Stepped) → step u σ ≡ x
        → ((τ : State) → drop (length_at u) u ≡ drop τ.at s → SameOr s (from k (drop (length_at u) u) τ) (from_before k (drop (length_at u) u) τ))
        → SameOr s (on_step x (from k (drop (length_at u) u)) σ.at) (on_step x (from_before k (drop (length_at u) u)) σ.at)
    go (on τ) e f =
        f τ (ap (drop (length_at u)) p ∙ drop-drop (length_at u) σ.at s ∙ ap (λ (i : ℕ). drop i s) (sym (step_moves u σ τ e)))
    go broken e f = same

-- A table is checked as it was, or it was bad at an offset where a kind 6 stands.
pub check_before_lem : (s : List ℕ) → (check_before s ≡ check_table s) ⊎ ((at : ℕ) × (check_before s ≡ bad at) × (kind_at (drop at s) ≡ 6))
unfolding check_before check_table
check_before_lem s = split (ltb longest_table (length s)) (λ e. rw e (inl refl)) (λ e. rw e (go (walk (suc (length s)) s s start refl)))
  where
    go : {w : Walked} → SameOr s (from (suc (length s)) s start) w
        → (checked_by w ≡ checked_by (from (suc (length s)) s start)) ⊎ ((at : ℕ) × (checked_by w ≡ bad at) × (kind_at (drop at s) ≡ 6))
    go same = inl refl
    go (six at e) = inr (at, refl, e)

-- So one that was good is good, with the same names.
pub good_before : (s : List ℕ) (hs : List Held) → check_before s ≡ good hs → check_table s ≡ good hs
good_before s hs e = go (check_before_lem s)
  where
    go : (check_before s ≡ check_table s) ⊎ ((at : ℕ) × (check_before s ≡ bad at) × (kind_at (drop at s) ≡ 6)) → check_table s ≡ good hs
    go (inl x) = sym x ∙ e
    go (inr (at, x, y)) = absurd (let z : good hs ≡ bad at = sym e ∙ x in let o : ◌≡◌ {A = ℕ} 0 1 = cc in omega arith)

-- a table that was good has no mask
no_masks : (k : ℕ) (es : List Entry) (σ τ : State) → from_before k (table_octets es) σ ≡ whole τ → NoMask es
unfolding from_before
no_masks zero es σ τ e = absurd (let o : ◌≡◌ {A = ℕ} 0 1 = cc in omega arith)
no_masks (suc k) [] σ τ e = tt
no_masks (suc k) (x ∷ es) σ τ e = go x (entry_kind x (table_octets es)) (λ ρ. no_masks k es ρ τ)
  where
    u : List ℕ
    u = entry_octets x ++ table_octets es

    some : length u ≡ 0 → ⊥
    some z = omega (arith, length-append (entry_octets x) (table_octets es), entry_length x)

    rest : ((ρ : State) → from_before k (table_octets es) ρ ≡ whole τ → NoMask es) → (y : Stepped) → step_before u σ ≡ y → NoMask es
    rest f (on ρ) q =
        f ρ (ap (λ (v : List ℕ). from_before k v ρ) (sym (entry_rest x (table_octets es))) ∙ sym (turn_before k u σ (on ρ) some q) ∙ e)
    rest f broken q = absurd (let z : stopped σ.at ≡ whole τ = sym (turn_before k u σ broken some q) ∙ e in let o : ◌≡◌ {A = ℕ} 0 1 = cc in omega arith)

    go : (y : Entry) → kind_at u ≡ kind y → ((ρ : State) → from_before k (table_octets es) ρ ≡ whole τ → NoMask es) → NoMask (y ∷ es)
    go (name j n) q f = rest f (step_before u σ) refl
    go (resource d) q f = rest f (step_before u σ) refl
    go (mask m) q f = absurd (let z : stopped σ.at ≡ whole τ = sym (turn_before k u σ broken some (step_six u σ q)) ∙ e in let o : ◌≡◌ {A = ℕ} 0 1 = cc in omega arith)

-- ---- the records

abbrev NotMask : Entry → Type 0
NotMask (name k n) = Unit
NotMask (resource d) = Unit
NotMask (mask m) = ⊥

other_kind : (e : Entry) → NotMask e → kind_before (kind e) ≡ kind_of (kind e)
unfolding kind_before kind_of
other_kind (name unique n) h = refl
other_kind (name shared n) h = refl
other_kind (resource (a o)) h = refl
other_kind (resource (aaaa o)) h = refl
other_kind (resource (ptr n)) h = refl
other_kind (mask m) h = absurd h

-- an entry that stands after the octets b, and before r, and is no mask
record_same : (s b : List ℕ) (e : Entry) (r : List ℕ) → s ≡ b ++ (entry_octets e ++ r) → NotMask e → record_before s (length b) ≡ record_at s (length b)
unfolding record_before record_at
record_same s b e r q h =
    let d : drop (length b) s ≡ entry_octets e ++ r = ap (drop (length b)) q ∙ drop_at b (entry_octets e ++ r) (length b) refl in
    rw (d, entry_kind e r, other_kind e h)

none_before : (s : List ℕ) (at : ℕ) → drop at s ≡ [] → record_before s at ≡ End
unfolding record_before is_whole
none_before s at e = rw e

module _ (i : ℕ) (four : i < 4) where
  valid_first : (r : TableRecord) (rs : List Masked) → valid_on i (record { valid = everywhere; held = r } ∷ rs) ≡ r ∷ valid_on i rs
  unfolding valid_on
  valid_first r rs = rw (everywhere_valid i four)

  valid_none : valid_on i [] ≡ []
  unfolding valid_on
  valid_none = refl

  -- the records that some entries begin with
  leads_same : (k : ℕ) (s b : List ℕ) (es : List Entry) → NoMask es → s ≡ b ++ table_octets es → length (table_octets es) < k
      → valid_on i (records_from k s everywhere (length b)) ≡ records_from_before k s (length b)
  unfolding records_from records_from_before
  leads_same zero s b es n q h = absurd (omega arith)
  leads_same (suc k) s b [] n q h =
      let d : drop (length b) s ≡ [] = ap (drop (length b)) q ∙ drop_at b [] (length b) refl in
      rw (none_at s (length b) d, none_before s (length b) d) valid_none
  leads_same (suc k) s b (name j l ∷ es) n q h =
      let e : Entry = name j l in
      let r = table_octets es in
      let z = record_stands s b e r q ∙ no_record j l (entry_octets e ++ r) (length b + entry_head) (length b + (entry_head + length (body e))) in
      rw (record_same s b e r q tt, z) valid_none
  leads_same (suc k) s b (resource d ∷ es) n q h =
      let e : Entry = resource d in
      let r = table_octets es in
      let z = record_stands s b e r q ∙ record_of_data d (entry_octets e ++ r) (length b + entry_head) (length b + (entry_head + length (body e))) in
      let v : TableRecord = record { rtype = data_type d; start = length b + entry_head; end = length b + (entry_head + length (body e)) } in
      let l : length (table_octets es) < k = omega (arith, length-append (entry_octets e) r, entry_length e) in
      let t = leads_same k s (b ++ entry_octets e) es n (next_stands s b e r q) l in
      rw (record_same s b e r q tt, z) (valid_first v _ ∙ ap (λ (x : List TableRecord). v ∷ x) (rw (next_at s b e r q) at t))
  leads_same (suc k) s b (mask m ∷ es) n q h = absurd n

  -- the records of the k-th name of some entries that stand after the octets b
  number_same : (s b : List ℕ) (es : List Entry) (k : ℕ) → NoMask es → s ≡ b ++ table_octets es → k < length (names es)
      → valid_on i (records_of s (get_or (located (length b) es) k no_name).end) ≡ records_before s (get_or (located (length b) es) k no_name).end
  number_same s b [] k n q h = absurd (omega arith)
  number_same s b (name j l ∷ es) zero n q h =
      let e : Entry = name j l in
      let r = table_octets es in
      let g : length (table_octets es) < suc (length s) = omega (arith, long s b e r q) in
      rw (next_at s b e r q) at (leads_same (suc (length s)) s (b ++ entry_octets e) es n (next_stands s b e r q) g)
  number_same s b (name j l ∷ es) (suc k) n q h =
      let e : Entry = name j l in
      let r = table_octets es in
      rw (next_at s b e r q) at (number_same s (b ++ entry_octets e) es k n (next_stands s b e r q) (omega arith))
  number_same s b (resource d ∷ es) k n q h =
      let e : Entry = resource d in
      let r = table_octets es in
      rw (next_at s b e r q) at (number_same s (b ++ entry_octets e) es k n (next_stands s b e r q) h)
  number_same s b (mask m ∷ es) k n q h = absurd n

  -- The records of a name of a table that was good are what they were, on every interface.
  pub records_before_lem : (s : List ℕ) (hs : List Held) (k : ℕ) → Octets s → check_before s ≡ good hs → k < length hs
      → valid_on i (records_of s (get_or hs k no_name).end) ≡ records_before s (get_or hs k no_name).end
  unfolding check_before
  records_before_lem s hs k o e h =
      let g = (good_iff s hs o).0 (good_before s hs e) in
      let t : GoodTable s = g.0 in
      let many : length hs ≡ length (names t.entries) = ap length g.1 ∙ located_length 0 t.entries in
      subst (λ (x : List Held). valid_on i (records_of s (get_or x k no_name).end) ≡ records_before s (get_or x k no_name).end) (sym g.1)
      (number_same s [] t.entries k (without t) t.octets (omega (arith, many)))
    where
      ended : (w : Walked) → checked_by w ≡ good hs → (τ : State) × (w ≡ whole τ)
      ended (whole τ) q = (τ, refl)
      ended (stopped at) q = absurd (let z : ◌≡◌ {A = ℕ} 0 1 = cc in omega arith)

      without : (t : GoodTable s) → NoMask t.entries
      without t =
          split (ltb longest_table (length s))
          (λ l. absurd (let f : bad longest_table ≡ good hs = rw l at e in let z : ◌≡◌ {A = ℕ} 0 1 = cc in omega arith))
          (λ l. let w = ended (from_before (suc (length s)) s start) (rw l at e) in
          no_masks (suc (length s)) t.entries start w.0 (ap (λ (u : List ℕ). from_before (suc (length s)) u start) (sym t.octets) ∙ w.1))
