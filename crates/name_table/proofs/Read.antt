-- The loop that reads a table: what it keeps, a turn of it, and what it comes to.
use Rattle.std.proofs.Common.{None, Option, Some, Ok, Err, ℕ, zero, suc, ◌+◌, ◌-◌, ◌<◌, ◌≤◌, ◌≡◌, refl, sym, ap, ◌∙◌, subst, List, [], ◌∷◌, ◌++◌, Bool, true, false, arith, length, take, drop, length-drop, drop-drop, take_all, ltb, leb, eqb, lt-ltb, le-ltb, leb-false, ltb-true, ltb-false, eqb-true}
use Rattle.std.proofs.lemmas.Bool.{eqb-false}
use Rattle.std.specs.Option.{is_some}
use Rattle.octets.specs.Octets.{part_of}
use Rattle.octets.proofs.Tests.{split}
use Rattle.octets.proofs.Octets.{part_in}
use Rattle.name_table.specs.Bounds.{longest_table, most_names, most_records, entry_head}
use Rattle.name_table.specs.Kinds.{kind_of}
use Rattle.name_table.specs.declared.Kind.{Kind}
use Rattle.name_table.specs.declared.Kind.TheVariants.{Unique, Shared, Octets, Target, Mask, Unknown}
use Rattle.name_table.specs.declared.Form.{Form}
use Rattle.name_table.specs.declared.Form.TheVariants.{Name, Record, Mask}
use Rattle.name_table.specs.declared.Table.{Table}
use Rattle.name_table.specs.Check.{Held, State, on, broken, Checked, bad, good, names_in, checked_by, length_at, kind_at, body_at, is_whole, first_entry, name_fills, name_form, record_form, mask_fits, mask_form, form_by, form_at, find_name, if_new, with_name, step_by, step, check_from, check_table}
use Rattle.name_table.specs.Records.{record_by, record_at}
use Rattle.name_table.specs.Shown.{names_of, table_of, read_by, table_read, shown}
use Rattle.name_table.proofs.Fold.{Whole, whole_is, whole_yes, turn_on, turn_end, turn_off, shorter, fuel}
use Rattle.name_table.proofs.Shown.{IsPadded, added, still_padded, names_added, names_length, table_back}

-- the state of the check that the loop's variables show
abbrev pub state_at : List ℕ → Table → ℕ → ℕ → State
state_at s t records at = record { names = names_of s t; records = records; at = at }

pub record Reading (s : List ℕ) (t : Table) (records at : ℕ) (u : List ℕ) : Type 0 where
  pub short : length s ≤ longest_table
  pub padded : IsPadded t
  pub place : at + length u ≡ length s
  pub rest : u ≡ drop at s
  pub few : records ≤ at
  pub so_far : check_table s ≡ checked_by (check_from u (state_at s t records at))

-- the entry at the start of u is whole, with this kind and body, and these octets after it
pub record Taken (u : List ℕ) (kind : ℕ) (body others : List ℕ) : Type 0 where
  pub whole : is_whole u ≡ true
  pub kind_is : kind ≡ kind_at u
  pub body_is : body ≡ body_at u
  pub others_are : others ≡ drop (length_at u) u

pub taken : (u : List ℕ) (kind : ℕ) (body others : List ℕ) → first_entry u ≡ Some (kind, body, others) → Taken u kind body others
unfolding first_entry
taken u kind body others e =
    split (is_whole u)
    (λ w. let q : Some (kind_at u, body_at u, drop (length_at u) u) ≡ Some (kind, body, others) = rw w at e in
    let p : (kind_at u, body_at u, drop (length_at u) u) ≡ (kind, body, others) = cc in
    record {
      whole = w;
      kind_is = sym (ap (λ (x : ℕ × List ℕ × List ℕ). x.0) p);
      body_is = sym (ap (λ (x : ℕ × List ℕ × List ℕ). x.1) p);
      others_are = sym (ap (λ (x : ℕ × List ℕ × List ℕ). x.2) p);
    })
    (λ w. absurd (let z : ◌≡◌ {A = ℕ} 0 1 = cc (rw w at e) in omega arith))

-- an entry cut off by its length is the first one
pub cut_first : (u : List ℕ) (kind len : ℕ) (body others : List ℕ) → entry_head ≤ length u → kind ≡ kind_at u → len + entry_head ≡ length_at u
    → len ≤ length (drop entry_head u) → body ≡ take len (take (length u - entry_head) (drop entry_head u))
    → others ≡ drop len (take (length u - entry_head) (drop entry_head u))
    → Some (kind, body, others) ≡ first_entry u
unfolding first_entry
cut_first u kind len body others h k l m b o =
    let w : Whole u = record { head = h; least = omega arith; inside = omega (arith, length-drop entry_head u) } in
    let z : length_at u - entry_head ≡ len = omega arith in
    let g : length (drop entry_head u) ≤ length u - entry_head = omega (arith, length-drop entry_head u) in
    let t : take (length u - entry_head) (drop entry_head u) ≡ drop entry_head u = take_all (length u - entry_head) (drop entry_head u) g in
    let x : body_at u ≡ body = part_in u entry_head (length_at u) w.least w.inside ∙ ap (λ (i : ℕ). take i (drop entry_head u)) z ∙ ap (take len) (sym t) ∙ sym b in
    let y : others ≡ drop (length_at u) u = o ∙ ap (drop len) t ∙ drop-drop len entry_head u ∙ ap (λ (i : ℕ). drop i u) (omega arith) in
    rw (whole_yes u w, k, x, y)

pub not_taken : (u : List ℕ) → first_entry u ≡ None → is_whole u ≡ false
unfolding first_entry
not_taken u e = split (is_whole u) (λ w. absurd (let z : ◌≡◌ {A = ℕ} 0 1 = cc (rw w at e) in omega arith)) (λ w. w)

-- the record at an offset where an entry is whole, and where that entry ends
module _ (s : List ℕ) (at : ℕ) {kind : ℕ} {body others : List ℕ} (n : Taken (drop at s) kind body others) where
  pub at_ends : (at + entry_head ≤ length s) × (length others ≤ length s) × (at + length_at (drop at s) ≡ length s - length others)
  at_ends =
      let w = whole_is (drop at s) n.whole in
      let l = length-drop at s in
      let m = ap length n.others_are ∙ length-drop (length_at (drop at s)) (drop at s) in
      (omega (arith, w.head), omega arith, omega (arith, w.head, w.inside))

  pub record_there : record_at s at ≡ record_by (kind_of kind) (drop at s) (at + entry_head) (length s - length others)
  unfolding record_at
  record_there = rw (n.whole, n.kind_is, ← at_ends.2)

-- an entry in a name's form finds room for one
name_room : (names : ℕ) (b : List ℕ) → name_form names b ≡ Some Name → names < most_names
unfolding name_form
name_room names b e =
    split (name_fills b)
    (λ f. split (leb (length b) 1) (λ g. absurd (let z : ◌≡◌ {A = ℕ} 0 1 = cc (rw (f, g) at e) in omega arith)) λ g.
    split (leb most_names names) (λ h. absurd (let z : ◌≡◌ {A = ℕ} 0 1 = cc (rw (f, g, h) at e) in omega arith)) λ h. leb-false _ _ h)
    (λ f. absurd (let z : ◌≡◌ {A = ℕ} 0 1 = cc (rw f at e) in omega arith))

no_record_name : (names records : ℕ) (b : Bool) → record_form names records b ≡ Some Name → ⊥
unfolding record_form
no_record_name names records b e =
    split b
    (λ f. split (eqb names 0) (λ g. let z : ◌≡◌ {A = ℕ} 0 1 = cc (rw (f, g) at e) in omega arith) λ g.
    split (leb most_records records) (λ h. let z : ◌≡◌ {A = ℕ} 0 1 = cc (rw (f, g, h) at e) in omega arith)
    (λ h. let z : ◌≡◌ {A = ℕ} 0 1 = cc (rw (f, g, h) at e) in omega arith))
    (λ f. let z : ◌≡◌ {A = ℕ} 0 1 = cc (rw f at e) in omega arith)

no_mask_name : (names : ℕ) (b : List ℕ) → mask_form names b ≡ Some Name → ⊥
unfolding mask_form
no_mask_name names b e =
    split (mask_fits names b)
    (λ f. let z : ◌≡◌ {A = ℕ} 0 1 = cc (rw f at e) in omega arith)
    (λ f. let z : ◌≡◌ {A = ℕ} 0 1 = cc (rw f at e) in omega arith)

kind_room : (k : Kind) (names records : ℕ) (b : List ℕ) → form_by k names records b ≡ Some Name → names < most_names
unfolding form_by
kind_room Unique names records b e = name_room names b e
kind_room Shared names records b e = name_room names b e
kind_room (Octets t n) names records b e = absurd (no_record_name names records (eqb (length b) n) e)
kind_room (Target t) names records b e = absurd (no_record_name names records (name_fills b) e)
kind_room Mask names records b e = absurd (no_mask_name names b e)
kind_room Unknown names records b e = absurd (let z : ◌≡◌ {A = ℕ} 0 1 = cc in omega arith)

-- a name that was found is not new, and one that was not is
not_new : (f : Option ℕ) (τ : State) → is_some f ≡ true → if_new f τ ≡ broken
not_new (Some k) τ i = refl
not_new None τ i = absurd (let z : ◌≡◌ {A = ℕ} 0 1 = cc in omega arith)

is_new : (f : Option ℕ) (τ : State) → is_some f ≡ false → if_new f τ ≡ on τ
is_new (Some k) τ i = absurd (let z : ◌≡◌ {A = ℕ} 0 1 = cc in omega arith)
is_new None τ i = refl

-- a reading of a bad table
pub refused_is : (s : List ℕ) (at : ℕ) → check_table s ≡ bad at → Err (record { at = at }) ≡ table_read s
unfolding table_read
refused_is s at e = ap read_by (sym e)

-- the table is too long
pub long : (s : List ℕ) → longest_table < length s → check_table s ≡ bad longest_table
unfolding check_table
long s h = rw (lt-ltb _ _ h)

first : (s : List ℕ) → length s ≤ longest_table → check_table s ≡ checked_by (check_from s (state_at s (table_of []) 0 0))
unfolding check_table
first s h = rw (le-ltb _ _ h)

pub begin : (s : List ℕ) → length s ≤ longest_table → Reading s (table_of []) 0 (length s - length s) s
begin s h =
    let z : length s - length s ≡ 0 = omega arith in
    rw z (record { short = h; padded = record { few = omega arith; size = refl; past = refl }; place = omega arith; rest = refl; few = omega arith; so_far = first s h })

module _ {s : List ℕ} {t : Table} {records at : ℕ} {u : List ℕ} (r : Reading s t records at u) where
  -- every entry was taken
  all_taken : length u ≡ 0 → check_table s ≡ good (names_of s t)
  all_taken z = r.so_far ∙ ap checked_by (turn_end (length u) u (state_at s t records at) z)

  pub ended : length u ≡ 0 → Ok t ≡ table_read s
  unfolding table_read
  ended z = sym (ap read_by (all_taken z) ∙ ap Ok (table_back s t r.padded))

  step_by_lem : (f : Option Form) → form_at u (t.names) records ≡ f
      → step u (state_at s t records at) ≡ step_by f (kind_at u) (body_at u) (length_at u) (state_at s t records at)
  unfolding step
  step_by_lem f q = rw (names_length t r.padded.few r.padded.size s, q)

  stops : 0 < length u → step u (state_at s t records at) ≡ broken → check_table s ≡ bad at
  stops h q = r.so_far ∙ ap checked_by (turn_off (length u) u (state_at s t records at) h q)

  not_whole : is_whole u ≡ false → form_at u (t.names) records ≡ None
  unfolding form_at
  not_whole w = rw w

  pub bad_part : 0 < length u → first_entry u ≡ None → check_table s ≡ bad at
  bad_part h e = stops h (step_by_lem None (not_whole (not_taken u e)))

  module _ {kind : ℕ} {body others : List ℕ} (n : Taken u kind body others) where
    w : Whole u
    w = whole_is u n.whole

    some : 0 < length u
    some = omega (arith, w.head)

    left : length others ≡ length u - length_at u
    left = ap length n.others_are ∙ length-drop (length_at u) u

    -- the next entry's offset, and what is left
    pub ends_at : at + length_at u ≡ length s - length others
    ends_at = omega (arith, left, r.place, w.inside)

    pub moves : (at + entry_head ≤ length s - length others) × (length others < length u) × (length others ≤ length s)
    moves = (omega (arith, ends_at, w.least), omega (arith, left, w.head, w.least, w.inside), omega (arith, left, r.place))

    form_is : (f : Option Form) → form_by (kind_of kind) (t.names) records body ≡ f → form_at u (t.names) records ≡ f
    unfolding form_at
    form_is f q = rw (n.whole, ← n.kind_is, ← n.body_is) q

    steps : (f : Option Form) → form_by (kind_of kind) (t.names) records body ≡ f
        → step u (state_at s t records at) ≡ step_by f kind body (length_at u) (state_at s t records at)
    steps f q = step_by_lem f (form_is f q) ∙ rw (← n.kind_is, ← n.body_is)

    pub bad_form : form_by (kind_of kind) (t.names) records body ≡ None → check_table s ≡ bad at
    bad_form q = stops some (steps None q)

    step_name : form_by (kind_of kind) (t.names) records body ≡ Some Name → (f : Option ℕ) → find_name (names_of s t) body ≡ f
        → step u (state_at s t records at) ≡ if_new f (with_name (state_at s t records at) kind body (length_at u))
    step_name q f i = steps (Some Name) q ∙ rw i

    pub bad_name : form_by (kind_of kind) (t.names) records body ≡ Some Name → is_some (find_name (names_of s t) body) ≡ true → check_table s ≡ bad at
    bad_name q i = stops some (step_name q _ refl ∙ not_new (find_name (names_of s t) body) (with_name (state_at s t records at) kind body (length_at u)) i)

    -- the reading goes on after an entry that is taken
    goes_on : (v : Table) (m : ℕ) → step u (state_at s t records at) ≡ on (state_at s v m (at + length_at u))
        → IsPadded v → m ≤ at + entry_head
        → Reading s v m (length s - length others) others
    goes_on v m q few h =
        let τ : State = state_at s v m (at + length_at u) in
        let o : List ℕ = drop (length_at u) u in
        let l : length o < length u = shorter u w in
        let g : length o < suc (length o) = omega arith in
        subst (λ (i : ℕ). Reading s v m i others) ends_at
        (record {
          short = r.short;
          padded = few;
          place = omega (arith, left, r.place, w.inside);
          rest = n.others_are ∙ ap (drop (length_at u)) r.rest ∙ drop-drop (length_at u) at s;
          few = omega (arith, h, w.least);
          so_far = r.so_far ∙ ap checked_by (turn_on (length u) u (state_at s t records at) τ q ∙ fuel (length u) (suc (length o)) o τ l g)
              ∙ ap (λ (x : List ℕ). checked_by (check_from x τ)) (sym n.others_are);
        })

    pub on_record_lem : form_by (kind_of kind) (t.names) records body ≡ Some Record → Reading s t (records + 1) (length s - length others) others
    on_record_lem q = goes_on t (records + 1) (steps (Some Record) q) r.padded (omega (arith, r.few))

    pub on_mask : form_by (kind_of kind) (t.names) records body ≡ Some Mask → Reading s t records (length s - length others) others
    on_mask q = goes_on t records (steps (Some Mask) q) r.padded (omega (arith, r.few))

    stands : part_of s (at + entry_head) (at + length_at u) ≡ body
    stands =
        let len : ℕ = length_at u in
        let p : at + entry_head ≤ at + len = omega (arith, w.least) in
        let z : at + len - (at + entry_head) ≡ len - entry_head = omega arith in
        let i : at + len ≤ length s = omega (arith, r.place, w.inside) in
        part_in s (at + entry_head) (at + len) p i ∙ ap (λ (k : ℕ). take k (drop (at + entry_head) s)) z
        ∙ ap (take (len - entry_head)) (sym (drop-drop entry_head at s) ∙ ap (drop entry_head) (sym r.rest)) ∙ sym (part_in u entry_head len w.least w.inside) ∙ sym n.body_is

    pub room : form_by (kind_of kind) (t.names) records body ≡ Some Name → t.names < most_names
    room q = kind_room (kind_of kind) (t.names) records body q

    pub on_name : form_by (kind_of kind) (t.names) records body ≡ Some Name → is_some (find_name (names_of s t) body) ≡ false
        → Reading s (added t kind (at + entry_head) (length s - length others)) 0 (length s - length others) others
    on_name q i =
        let v : Table = added t kind (at + entry_head) (at + length_at u) in
        let h : Held = record { kind = kind; start = at + entry_head; end = at + length_at u; octets = body } in
        let a : names_of s v ≡ names_of s t ++ (h ∷ []) = names_added s t kind (at + entry_head) (at + length_at u) r.padded.size (room q) ∙ rw stands in
        let b : with_name (state_at s t records at) kind body (length_at u) ≡ state_at s v 0 (at + length_at u) = rw a in
        subst (λ (i : ℕ). Reading s (added t kind (at + entry_head) i) 0 (length s - length others) others) ends_at
        (goes_on v 0 (step_name q _ refl ∙ is_new (find_name (names_of s t) body) (with_name (state_at s t records at) kind body (length_at u)) i ∙ ap on b) (still_padded t kind (at + entry_head) (at + length_at u) r.padded (room q)) (omega arith))

-- what the loop comes to
data Ends (s : List ℕ) : Checked → Type 0 where
  all : (t : Table) → IsPadded t → Ends s (good (names_of s t))
  stop : (at : ℕ) → Ends s (bad at)

ends : (k : ℕ) (s : List ℕ) (t : Table) (records at : ℕ) (u : List ℕ) → Reading s t records at u → length u < k → Ends s (check_table s)
ends zero s t records at u r l = absurd (omega arith)
ends (suc k) s t records at u r l =
    split (eqb (length u) 0)
    (λ z. subst (Ends s) (sym (all_taken r (eqb-true _ _ z))) (all t r.padded))
    (λ z. let n : length u ≡ 0 → ⊥ = eqb-false _ _ z in
    by_entry (omega arith) (first_entry u) refl (λ o v m h r. ends k s v m (length s - length o) o r h))
  where
    by_entry : 0 < length u → (e : Option (ℕ × List ℕ × List ℕ)) → first_entry u ≡ e
        → ((o : List ℕ) (v : Table) (m : ℕ) → length o < k → Reading s v m (length s - length o) o → Ends s (check_table s))
        → Ends s (check_table s)
    by_entry h None q more = subst (Ends s) (sym (bad_part r h q)) (stop at)
    by_entry h (Some (kind, body, others)) q more = go (form_by (kind_of kind) (t.names) records body) refl
      where
        n : Taken u kind body others
        n = taken u kind body others q

        nearer : length others < k
        nearer = omega (arith, (moves r n).1)

        named : form_by (kind_of kind) (t.names) records body ≡ Some Name → (f : Option ℕ)
            → find_name (names_of s t) body ≡ f → Ends s (check_table s)
        named q (Some j) i = subst (Ends s) (sym (bad_name r n q (ap is_some i))) (stop at)
        named q None i = more others (added t kind (at + entry_head) (length s - length others)) 0 nearer (on_name r n q (ap is_some i))

        go : (f : Option Form) → form_by (kind_of kind) (t.names) records body ≡ f → Ends s (check_table s)
        go (Some Name) q = named q (find_name (names_of s t) body) refl
        go (Some Record) q = more others t (records + 1) nearer (on_record_lem r n q)
        go (Some Mask) q = more others t records nearer (on_mask r n q)
        go None q = subst (Ends s) (sym (bad_form r n q)) (stop at)

comes_to : (s : List ℕ) → Ends s (check_table s)
comes_to s =
    split (ltb longest_table (length s))
    (λ p. subst (Ends s) (sym (long s (ltb-true _ _ p))) (stop longest_table))
    (λ p. ends (suc (length s)) s (table_of []) 0 (length s - length s) s (begin s (ltb-false _ _ p)) (omega arith))

-- A reading shows what the check says, its names are the names of the table, and there are at most eight.
module _ (s : List ℕ) where
  pub read_shown : shown s (table_read s) ≡ check_table s
  unfolding table_read
  read_shown = go (comes_to s)
    where
      go : {c : Checked} → Ends s c → shown s (read_by c) ≡ c
      go (all t h) = ap (λ (v : Table). good (names_of s v)) (table_back s t h)
      go (stop at) = refl

  pub read_names : (t : Table) → table_read s ≡ Ok t → check_table s ≡ good (names_of s t)
  read_names t e = sym read_shown ∙ ap (shown s) e

  pub read_few : length (names_in (check_table s)) ≤ most_names
  read_few = go (comes_to s)
    where
      go : {c : Checked} → Ends s c → length (names_in c) ≤ most_names
      go (all t h) = omega (arith, names_length t h.few h.size s, h.few)
      go (stop at) = omega arith
