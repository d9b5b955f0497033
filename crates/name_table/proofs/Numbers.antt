-- Names by number: what `find` and `name` give on a good table.
use Rattle.std.proofs.Common.{None, Some, option_map, slice_get, ℕ, suc, zero, ◌+◌, ◌<◌, ◌≤◌, ◌≡◌, refl, sym, ap, ◌∙◌, subst, List, [], ◌∷◌, ◌++◌, append_assoc, append-nil, Bool, true, false, ◌↔◌, arith, zero-add, length, get_or, length-append, get_or-append-add, leb, leb-true, leb-false}
use Rattle.std.proofs.Math.ListN.{get_or-append}
use Rattle.octets.proofs.Tests.{split}
use Rattle.names.specs.Names.{Labels, IsName, encode}
use Rattle.names.specs.Folding.{folded_name}
use Rattle.name_table.specs.Kinds.{kind_of}
use Rattle.name_table.specs.Check.{no_name, find_name}
use Rattle.name_table.specs.Entries.{Entry, name, resource, mask, names, New, Keeps, AllKeep, GoodTable, located}
use Rattle.name_table.specs.Shown.{held_all, places_of, named_of, names_of, name_of}
use Rattle.name_table.specs.declared.Place.{Place}
use Rattle.name_table.specs.declared.Table.{Table}
use Rattle.name_table.proofs.Entries.{names_append, not_new}
use Rattle.name_table.proofs.Judge.{Sought, equal, none, seek}
use Rattle.name_table.proofs.Meaning.{all_names}

-- no two names of some list are equal
abbrev Distinct : List Labels → Type 0
Distinct ns = (i j : ℕ) → i < j → j < length ns → folded_name (get_or ns i []) ≡ folded_name (get_or ns j []) → ⊥

-- a name that equals none of those before it
distinct_more : (ms : List Labels) (n : Labels) → Distinct ms → New ms n → Distinct (ms ++ (n ∷ []))
distinct_more ms n d w i j h l e = go (leb (suc j) (length ms)) refl
  where
    k : length (ms ++ (n ∷ [])) ≡ length ms + 1
    k = length-append ms (n ∷ [])

    go : (b : Bool) → leb (suc j) (length ms) ≡ b → ⊥
    go true p =
        let a : j < length ms = leb-true _ _ p in
        let b : i < length ms = omega arith in
        d i j h a (sym (ap folded_name (get_or-append ms (n ∷ []) [] i b)) ∙ e ∙ ap folded_name (get_or-append ms (n ∷ []) [] j a))
    go false p =
        let a : length ms < suc j = leb-false _ _ p in
        let b : j ≡ length ms + 0 = omega (arith, k) in
        let c : i < length ms = omega (arith, k) in
        let last : get_or (ms ++ (n ∷ [])) j [] ≡ n = ap (λ (x : ℕ). get_or (ms ++ (n ∷ [])) x []) b ∙ get_or-append-add ms (n ∷ []) 0 [] in
        not_new ms n i c (sym (ap folded_name (get_or-append ms (n ∷ []) [] i c)) ∙ e ∙ ap folded_name last) w

distinct : (before es : List Entry) → Distinct (names before) → AllKeep before es → Distinct (names (before ++ es))
distinct before [] d h = rw (append-nil before) d
distinct before (e ∷ es) d h =
    subst (λ (u : List Entry). Distinct (names u)) (append_assoc before (e ∷ []) es) (distinct (before ++ (e ∷ [])) es (one e h.0) h.1)
  where
    one : (f : Entry) → Keeps before f → Distinct (names (before ++ (f ∷ [])))
    one (name k n) r = rw (names_append before (name k n ∷ [])) (distinct_more (names before) n d r.new)
    one (resource x) r = rw (names_append before (resource x ∷ []), append-nil (names before)) d
    one (mask m) r = rw (names_append before (mask m ∷ []), append-nil (names before)) d

module _ (s : List ℕ) (t : GoodTable s) (n : Labels) (h : IsName n) where
  -- The number found is that of the one name that equals n.
  pub finds : (k : ℕ) → (find_name (located 0 t.entries) (encode n) ≡ Some k)
      ↔ ((k < length (names t.entries)) × (folded_name (get_or (names t.entries) k []) ≡ folded_name n))
  finds k = (to, from)
    where
      ms : List Labels
      ms = names t.entries

      sought : Sought ms n 0 (find_name (located 0 t.entries) (encode n))
      sought = seek 0 0 t.entries n (all_names [] t.entries tt t.keep) h

      apart : Distinct ms
      apart = distinct [] t.entries (λ i j a b e. omega arith) t.keep

      to : find_name (located 0 t.entries) (encode n) ≡ Some k → (k < length ms) × (folded_name (get_or ms k []) ≡ folded_name n)
      to e = go sought
        where
          go : Sought ms n 0 (find_name (located 0 t.entries) (encode n)) → (k < length ms) × (folded_name (get_or ms k []) ≡ folded_name n)
          go (equal i l q r) = let z : 0 + i ≡ k = cc in let y : i ≡ k = omega arith in (omega arith, ap (λ (x : ℕ). folded_name (get_or ms x [])) (sym y) ∙ q)
          go (none w r) = absurd (let z : ◌≡◌ {A = ℕ} 0 1 = cc in omega arith)

      from : (k < length ms) × (folded_name (get_or ms k []) ≡ folded_name n) → find_name (located 0 t.entries) (encode n) ≡ Some k
      from (l, q) = go sought
        where
          same : (i : ℕ) → i < length ms → folded_name (get_or ms i []) ≡ folded_name n → i ≡ k
          same i m e =
              split (leb (suc i) k) (λ p. let a : i < k = leb-true _ _ p in absurd (apart i k a l (e ∙ sym q))) λ p.
              split (leb (suc k) i) (λ r. let a : k < i = leb-true _ _ r in absurd (apart k i a m (q ∙ sym e))) λ r.
              let a : k < suc i = leb-false _ _ p in
              let b : i < suc k = leb-false _ _ r in
              omega arith

          go : Sought ms n 0 (find_name (located 0 t.entries) (encode n)) → find_name (located 0 t.entries) (encode n) ≡ Some k
          go (equal i m e r) = r ∙ ap Some (zero-add i ∙ same i m e)
          go (none w r) = absurd (not_new ms n k l q w)

  -- None is found exactly if n equals no name of the table.
  pub finds_none : (find_name (located 0 t.entries) (encode n) ≡ None) ↔ New (names t.entries) n
  finds_none = (to, from)
    where
      to : find_name (located 0 t.entries) (encode n) ≡ None → New (names t.entries) n
      to e = go (seek 0 0 t.entries n (all_names [] t.entries tt t.keep) h)
        where
          go : Sought (names t.entries) n 0 (find_name (located 0 t.entries) (encode n)) → New (names t.entries) n
          go (equal i l q r) = absurd (let z : ◌≡◌ {A = ℕ} 0 1 = cc in omega arith)
          go (none w r) = w

      from : New (names t.entries) n → find_name (located 0 t.entries) (encode n) ≡ None
      from w = go (seek 0 0 t.entries n (all_names [] t.entries tt t.keep) h)
        where
          go : Sought (names t.entries) n 0 (find_name (located 0 t.entries) (encode n)) → find_name (located 0 t.entries) (encode n) ≡ None
          go (equal i l q r) = absurd (not_new (names t.entries) n i l q w)
          go (none v r) = r

module _ (s : List ℕ) (v : Table) (k : ℕ) where
  -- The name with a number is the one in that place; there is none past the last.
  pub name_is : k < length (names_of s v)
      → name_of v k ≡ Some (record { kind = kind_of (get_or (names_of s v) k no_name).kind; start = (get_or (names_of s v) k no_name).start; end = (get_or (names_of s v) k no_name).end })
  unfolding name_of
  name_is h = name_at_place (places_of v) k h
    where
      name_at_place : (ps : List Place) (i : ℕ) → i < length (held_all s ps)
          → option_map named_of (slice_get ps i) ≡ Some (record { kind = kind_of (get_or (held_all s ps) i no_name).kind; start = (get_or (held_all s ps) i no_name).start; end = (get_or (held_all s ps) i no_name).end })
      name_at_place [] i h = absurd (omega arith)
      name_at_place (p ∷ ps) zero h = refl
      name_at_place (p ∷ ps) (suc i) h = name_at_place ps i (omega arith)

  pub name_none : length (names_of s v) ≤ k → name_of v k ≡ None
  unfolding name_of
  name_none h = no_place (places_of v) k h
    where
      no_place : (ps : List Place) (i : ℕ) → length (held_all s ps) ≤ i → option_map named_of (slice_get ps i) ≡ None
      no_place [] i h = refl
      no_place (p ∷ ps) zero h = absurd (omega arith)
      no_place (p ∷ ps) (suc i) h = no_place ps i (omega arith)
