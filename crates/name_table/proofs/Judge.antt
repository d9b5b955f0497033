-- One entry: the step takes exactly the entries that keep the rules, and where it takes none a rule is broken.
use Rattle.names.specs.declared.Name.{Name}
use Rattle.std.proofs.Common.{None, Option, Some, ℕ, suc, ◌+◌, ◌-◌, ◌/◌, ◌%◌, ◌<◌, ◌≤◌, ◌≡◌, refl, sym, ap, ◌∙◌, subst, List, [], ◌∷◌, ◌++◌, Bool, true, false, ◌⊎◌, inl, inr, ⊎_elim, arith, add-zero, leb, eqb, length, get_or, take, drop, length-append, take-append-drop, drop-drop, eq-eqb, eqb-true, leb-true, leb-false}
use Rattle.std.proofs.lemmas.Bool.{eqb-false}
use Rattle.std.proofs.Math.Seq.{take-length}
use Rattle.octets.specs.Bounds.{used_by4, used_by6}
use Rattle.octets.specs.Octets.{Octets}
use Rattle.octets.proofs.Tests.{split, never}
use Rattle.octets.proofs.Octets.{octet_at_lem, octets_part, part_in, length_part}
use Rattle.names.specs.NameWalk.{name_at}
use Rattle.names.specs.Names.{Labels, IsName, NameAt, encode}
use Rattle.names.specs.Folding.{folded_name, same_name}
use Rattle.names.proofs.Names.{reads_a_name, finds_name, encode_some, encode_octets}
use Rattle.names.proofs.Folding.{same_names}
use Rattle.name_table.specs.Bounds.{most_names, most_records, entry_head}
use Rattle.name_table.specs.Kinds.{kind_of}
use Rattle.name_table.specs.Check.{State, Stepped, on, broken, length_at, kind_at, body_at, is_whole, length_is, name_fills, name_form, record_form, mask_fits, mask_form, form_by, form_at, find_from, find_name, if_new, with_name, with_record, with_mask, step_by, step}
use Rattle.name_table.specs.Entries.{NameKind, unique, shared, Data, a, aaaa, ptr, Entry, name, resource, mask, kind, data_octets, body, entry_octets, names, records, New, NameRules, DataRules, MaskRules, Keeps, Breaks, cut_short, length_below_head, past_the_end, kind_zero, kind_above_6, not_a_name, not_4_octets, not_16_octets, not_1_octet, mask_zero, mask_above_15, root_name, too_many_names, equal_name, no_owner, too_many_records, located}
use Rattle.name_table.proofs.Masks.{fits_exactly}
use Rattle.name_table.proofs.Fold.{Whole, whole_is, step_of, step_is}
use Rattle.name_table.proofs.Entries.{AreNames, state_of, located_length, after_name, after_record, after_mask, one_entry, none_stands}

-- the search for a name among those of some entries
pub data Sought (ms : List Labels) (n : Labels) (k : ℕ) (r : Option ℕ) : Type 0 where
  equal : (i : ℕ) → i < length ms → folded_name (get_or ms i []) ≡ folded_name n → r ≡ Some (k + i) → Sought ms n k r
  none : New ms n → r ≡ None → Sought ms n k r

pub seek : (k o : ℕ) (es : List Entry) (n : Labels) → AreNames (names es) → IsName n
    → Sought (names es) n k (find_from k (located o es) (encode n))
unfolding find_from
seek k o [] n x h = none tt refl
seek k o (resource d ∷ es) n x h = seek k (o + (entry_head + length (data_octets d))) es n x h
seek k o (mask m ∷ es) n x h = seek k (o + 5) es n x h
seek k o (name j m ∷ es) n x h =
    let i = same_names m n x.0 h in
    split (same_name (encode m) (encode n))
    (λ f. equal 0 (omega arith) (i.0 f) (rw f (ap Some (sym (add-zero k)))))
    (λ f. rw f (later (λ q. let g = i.1 q in let z : ◌≡◌ {A = ℕ} 0 1 = cc in omega arith) (seek (k + 1) (o + (entry_head + length (encode m))) es n x.1 h)))
  where
    later : {r : Option ℕ} → (folded_name m ≡ folded_name n → ⊥) → Sought (names es) n (k + 1) r → Sought (m ∷ names es) n k r
    later f (equal i l e q) = equal (suc i) (omega arith) e (q ∙ ap Some (omega arith))
    later f (none w q) = none (f, w) q

-- a body that a name fills
pub record Filled (b : List ℕ) : Type 0 where
  pub name : Labels
  pub is_name : IsName name
  pub octets : b ≡ encode name

fills_yes : (n : Labels) → IsName n → name_fills (encode n) ≡ true
unfolding name_fills
fills_yes n h =
    let own : NameAt (encode n) 0 (length (encode n)) = record { name = n; is_name = h; len_is = refl; octets = take-length (encode n) } in
    rw (finds_name (encode n) 0 (length (encode n)) (encode_octets n h) own) (eq-eqb (length (encode n)) (length (encode n)) refl)

fills_name : (b : List ℕ) → Octets b → name_fills b ≡ true → Filled b
unfolding name_fills
fills_name b o e = go (name_at b 0) refl e
  where
    go : (r : Option Name) → name_at b 0 ≡ r → length_is r (length b) ≡ true → Filled b
    go (Some n) q f =
        let l : n.len ≡ length b = eqb-true _ _ f in
        let m = ((reads_a_name b 0 n o).0 q).name_at in
        let whole : length (encode m.name) ≡ length b = sym m.len_is ∙ l in
        record { name = m.name; is_name = m.is_name; octets = sym (take-length b) ∙ ap (λ (i : ℕ). take i b) (sym whole) ∙ m.octets }
    go None q f = absurd (let z : ◌≡◌ {A = ℕ} 0 1 = cc in omega arith)

no_name_lem : (b : List ℕ) → name_fills b ≡ false → (n : Labels) → IsName n → b ≡ encode n → ⊥
no_name_lem b e n h q =
    let t : name_fills b ≡ true = ap name_fills q ∙ fills_yes n h in
    let z : ◌≡◌ {A = ℕ} 0 1 = cc in
    omega arith

root : (n : Labels) → length (encode n) ≤ 1 → n ≡ []
root [] h = refl
root (l ∷ n) h = absurd (omega (arith, length-append l (encode n), encode_some n))

-- what the step comes to: an entry that keeps the rules stands at the start of s, or a rule is broken
pub data Judged (es : List Entry) (s : List ℕ) (r : Stepped) : Type 0 where
  taken : (e : Entry) → Keeps es e → s ≡ entry_octets e ++ drop (length_at s) s → r ≡ on (state_of (es ++ (e ∷ []))) → Judged es s r
  refused : Breaks es s → r ≡ broken → Judged es s r

four : (s : List ℕ) → entry_head ≤ length s → s ≡ get_or s 0 0 ∷ get_or s 1 0 ∷ get_or s 2 0 ∷ get_or s 3 0 ∷ drop entry_head s
four [] h = absurd (omega arith)
four (p ∷ []) h = absurd (omega arith)
four (p ∷ q ∷ []) h = absurd (omega arith)
four (p ∷ q ∷ r ∷ []) h = absurd (omega arith)
four (p ∷ q ∷ r ∷ s ∷ t) h = refl

-- a whole entry's length and octets, from its kind and body
module _ (s : List ℕ) (e : Entry) (w : Whole s) (b : body_at s ≡ body e) where
  size_is : length_at s ≡ entry_head + length (body e)
  size_is = omega (arith, w.least, length_part s entry_head (length_at s) w.least w.inside, ap length b)

  stands : Octets s → kind_at s ≡ kind e → s ≡ entry_octets e ++ drop (length_at s) s
  stands o k =
      let l : ℕ = length_at s in
      let n : ℕ = entry_head + length (body e) in
      let c0 = octet_at_lem s 0 o in
      let c2 = octet_at_lem s 2 o in
      let v = size_is in
      let x0 : get_or s 0 0 ≡ n % 256 = omega arith in
      let x1 : get_or s 1 0 ≡ n / 256 = omega arith in
      let x2 : get_or s 2 0 ≡ kind e % 256 = omega arith in
      let x3 : get_or s 3 0 ≡ kind e / 256 = omega arith in
      let z : entry_head + (l - entry_head) ≡ l = omega (arith, w.least) in
      let t : take (l - entry_head) (drop entry_head s) ≡ body e = sym (part_in s entry_head l w.least w.inside) ∙ b in
      let d : drop entry_head s ≡ body e ++ drop l s = sym (take-append-drop (l - entry_head) (drop entry_head s)) ∙ ap (λ (u : List ℕ). u ++ drop (l - entry_head) (drop entry_head s)) t ∙ ap (λ (u : List ℕ). body e ++ u) (drop-drop (l - entry_head) entry_head s ∙ ap (λ (i : ℕ). drop i s) z) in
      four s w.head ∙ ap (λ (i : ℕ). i ∷ get_or s 1 0 ∷ get_or s 2 0 ∷ get_or s 3 0 ∷ drop entry_head s) x0
      ∙ ap (λ (i : ℕ). n % 256 ∷ i ∷ get_or s 2 0 ∷ get_or s 3 0 ∷ drop entry_head s) x1
      ∙ ap (λ (i : ℕ). n % 256 ∷ n / 256 ∷ i ∷ get_or s 3 0 ∷ drop entry_head s) x2
      ∙ ap (λ (i : ℕ). n % 256 ∷ n / 256 ∷ kind e % 256 ∷ i ∷ drop entry_head s) x3
      ∙ ap (λ (u : List ℕ). n % 256 ∷ n / 256 ∷ kind e % 256 ∷ kind e / 256 ∷ u) d

-- a number that is none of the kinds
low : (j : ℕ) → (j ≡ 1 → ⊥) → (j ≡ 2 → ⊥) → (j ≡ 3 → ⊥) → (j ≡ 0) ⊎ (3 < j)
low j d1 d2 d3 = split (eqb j 0) (λ z. inl (eqb-true _ _ z)) (λ z. let d0 : j ≡ 0 → ⊥ = eqb-false _ _ z in inr (omega arith))

high : (j : ℕ) → 3 < j → (j ≡ 4 → ⊥) → (j ≡ 5 → ⊥) → (j ≡ 6 → ⊥) → 6 < j
high j h d4 d5 d6 = omega arith

module _ (es : List Entry) (s : List ℕ) (o : Octets s) (x : AreNames (names es)) (w : Whole s) where
  judge_name : (k : NameKind) → kind_at s ≡ kind (name k []) → kind_at s ≤ 2
      → Judged es s (step_by (name_form (length (located 0 es)) (body_at s)) (kind_at s) (body_at s) (length_at s) (state_of es))
  unfolding name_form
  judge_name k i low =
      split (name_fills (body_at s))
      (λ f. let n = fills_name (body_at s) (octets_part s entry_head (length_at s) o) f in
      split (leb (length (body_at s)) 1)
      (λ g. let l : length (body_at s) ≤ 1 = leb-true _ _ g in
      refused (root_name low (n.octets ∙ ap encode (root n.name (subst (λ (u : List ℕ). length u ≤ 1) n.octets l)))) (rw (f, g))) λ g.
      split (leb most_names (length (located 0 es)))
      (λ h. let l : most_names ≤ length (located 0 es) = leb-true _ _ h in
      refused (too_many_names low (omega (arith, located_length 0 es))) (rw (f, g, h))) λ h.
      rw (f, g, h) (found n.name n.is_name n.octets (leb-false _ _ g) (leb-false _ _ h) (seek 0 0 es n.name x n.is_name)))
      (λ f. refused (not_a_name (inl low) (no_name_lem (body_at s) f)) (rw f))
    where
      found : (n : Labels) → IsName n → body_at s ≡ encode n → 1 < length (body_at s) → length (located 0 es) < most_names
          → Sought (names es) n 0 (find_from 0 (located 0 es) (encode n))
          → Judged es s (if_new (find_name (located 0 es) (body_at s)) (with_name (state_of es) (kind_at s) (body_at s) (length_at s)))
      found n h b g l (equal j m q e) =
          let t : find_name (located 0 es) (body_at s) ≡ Some (0 + j) = ap (find_name (located 0 es)) b ∙ e in
          refused (equal_name low n j h b m q) (rw t)
      found n h b g l (none v e) =
          let t : find_name (located 0 es) (body_at s) ≡ None = ap (find_name (located 0 es)) b ∙ e in
          let rules : NameRules es n = record { is_name = h; not_root = λ q. omega (arith, ap length (b ∙ ap encode q)); eight_names = omega (arith, located_length 0 es); new = v } in
          let state = ap (λ (u : ℕ). with_name (state_of es) u (body_at s) (length_at s)) (i ∙ same k n) ∙ ap (λ (u : List ℕ). with_name (state_of es) (kind (name k n)) u (length_at s)) b ∙ ap (with_name (state_of es) (kind (name k n)) (encode n)) (size_is s (name k n) w b) ∙ after_name es k n in
          taken (name k n) rules (stands s (name k n) w b o (i ∙ same k n)) (rw t (ap on state))
        where
          same : (k : NameKind) (n : Labels) → kind (name k []) ≡ kind (name k n)
          same unique n = refl
          same shared n = refl

  no_names : length (located 0 es) ≡ 0 → names es ≡ []
  no_names g = empty (names es) (sym (located_length 0 es) ∙ g)
    where
      empty : (ns : List Labels) → length ns ≡ 0 → ns ≡ []
      empty [] h = refl
      empty (n ∷ ns) h = absurd (omega arith)

  -- the body of a record has its form or not
  judge_record : (form : Bool) (d : form ≡ true → Data) → ((f : form ≡ true) → DataRules (d f)) → ((f : form ≡ true) → body_at s ≡ data_octets (d f))
      → ((f : form ≡ true) → kind_at s ≡ kind (resource (d f))) → (form ≡ false → Breaks es s) → 3 ≤ kind_at s → kind_at s ≤ 5
      → Judged es s (step_by (record_form (length (located 0 es)) (records es) form) (kind_at s) (body_at s) (length_at s) (state_of es))
  unfolding record_form
  judge_record form d rules b k unformed high low =
      split form
      (λ f. split (eqb (length (located 0 es)) 0)
      (λ g. refused (no_owner high (no_names (eqb-true _ _ g))) (rw (f, g))) λ g.
      let some : length (located 0 es) ≡ 0 → ⊥ = eqb-false _ _ g in
      split (leb most_records (records es))
      (λ h. refused (too_many_records high low (leb-true _ _ h)) (rw (f, g, h))) λ h.
      let keeps : Keeps es (resource (d f)) = (rules f, record { has_owner = omega (arith, located_length 0 es); few_records = leb-false _ _ h }) in
      let state = ap (with_record (state_of es)) (size_is s (resource (d f)) w (b f)) ∙ after_record es (d f) in
      taken (resource (d f)) keeps (stands s (resource (d f)) w (b f) o (k f)) (rw (f, g, h) (ap on state)))
      (λ f. refused (unformed f) (rw f))

  -- the body of a mask is one octet from 1 to 15 or not
  judge_mask : kind_at s ≡ 6 → Judged es s (step_by (mask_form (length (located 0 es)) (body_at s)) (kind_at s) (body_at s) (length_at s) (state_of es))
  unfolding mask_form
  judge_mask k =
      split (mask_fits (length (located 0 es)) (body_at s))
      (λ f. let e = (fits_exactly _ _).0 f in
      let m : ℕ = get_or (body_at s) 0 0 in
      let one = single (body_at s) e.1.0 in
      let keeps : MaskRules es m = record { has_name = omega (arith, e.0, located_length 0 es); not_zero = e.1.1.0; four_bits = e.1.1.1 } in
      let state = ap (with_mask (state_of es)) (size_is s (mask m) w one) ∙ after_mask es m in
      taken (mask m) keeps (stands s (mask m) w one o k) (rw f (ap on state)))
      (λ f. refused (why (λ x. never ((fits_exactly _ _).1 x) f)) (rw f))
    where
      single : (b : List ℕ) → length b ≡ 1 → b ≡ get_or b 0 0 ∷ []
      single [] h = absurd (omega arith)
      single (c ∷ []) h = refl
      single (c ∷ d ∷ b) h = absurd (omega arith)

      why : ((0 < length (located 0 es)) × ((length (body_at s) ≡ 1) × ((1 ≤ get_or (body_at s) 0 0) × (get_or (body_at s) 0 0 ≤ 15))) → ⊥) → Breaks es s
      why n =
          split (eqb (length (located 0 es)) 0)
          (λ p. no_owner (omega arith) (no_names (eqb-true _ _ p))) λ p.
          let some : length (located 0 es) ≡ 0 → ⊥ = eqb-false _ _ p in
          split (eqb (length (body_at s)) 1)
          (λ q. let one = single (body_at s) (eqb-true _ _ q) in
          split (leb 1 (get_or (body_at s) 0 0))
          (λ r. split (leb (get_or (body_at s) 0 0) 15)
          (λ t. absurd (n (omega arith, (eqb-true _ _ q, (leb-true _ _ r, leb-true _ _ t)))))
          (λ t. mask_above_15 k _ one (leb-false _ _ t)))
          (λ r. let z : get_or (body_at s) 0 0 < 1 = leb-false _ _ r in
          let zero_is : get_or (body_at s) 0 0 ≡ 0 = omega arith in
          mask_zero k (one ∙ ap (λ (m : ℕ). m ∷ []) zero_is)))
          (λ q. not_1_octet k (eqb-false _ _ q))

  judge_kind : Judged es s (step_of (kind_at s) (body_at s) (length_at s) (state_of es))
  unfolding kind_of form_by
  judge_kind =
      let ob = octets_part s entry_head (length_at s) o in
      let k : ℕ = kind_at s in
      split (eqb (kind_at s) 1) (λ p. let v : k ≡ 1 = eqb-true _ _ p in rw p (judge_name unique v (omega arith))) λ p.
      split (eqb (kind_at s) 2) (λ q. let v : k ≡ 2 = eqb-true _ _ q in rw (p, q) (judge_name shared v (omega arith))) λ q.
      split (eqb (kind_at s) 3)
      (λ r. let v : k ≡ 3 = eqb-true _ _ r in
      rw (p, q, r) (judge_record (eqb (length (body_at s)) used_by4) (λ f. a (body_at s)) (λ f. record { size = eqb-true _ _ f; octets = ob }) (λ f. refl) (λ f. v) (λ f. not_4_octets v (eqb-false _ _ f)) (omega arith) (omega arith))) λ r.
      split (eqb (kind_at s) 4)
      (λ t. let v : k ≡ 4 = eqb-true _ _ t in
      rw (p, q, r, t) (judge_record (eqb (length (body_at s)) used_by6) (λ f. aaaa (body_at s)) (λ f. record { size = eqb-true _ _ f; octets = ob }) (λ f. refl) (λ f. v) (λ f. not_16_octets v (eqb-false _ _ f)) (omega arith) (omega arith))) λ t.
      split (eqb (kind_at s) 5)
      (λ u. let v : k ≡ 5 = eqb-true _ _ u in
      rw (p, q, r, t, u) (judge_record (name_fills (body_at s)) (λ f. ptr (fills_name (body_at s) ob f).name) (λ f. (fills_name (body_at s) ob f).is_name) (λ f. (fills_name (body_at s) ob f).octets) (λ f. v) (λ f. not_a_name (inr v) (no_name_lem (body_at s) f)) (omega arith) (omega arith))) λ u.
      split (eqb (kind_at s) 6) (λ y. rw (p, q, r, t, u, y) (judge_mask (eqb-true _ _ y)))
      (λ y. rw (p, q, r, t, u, y) (refused (unknown (kind_at s) (eqb-false _ _ p) (eqb-false _ _ q) (eqb-false _ _ r) (eqb-false _ _ t) (eqb-false _ _ u) (eqb-false _ _ y) refl) refl))
    where
      unknown : (j : ℕ) → (j ≡ 1 → ⊥) → (j ≡ 2 → ⊥) → (j ≡ 3 → ⊥) → (j ≡ 4 → ⊥) → (j ≡ 5 → ⊥) → (j ≡ 6 → ⊥) → kind_at s ≡ j → Breaks es s
      unknown j d1 d2 d3 d4 d5 d6 e =
          ⊎_elim (λ z. kind_zero (e ∙ z)) (λ l. kind_above_6 (subst (λ (i : ℕ). 6 < i) (sym e) (high j l d4 d5 d6))) (low j d1 d2 d3)

no_part : (es : List Entry) (s : List ℕ) → is_whole s ≡ false → Breaks es s
unfolding is_whole
no_part es s e =
    split (leb entry_head (length s))
    (λ p. split (leb entry_head (length_at s)) (λ q. past_the_end (leb-false _ _ (rw (p, q) at e))) (λ q. length_below_head (leb-false _ _ q)))
    (λ p. cut_short (leb-false _ _ p))

no_step : (s : List ℕ) (σ : State) → is_whole s ≡ false → step s σ ≡ broken
unfolding step form_at
no_step s σ e = rw e

pub judge : (es : List Entry) (s : List ℕ) → Octets s → AreNames (names es) → Judged es s (step s (state_of es))
judge es s o x =
    split (is_whole s)
    (λ e. let w = whole_is s e in rw (step_is s (state_of es) w) (judge_kind es s o x w))
    (λ e. refused (no_part es s e) (no_step s (state_of es) e))

-- An entry that keeps the rules is taken, whatever follows it.
pub takes : (es : List Entry) (e : Entry) (r : List ℕ) → Octets (entry_octets e ++ r) → AreNames (names es) → Keeps es e
    → step (entry_octets e ++ r) (state_of es) ≡ on (state_of (es ++ (e ∷ [])))
takes es e r o x k = go (judge es (entry_octets e ++ r) o x)
  where
    go : Judged es (entry_octets e ++ r) (step (entry_octets e ++ r) (state_of es)) → step (entry_octets e ++ r) (state_of es) ≡ on (state_of (es ++ (e ∷ [])))
    go (taken f y q i) = i ∙ ap (λ (u : Entry). on (state_of (es ++ (u ∷ [])))) (one_entry es f e _ r y k (sym q))
    go (refused b i) = absurd (none_stands es (entry_octets e ++ r) b e r k refl)
