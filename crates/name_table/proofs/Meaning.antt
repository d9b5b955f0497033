-- What the check of a name table means.
use Rattle.std.proofs.Common.{ℕ, suc, zero, ◌<◌, ◌≤◌, ◌≡◌, refl, sym, ap, ◌∙◌, subst, List, [], ◌∷◌, ◌++◌, append_assoc, append-nil, false, cond, ◌↔◌, ◌⊎◌, inl, inr, arith, ltb, length, drop, drop_at, lt-ltb, le-ltb, ltb-true, ltb-false}
use Rattle.octets.specs.Octets.{Octets}
use Rattle.octets.proofs.Tests.{split}
use Rattle.octets.proofs.Octets.{octets_drop}
use Rattle.name_table.specs.Bounds.{longest_table}
use Rattle.name_table.specs.Check.{Held, State, on, broken, Walked, whole, stopped, good, bad, checked_by, length_at, step, from, check_from, start, check_table}
use Rattle.name_table.specs.Entries.{Entry, entry_octets, table_octets, names, Keeps, AllKeep, GoodTable, Breaks, BadEntry, located}
use Rattle.name_table.proofs.Fold.{step_whole, turn_on, turn_end, turn_off, shorter, fuel}
use Rattle.name_table.proofs.Entries.{state_of, AreNames, entry_rest, none_stands, one_entry, names_kept}
use Rattle.name_table.proofs.Judge.{Judged, taken, refused, judge, takes}

-- what a check from the state after `before` comes to
data Run (before : List Entry) (s : List ℕ) : Walked → Type 0 where
  all : (es : List Entry) → AllKeep before es → s ≡ table_octets es → Run before s (whole (state_of (before ++ es)))
  stop : (es : List Entry) (rest : List ℕ) → AllKeep before es → s ≡ table_octets es ++ rest → 1 ≤ length rest → Breaks (before ++ es) rest
      → Run before s (stopped (length (table_octets (before ++ es))))

-- one entry more in front
more : (before : List Entry) (e : Entry) (s r : List ℕ) {c : Walked} → Keeps before e → s ≡ entry_octets e ++ r → Run (before ++ (e ∷ [])) r c → Run before s c
more before e s r k q (all es h i) =
    let z : before ++ (e ∷ []) ++ es ≡ before ++ (e ∷ es) = append_assoc before (e ∷ []) es in
    subst (λ (u : List Entry). Run before s (whole (state_of u))) (sym z) (all (e ∷ es) (k, h) (q ∙ ap (λ (t : List ℕ). entry_octets e ++ t) i))
more before e s r k q (stop es rest h i l n) =
    let z : before ++ (e ∷ []) ++ es ≡ before ++ (e ∷ es) = append_assoc before (e ∷ []) es in
    subst (λ (u : List Entry). Run before s (stopped (length (table_octets u)))) (sym z)
    (stop (e ∷ es) rest (k, h) (q ∙ ap (λ (t : List ℕ). entry_octets e ++ t) i ∙ sym (append_assoc (entry_octets e) (table_octets es) rest)) l (subst (λ (u : List Entry). Breaks u rest) z n))

run : (k : ℕ) (before : List Entry) (s : List ℕ) → Octets s → AreNames (names before) → length s < k → Run before s (from k s (state_of before))
run zero before s o x h = absurd (omega arith)
run (suc k) before s o x h = go (judge before s o x) (λ e. run k (before ++ (e ∷ [])) (drop (length_at s) s) (octets_drop (length_at s) s o))
  where
    here : before ++ [] ≡ before
    here = append-nil before

    none : (t : List ℕ) → s ≡ t → Breaks before s → step s (state_of before) ≡ broken → Run before s (from (suc k) s (state_of before))
    none [] q b e =
        subst (Run before s) (ap (λ (u : List Entry). whole (state_of u)) here ∙ sym (turn_end k s (state_of before) (ap length q)))
        (all [] tt q)
    none (c ∷ t) q b e =
        let l : 1 ≤ length s = omega (arith, ap length q) in
        subst (Run before s) (ap (λ (u : List Entry). stopped (length (table_octets u))) here ∙ sym (turn_off k s (state_of before) l e))
        (stop [] s tt refl l (subst (λ (u : List Entry). Breaks u s) (sym here) b))

    go : Judged before s (step s (state_of before))
        → ((e : Entry) → AreNames (names (before ++ (e ∷ []))) → length (drop (length_at s) s) < k → Run (before ++ (e ∷ [])) (drop (length_at s) s) (from k (drop (length_at s) s) (state_of (before ++ (e ∷ [])))))
        → Run before s (from (suc k) s (state_of before))
    go (taken e keeps q i) r =
        let l = shorter s (step_whole s (state_of before) (state_of (before ++ (e ∷ []))) i) in
        subst (Run before s) (sym (turn_on k s (state_of before) (state_of (before ++ (e ∷ []))) i))
        (more before e s (drop (length_at s) s) keeps q (r e (names_kept before e x keeps) (omega arith)))
    go (refused b i) r = none s refl b i

-- Good entries are passed over, whatever follows.
pub passes : (before es : List Entry) (y : List ℕ) → Octets (table_octets es ++ y) → AreNames (names before) → AllKeep before es
    → check_from (table_octets es ++ y) (state_of before) ≡ check_from y (state_of (before ++ es))
passes before [] y o x h = ap (λ (u : List Entry). check_from y (state_of u)) (sym (append-nil before))
passes before (e ∷ es) y o x h =
    let t : List ℕ = table_octets es ++ y in
    let s : List ℕ = entry_octets e ++ t in
    let σ : State = state_of before in
    let τ : State = state_of (before ++ (e ∷ [])) in
    let assoc : table_octets (e ∷ es) ++ y ≡ s = append_assoc (entry_octets e) (table_octets es) y in
    let os : Octets s = subst Octets assoc o in
    let ot : Octets t = subst Octets (entry_rest e t) (octets_drop (length_at s) s os) in
    let i : step s σ ≡ on τ = takes before e t os x h.0 in
    let n : length t < length s = subst (λ (u : List ℕ). length u < length s) (entry_rest e t) (shorter s (step_whole s σ τ i)) in
    let g : length t < suc (length t) = omega arith in
    ap (λ (u : List ℕ). check_from u σ) assoc ∙ turn_on (length s) s σ τ i
    ∙ ap (λ (u : List ℕ). from (length s) u τ) (entry_rest e t) ∙ fuel (length s) (suc (length t)) t τ n g
    ∙ passes (before ++ (e ∷ [])) es y ot (names_kept before e x h.0) h.1
    ∙ ap (λ (u : List Entry). check_from y (state_of u)) (append_assoc before (e ∷ []) es)

pub all_names : (before es : List Entry) → AreNames (names before) → AllKeep before es → AreNames (names (before ++ es))
all_names before [] x h = rw (append-nil before) x
all_names before (e ∷ es) x h =
    subst (λ (u : List Entry). AreNames (names u)) (append_assoc before (e ∷ []) es) (all_names (before ++ (e ∷ [])) es (names_kept before e x h.0) h.1)

-- Where an entry breaks a rule, the check stops.
stuck : (before : List Entry) (rest : List ℕ) → Octets rest → AreNames (names before) → 1 ≤ length rest → Breaks before rest
    → check_from rest (state_of before) ≡ stopped (length (table_octets before))
stuck before rest o x m b = go (judge before rest o x)
  where
    go : Judged before rest (step rest (state_of before)) → check_from rest (state_of before) ≡ stopped (length (table_octets before))
    go (taken e keeps q i) = absurd (none_stands before rest b e (drop (length_at rest) rest) keeps q)
    go (refused c i) = turn_off (length rest) rest (state_of before) m i

-- A table is good exactly if it is the encoding of a list of entries that keep the rules; the names given are those of the entries,
-- with their places.
pub good_iff : (s : List ℕ) (hs : List Held) → Octets s → (check_table s ≡ good hs) ↔ ((t : GoodTable s) × (hs ≡ located 0 t.entries))
unfolding check_table
good_iff s hs o = (to, back)
  where
    get : (c : Walked) → Run [] s c → length s ≤ longest_table → checked_by c ≡ good hs → (t : GoodTable s) × (hs ≡ located 0 t.entries)
    get c (all es h q) l e = (record { entries = es; keep = h; octets = q; size = l }, cc)
    get c (stop es rest h q m n) l e = absurd (let z : ◌≡◌ {A = ℕ} 0 1 = cc in omega arith)

    to : cond (ltb longest_table (length s)) (bad longest_table) (checked_by (check_from s start)) ≡ good hs → (t : GoodTable s) × (hs ≡ located 0 t.entries)
    to e =
        split (ltb longest_table (length s)) (λ p. absurd (let z : ◌≡◌ {A = ℕ} 0 1 = cc (rw p at e) in omega arith))
        (λ p. get (check_from s start) (run (suc (length s)) [] s o tt (omega arith)) (ltb-false _ _ p) (rw p at e))

    back : (t : GoodTable s) × (hs ≡ located 0 t.entries) → cond (ltb longest_table (length s)) (bad longest_table) (checked_by (check_from s start)) ≡ good hs
    back (t, q) =
        let p : ltb longest_table (length s) ≡ false = le-ltb _ _ t.size in
        let e : s ≡ table_octets t.entries ++ [] = t.octets ∙ sym (append-nil (table_octets t.entries)) in
        let w : check_from s start ≡ whole (state_of t.entries) =
        ap (λ (u : List ℕ). check_from u start) e ∙ passes [] t.entries [] (subst Octets e o) tt t.keep ∙ turn_end 0 [] (state_of t.entries) refl in
        rw (p, w) (ap good (sym q))

-- A table is refused exactly if it is too long, then at the bound; or where good entries end and the next breaks a rule.
pub bad_iff : (s : List ℕ) (at : ℕ) → Octets s
    → (check_table s ≡ bad at) ↔ (((4096 < length s) × (at ≡ 4096)) ⊎ ((length s ≤ 4096) × BadEntry s at))
unfolding check_table
bad_iff s at o = (to, back)
  where
    get : (c : Walked) → Run [] s c → checked_by c ≡ bad at → BadEntry s at
    get c (all es h q) e = absurd (let z : ◌≡◌ {A = ℕ} 0 1 = cc in omega arith)
    get c (stop es rest h q m n) e = record { before = es; rest = rest; keep = h; octets = q; offset = cc; more = m; breaks = n }

    to : cond (ltb longest_table (length s)) (bad longest_table) (checked_by (check_from s start)) ≡ bad at → ((longest_table < length s) × (at ≡ longest_table)) ⊎ ((length s ≤ longest_table) × BadEntry s at)
    to e =
        split (ltb longest_table (length s))
        (λ p. let f : bad longest_table ≡ bad at = rw p at e in inl (ltb-true _ _ p, cc))
        (λ p. inr (ltb-false _ _ p, get (check_from s start) (run (suc (length s)) [] s o tt (omega arith)) (rw p at e)))

    back : ((longest_table < length s) × (at ≡ longest_table)) ⊎ ((length s ≤ longest_table) × BadEntry s at) → cond (ltb longest_table (length s)) (bad longest_table) (checked_by (check_from s start)) ≡ bad at
    back (inl (l, q)) = rw (lt-ltb _ _ l) (ap bad (sym q))
    back (inr (l, b)) = rw (le-ltb _ _ l, ends) (ap bad (sym b.offset))
      where
        rest_is : b.rest ≡ drop (length (table_octets b.before)) s
        rest_is = sym (drop_at (table_octets b.before) b.rest (length (table_octets b.before)) refl) ∙ ap (drop (length (table_octets b.before))) (sym b.octets)

        ends : check_from s start ≡ stopped (length (table_octets b.before))
        ends =
            ap (λ (u : List ℕ). check_from u start) b.octets ∙ passes [] b.before b.rest (subst Octets b.octets o) tt b.keep
            ∙ stuck b.before b.rest (subst Octets (sym rest_is) (octets_drop (length (table_octets b.before)) s o)) (all_names [] b.before tt b.keep) b.more b.breaks

-- At most one list of entries that keep the rules has given octets.
pub one_list : (before es fs : List Entry) → AllKeep before es → AllKeep before fs → table_octets es ≡ table_octets fs → es ≡ fs
one_list before [] [] x y q = refl
one_list before [] (f ∷ fs) x y q = absurd (omega (arith, ap length q))
one_list before (e ∷ es) [] x y q = absurd (omega (arith, ap length q))
one_list before (e ∷ es) (f ∷ fs) x y q =
    let same : e ≡ f = one_entry before e f (table_octets es) (table_octets fs) x.0 y.0 q in
    let rest : table_octets es ≡ table_octets fs =
    sym (entry_rest e (table_octets es)) ∙ ap (λ (u : List ℕ). drop (length_at u) u) q ∙ entry_rest f (table_octets fs) in
    let tail : es ≡ fs = one_list (before ++ (e ∷ [])) es fs x.1 (subst (λ (u : Entry). AllKeep (before ++ (u ∷ [])) fs) (sym same) y.1) rest in
    cc

pub one_table : (s : List ℕ) (t u : GoodTable s) → t.entries ≡ u.entries
one_table s t u = one_list [] t.entries u.entries t.keep u.keep (sym t.octets ∙ u.octets)
