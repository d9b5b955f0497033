-- Two names walked side by side: what each turn of the one or the other leaves to compare.
use Rattle.std.proofs.Common.{None, Option, Some, ℕ, suc, zero, ◌+◌, ◌-◌, ◌<◌, ◌≤◌, ◌≡◌, refl, sym, ap, ◌∙◌, List, [], ◌∷◌, ◌++◌, append_assoc, Bool, true, false, arith, eqb, length, take, drop, length-append, length-drop, length-take-le, eq-eqb, ne_eqb, eqb-true}
use Rattle.std.proofs.lemmas.Bool.{eqb-false}
use Rattle.octets.specs.Tests.{◌and◌}
use Rattle.octets.specs.Octets.{octet_at, part_of}
use Rattle.octets.proofs.Tests.{split, cond_same}
use Rattle.octets.proofs.Octets.{part_in}
use Rattle.names.specs.Bounds.{longest_label}
use Rattle.names.specs.Folding.{folded, same_name}
use Rattle.names.specs.declared.Walk.{Walk}
use Rattle.names.specs.declared.Turn.{Turn}
use Rattle.names.specs.declared.Turn.TheVariants.{More, End, Wrong}
use Rattle.names.specs.declared.RecordName.{RecordName}
use Rattle.names.specs.RecordNameWalk.{target, past_label, followed, turn_at, more_labels, labels_taken, walk_at, turns, record_name_from, record_name_at, expanded_from, expanded_at, if_good}
use Rattle.names.specs.Comparison.{is_good, same_record_name, is_end, one_more, ends_from}
use Rattle.names.proofs.Lists.{from_here}
use Rattle.names.proofs.Turns.{Met, root, one, jump, wrong, met, turn_root, turn_label, turn_jump, after_turn}
use Rattle.names.proofs.RecordNameWalk.{Within, within_start, starts_within, left, record_name_here, expanded_here, onward, no_part, walk_fuel, walk_more, walk_end, walk_wrong, expand_start, expand_more, expand_end, ended}
use Rattle.names.proofs.Folding.{folded_low, unequal_lengths}

-- the names from two walks on
abbrev same_here : List ℕ → Walk → List ℕ → Walk → Bool
same_here s a t b =
    is_good (record_name_here s a) and is_good (record_name_here t b) and same_name (expanded_here s a) (expanded_here t b)

same_start : (s : List ℕ) (p : ℕ) (t : List ℕ) (q : ℕ) (a b : Walk) → a ≡ walk_at p → b ≡ walk_at q
    → same_record_name s p t q ≡ same_here s a t b
unfolding same_record_name expanded_at
same_start s p t q a b e f =
    go (record_name_at s p) (record_name_at t q) (expanded_from turns s (walk_at p)) (expanded_from turns t (walk_at q))
    ∙ rw (fuelled s p, fuelled t q, expand_start s p (walk_at p) refl, expand_start t q (walk_at q) refl) refl
    ∙ ap (λ (w : Walk). same_here s w t (walk_at q)) (sym e)
    ∙ ap (λ (w : Walk). same_here s a t w) (sym f)
  where
    go : (x y : Option RecordName) (k l : List ℕ)
        → (is_good x and is_good y and same_name (if_good x k) (if_good y l)) ≡ (is_good x and is_good y and same_name k l)
    go (Some r) (Some u) k l = refl
    go (Some r) None k l = refl
    go None y k l = refl

    fuelled : (s : List ℕ) (p : ℕ) → record_name_at s p ≡ record_name_here s (walk_at p)
    fuelled s p = walk_fuel turns s (walk_at p) (within_start p) (omega arith)

-- labels more or fewer, a name that is read is read
still_good : (m : ℕ) (x : Option RecordName) → is_good (more_labels m x) ≡ is_good x
still_good m (Some r) = refl
still_good m None = refl

-- what a turn that goes on has met, as the number of pointers tells
data Went (s : List ℕ) (w v : Walk) : Type 0 where
  by_label : w.at < length s → 1 ≤ octet_at s w.at → octet_at s w.at ≤ longest_label → v ≡ past_label w (octet_at s w.at) → Went s w v
  by_pointer : v ≡ followed w (target s w.at) → Went s w v

went : (s : List ℕ) (w v : Walk) → turn_at s w ≡ More v → Went s w v
went s w v e = go (met s w)
  where
    go : Met s w → Went s w v
    go (wrong q) = absurd (let z : ◌≡◌ {A = ℕ} 0 1 = cc in omega arith)
    go (root h g) = absurd (let z : ◌≡◌ {A = ℕ} 0 1 = cc (turn_root s w h g) in omega arith)
    go (one h g i j) = by_label h g i (cc (turn_label s w h g i j))
    go (jump h g i j m) = by_pointer (cc (turn_jump s w h g i j m))

-- the octets of a label after its length
record Labelled (xs : List ℕ) : Type 0 where
  first : ℕ
  rest : List ℕ
  is : xs ≡ first ∷ rest
  length_is : length rest ≡ first
  some : 1 ≤ first
  short : first ≤ longest_label

-- what a turn adds: the part from the offset on
abbrev added : List ℕ → Walk → Walk → List ℕ
added s w v = part_of s w.at (w.at + (v.len - w.len))

module _ (s : List ℕ) (w v : Walk) (b : Within w) (e : turn_at s w ≡ More v) where
  -- a pointer adds none
  over_pointer : (v.pointers ≡ w.pointers → ⊥) → expanded_here s w ≡ expanded_here s v
  over_pointer n = go (went s w v e)
    where
      go : Went s w v → expanded_here s w ≡ expanded_here s v
      go (by_label h g i f) = absurd (n (ap (λ (u : Walk). u.pointers) f))
      go (by_pointer f) =
          let z : v.len ≡ w.len = ap (λ (u : Walk). u.len) f in
          expand_more s w b v e
          ∙ ap (λ (n : ℕ). part_of s w.at (w.at + (n - w.len)) ++ expanded_here s v) z
          ∙ ap (λ (l : List ℕ). l ++ expanded_here s v) (no_part s w (onward s w v b e).inside)

  -- a label adds itself, if the name goes on behind it
  over_label : v.pointers ≡ w.pointers → v.at < length s → Labelled (added s w v)
  over_label n j = go (went s w v e)
    where
      go : Went s w v → Labelled (added s w v)
      go (by_pointer f) = absurd (omega (arith, ap (λ (u : Walk). u.pointers) f))
      go (by_label h g i f) =
          let p : ℕ = w.at in
          let c : ℕ = octet_at s p in
          let d : List ℕ = drop (p + 1) s in
          let q : v.at ≡ p + 1 + c = ap (λ (u : Walk). u.at) f in
          let k : v.len ≡ w.len + 1 + c = ap (λ (u : Walk). u.len) f in
          let y : p ≤ p + (v.len - w.len) = omega arith in
          let x : p + (v.len - w.len) ≤ length s = omega arith in
          let z : p + (v.len - w.len) - p ≡ suc c = omega arith in
          let m : c ≤ length d = omega (arith, length-drop (p + 1) s) in
          record {
            first = c;
            rest = take c d;
            is = part_in s p (p + (v.len - w.len)) y x ∙ ap (λ (n : ℕ). take n (drop p s)) z ∙ ap (take (suc c)) (from_here s p h);
            length_is = length-take-le c d m;
            some = g;
            short = i;
          }

  -- it ends where the walk goes on
  label_to : v.pointers ≡ w.pointers → part_of s w.at v.at ≡ added s w v
  label_to n = go (went s w v e)
    where
      go : Went s w v → part_of s w.at v.at ≡ added s w v
      go (by_pointer f) = absurd (omega (arith, ap (λ (u : Walk). u.pointers) f))
      go (by_label h g i f) =
          let z : v.at ≡ w.at + (v.len - w.len) = omega (arith, ap (λ (u : Walk). u.at) f, ap (λ (u : Walk). u.len) f) in
          ap (part_of s w.at) z

  over_good : v.pointers ≡ w.pointers → (r : RecordName) → record_name_here s v ≡ Some r → Labelled (added s w v)
  over_good n r g = over_label n (ended (left v) s v r (onward s w v b e).within g).inside

-- a name that is read ends with its zero octet
ends_zero : (k : ℕ) (s : List ℕ) (w : Walk) (r : RecordName) → record_name_from k s w ≡ Some r
    → (xs : List ℕ) × (expanded_from k s w ≡ xs ++ (0 ∷ []))
unfolding record_name_from expanded_from
ends_zero zero s w r e = absurd (let z : ◌≡◌ {A = ℕ} 0 1 = cc in omega arith)
ends_zero (suc k) s w r e = go (turn_at s w) refl (λ v q. ends_zero k s v q)
  where
    go : (t : Turn) → turn_at s w ≡ t
        → ((v : Walk) (q : RecordName) → record_name_from k s v ≡ Some q → (xs : List ℕ) × (expanded_from k s v ≡ xs ++ (0 ∷ [])))
        → (xs : List ℕ) × (expanded_from (suc k) s w ≡ xs ++ (0 ∷ []))
    go (More v) t i =
        let q = after_turn k s w v r e t in
        let x = i v q.fewer q.is in (
          added s w v ++ x.0,
          rw t (ap (λ (l : List ℕ). added s w v ++ l) x.1 ∙ sym (append_assoc (added s w v) x.0 (0 ∷ []))),
        )
    go (End u) t i = ([], rw t)
    go Wrong t i = absurd (let f : None ≡ Some r = rw t at e in let z : ◌≡◌ {A = ℕ} 0 1 = cc in omega arith)

-- lists of one length, and what stands behind them
same_join : (l m x y : List ℕ) → length l ≡ length m → same_name (l ++ x) (m ++ y) ≡ (same_name l m and same_name x y)
unfolding same_name
same_join [] [] x y e = refl
same_join [] (d ∷ m) x y e = absurd (omega arith)
same_join (c ∷ l) [] x y e = absurd (omega arith)
same_join (c ∷ l) (d ∷ m) x y e =
    let n : length l ≡ length m = omega arith in
    split (eqb (folded c) (folded d)) (λ f. rw f (same_join l m x y n)) (λ f. rw f)

-- two labels, and what stands behind them
labels_join : (c d : ℕ) (l m x y : List ℕ) → length l ≡ c → length m ≡ d → c ≤ longest_label → d ≤ longest_label
    → same_name (c ∷ (l ++ x)) (d ∷ (m ++ y)) ≡ (same_name (c ∷ l) (d ∷ m) and same_name x y)
unfolding same_name
labels_join c d l m x y j k h g =
    split
    (eqb (folded c) (folded d))
    (λ f.
    let i : folded c ≡ folded d = eqb-true _ _ f in
    let c65 : c < 65 = omega arith in
    let d65 : d < 65 = omega arith in
    let n : length l ≡ length m = omega (arith, folded_low c c65, folded_low d d65) in
    rw f (same_join l m x y n))
    (λ f. rw f)

-- a label is not the root
label_not_root : (c : ℕ) (l : List ℕ) → 1 ≤ c → c ≤ longest_label → same_name (c ∷ l) (0 ∷ []) ≡ false
unfolding same_name
label_not_root c l h g =
    let c65 : c < 65 = omega arith in
    let z65 : 0 < 65 = omega arith in
    let n : folded c ≡ folded 0 → ⊥ = omega (arith, folded_low c c65, folded_low 0 z65) in
    rw (ne_eqb _ _ n)

zero_alone : (x xs : List ℕ) → x ≡ xs ++ (0 ∷ []) → length x ≡ 1 → same_name (0 ∷ []) x ≡ true
unfolding same_name
zero_alone x [] e n = rw e (ap (λ (c : Bool). c and true) (eq-eqb (folded 0) (folded 0) refl))
zero_alone x (c ∷ xs) e n = absurd (omega (arith, ap length e, length-append xs (0 ∷ [])))

module _ (s : List ℕ) (a : Walk) (t : List ℕ) (b : Walk) (i : Within a) (j : Within b) where
  -- A pointer of the one or of the other changes nothing.
  same_first : (v : Walk) → turn_at s a ≡ More v → (v.pointers ≡ a.pointers → ⊥) → same_here s a t b ≡ same_here s v t b
  same_first v e n = rw (walk_more s a i v e, still_good (labels_taken a v) (record_name_here s v), over_pointer s a v i e n)

  same_second : (u : Walk) → turn_at t b ≡ More u → (u.pointers ≡ b.pointers → ⊥) → same_here s a t b ≡ same_here s a t u
  same_second u e n = rw (walk_more t b j u e, still_good (labels_taken b u) (record_name_here t u), over_pointer t b u j e n)

  -- A label of both: they are the same, and what is behind them is.
  same_labels_on : (v u : Walk) → turn_at s a ≡ More v → turn_at t b ≡ More u → v.pointers ≡ a.pointers → u.pointers ≡ b.pointers
      → same_here s a t b ≡ (same_name (added s a v) (added t b u) and same_here s v t u)
  same_labels_on v u e f n m =
      rw (walk_more s a i v e, still_good (labels_taken a v) (record_name_here s v), walk_more t b j u f, still_good (labels_taken b u) (record_name_here t u), expand_more s a i v e, expand_more t b j u f)
      (go (record_name_here s v) (record_name_here t u) (over_good s a v i e n) (over_good t b u j f m))
    where
      go : (x y : Option RecordName) → ((r : RecordName) → x ≡ Some r → Labelled (added s a v)) → ((r : RecordName) → y ≡ Some r → Labelled (added t b u))
          → (is_good x and is_good y and same_name (added s a v ++ expanded_here s v) (added t b u ++ expanded_here t u))
          ≡ (same_name (added s a v) (added t b u) and is_good x and is_good y and same_name (expanded_here s v) (expanded_here t u))
      go None y p q = sym (cond_same (same_name (added s a v) (added t b u)) false)
      go (Some r) None p q = sym (cond_same (same_name (added s a v) (added t b u)) false)
      go (Some r) (Some k) p q =
          let l = p r refl in
          let m = q k refl in
          rw (l.is, m.is)
          (labels_join l.first m.first l.rest m.rest (expanded_here s v) (expanded_here t u) l.length_is m.length_is l.short m.short)

  -- A label of the one where the other ends, or is wrong.
  same_label_root : (v : Walk) (r : RecordName) → turn_at s a ≡ More v → v.pointers ≡ a.pointers → turn_at t b ≡ End r
      → same_here s a t b ≡ false
  same_label_root v r e n f =
      rw (walk_more s a i v e, still_good (labels_taken a v) (record_name_here s v), walk_end t b j r f, expand_more s a i v e, expand_end t b j r f)
      (go (record_name_here s v) (over_good s a v i e n))
    where
      go : (x : Option RecordName) → ((r : RecordName) → x ≡ Some r → Labelled (added s a v))
          → (is_good x and same_name (added s a v ++ expanded_here s v) (0 ∷ [])) ≡ false
      go None p = refl
      go (Some r) p = let l = p r refl in rw l.is (label_not_root _ _ l.some l.short)

  same_second_wrong : turn_at t b ≡ Wrong → same_here s a t b ≡ false
  same_second_wrong f = rw (walk_wrong t b j f) (cond_same (is_good (record_name_here s a)) false)

  -- The one ends, or is wrong.
  same_first_wrong : turn_at s a ≡ Wrong → same_here s a t b ≡ false
  same_first_wrong e = rw (walk_wrong s a i e)

  same_root : (r : RecordName) → turn_at s a ≡ End r → same_here s a t b ≡ ends_from t b
  same_root r e =
      rw (walk_end s a i r e, expand_end s a i r e, walk_fuel turns t b j (omega arith)) (go (record_name_here t b) refl)
    where
      go : (y : Option RecordName) → record_name_here t b ≡ y
          → (is_good y and same_name (0 ∷ []) (expanded_here t b)) ≡ one_more y b.len
      go None f = refl
      go (Some k) f =
          let l : k.len ≡ b.len + length (expanded_here t b) = (ended (left b) t b k j f).length_is in
          let z = ends_zero (left b) t b k f in
          split
          (eqb k.len (b.len + 1))
          (λ g. let n : length (expanded_here t b) ≡ 1 = omega (arith, eqb-true k.len (b.len + 1) g) in rw g (zero_alone (expanded_here t b) z.0 z.1 n))
          (λ g.
          let n : 1 ≡ length (expanded_here t b) → ⊥ = λ h. eqb-false k.len (b.len + 1) g (omega arith) in
          rw g (unequal_lengths (0 ∷ []) (expanded_here t b) n))

-- The names at p and q are the same if what is left of them from two walks on is.
pub record Compared (s : List ℕ) (p : ℕ) (t : List ℕ) (q : ℕ) (a b : Walk) : Type 0 where
  pub first : Within a
  pub second : Within b
  pub same : same_record_name s p t q ≡ same_here s a t b

pub compared_start : (s : List ℕ) (p : ℕ) (t : List ℕ) (q : ℕ) (a b : Walk) → a ≡ walk_at p → b ≡ walk_at q → Compared s p t q a b
compared_start s p t q a b e f =
    record { first = starts_within p a e; second = starts_within q b f; same = same_start s p t q a b e f }

-- x and y are the turns of the two walks
module _ {s : List ℕ} {p : ℕ} {t : List ℕ} {q : ℕ} {a b : Walk} (c : Compared s p t q a b) where
  module _ {x : Turn} (e : x ≡ turn_at s a) where
    pub compared_ends : {r : Bool} → ((v : Walk) → x ≡ More v → ⊥) → r ≡ (is_end x and ends_from t b) → r ≡ same_record_name s p t q
    compared_ends n f = f ∙ go x refl
      where
        go : (y : Turn) → x ≡ y → (is_end x and ends_from t b) ≡ same_record_name s p t q
        go (More v) f = absurd (n v f)
        go (End r) f = rw f (sym (c.same ∙ same_root s a t b c.first c.second r (sym e ∙ f)))
        go Wrong f = rw f (sym (c.same ∙ same_first_wrong s a t b c.first c.second (sym e ∙ f)))

    module _ {v : Walk} (f : x ≡ More v) where
      pub nearer_first : left v < left a
      nearer_first = (onward s a v c.first (sym e ∙ f)).nearer

      pub compared_first : (v.pointers ≡ a.pointers → ⊥) → Compared s p t q v b
      compared_first n =
          record { first = (onward s a v c.first (sym e ∙ f)).within; second = c.second; same = c.same ∙ same_first s a t b c.first c.second v (sym e ∙ f) n }

  module _ {y : Turn} (g : y ≡ turn_at t b) {u : Walk} (h : y ≡ More u) where
    pub nearer_second : left u < left b
    nearer_second = (onward t b u c.second (sym g ∙ h)).nearer

    pub compared_second : (u.pointers ≡ b.pointers → ⊥) → Compared s p t q a u
    compared_second n =
        record { first = c.first; second = (onward t b u c.second (sym g ∙ h)).within; same = c.same ∙ same_second s a t b c.first c.second u (sym g ∙ h) n }

  module _ {x y : Turn} {v : Walk} (e : x ≡ turn_at s a) (f : x ≡ More v) (n : v.pointers ≡ a.pointers) (g : y ≡ turn_at t b) where
    pub compared_apart : ((u : Walk) → y ≡ More u → ⊥) → false ≡ same_record_name s p t q
    compared_apart m = go y refl
      where
        go : (z : Turn) → y ≡ z → false ≡ same_record_name s p t q
        go (More u) h = absurd (m u h)
        go (End r) h = sym (c.same ∙ same_label_root s a t b c.first c.second v r (sym e ∙ f) n (sym g ∙ h))
        go Wrong h = sym (c.same ∙ same_second_wrong s a t b c.first c.second (sym g ∙ h))

    -- r tells whether the two labels are the same
    module _ {u : Walk} (h : y ≡ More u) (m : u.pointers ≡ b.pointers) {xs ys : List ℕ} {r : Bool} (k : xs ≡ part_of s a.at v.at)
        (l : ys ≡ part_of t b.at u.at) (o : r ≡ same_name xs ys) where
      told : {w : Bool} → r ≡ w → same_record_name s p t q ≡ (w and same_here s v t u)
      told {w} i =
          let d : added s a v ≡ xs = sym (k ∙ label_to s a v c.first (sym e ∙ f) n) in
          let z : added t b u ≡ ys = sym (l ∙ label_to t b u c.second (sym g ∙ h) m) in
          c.same
          ∙ same_labels_on s a t b c.first c.second v u (sym e ∙ f) (sym g ∙ h) n m
          ∙ rw (d, z, sym o, i)

      pub compared_labels : r ≡ true → Compared s p t q v u
      compared_labels i =
          record {
            first = (onward s a v c.first (sym e ∙ f)).within;
            second = (onward t b u c.second (sym g ∙ h)).within;
            same = told i;
          }

      pub compared_unlike : r ≡ false → false ≡ same_record_name s p t q
      compared_unlike i = sym (told i)

pub ruleset compared = (compared_start, nearer_first, nearer_second, compared_first, compared_second, compared_ends, compared_apart, compared_labels, compared_unlike)
