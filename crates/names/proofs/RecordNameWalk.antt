-- Laws of the walk over a record's name: its fuel, and what its end says.
use Rattle.std.proofs.Common.{None, Option, Some, ℕ, suc, zero, ◌+◌, ◌-◌, ◌/◌, ◌<◌, ◌≤◌, ◌≡◌, refl, sym, ap, ◌∙◌, subst, List, [], ◌∷◌, ◌++◌, arith, length, take, drop, length-append, eq-eqb, ne_eqb}
use Rattle.octets.specs.Octets.{octet_at, part_of}
use Rattle.octets.proofs.Octets.{length_part, part_in}
use Rattle.names.specs.Bounds.{longest_name, most_pointers}
use Rattle.names.specs.declared.Walk.{Walk}
use Rattle.names.specs.declared.Turn.{Turn}
use Rattle.names.specs.declared.Turn.TheVariants.{More, End, Wrong}
use Rattle.names.specs.declared.RecordName.{RecordName}
use Rattle.names.specs.RecordNameWalk.{target, goes_on, at_root, past_label, followed, turn_at, more_labels, labels_taken, on_turn, record_name_from, walk_at, turns, record_name_at, on_expand, expanded_from}
use Rattle.names.proofs.Turns.{Met, root, one, jump, wrong, met, turn_root, turn_label, turn_jump, takes_one, takes_none, root_none, more_none, more_again, after_turn}

-- A walk within the bounds. The turns that are left of it fall with each: labels of two octets or more, pointers, and the last one.
pub record Within (w : Walk) : Type 0 where
  pub short : w.len < longest_name
  pub few : w.pointers ≤ most_pointers

abbrev pub left : Walk → ℕ
left w = (longest_name - w.len) / 2 + (most_pointers - w.pointers) + 1

pub within_start : (at : ℕ) → Within (walk_at at)
within_start at = record { short = omega arith; few = omega arith }

pub starts_within : (at : ℕ) (w : Walk) → w ≡ walk_at at → Within w
starts_within at w e = subst (λ (v : Walk). Within v) (sym e) (within_start at)

-- from w a turn goes on to v
pub record Onward (s : List ℕ) (w v : Walk) : Type 0 where
  pub inside : w.at < length s
  pub longer : w.len ≤ v.len
  pub counted : w.len + (labels_taken w v + labels_taken w v) ≤ v.len
  pub within : Within v
  pub nearer : left v < left w

pub onward : (s : List ℕ) (w v : Walk) → Within w → turn_at s w ≡ More v → Onward s w v
onward s w v b e = go (met s w)
  where
    go : Met s w → Onward s w v
    go (wrong q) = absurd (let z : ◌≡◌ {A = ℕ} 0 1 = cc in omega arith)
    go (root h g) = absurd (let z : ◌≡◌ {A = ℕ} 0 1 = cc (turn_root s w h g) in omega arith)
    go (one h g i j) =
        let f : past_label w (octet_at s w.at) ≡ v = cc (turn_label s w h g i j) in
        subst
        (λ (u : Walk). Onward s w u)
        f
        (record {
          inside = h;
          longer = omega arith;
          counted = omega (arith, takes_one w (octet_at s w.at));
          within = record { short = j; few = b.few };
          nearer = omega (arith, b.short);
        })
    go (jump h g i j m) =
        let f : followed w (target s w.at) ≡ v = cc (turn_jump s w h g i j m) in
        subst
        (λ (u : Walk). Onward s w u)
        f
        (record {
          inside = omega arith;
          longer = omega arith;
          counted = omega (arith, takes_none w (target s w.at));
          within = record { short = b.short; few = omega arith };
          nearer = omega arith;
        })

-- What a walk gives: `on` makes it of a turn and of what the walk gives where the turn goes on.
module _ {A : Type 0} (from : ℕ → List ℕ → Walk → A) (on : List ℕ → Walk → Turn → (Walk → A) → A)
    (step : (k : ℕ) (s : List ℕ) (w : Walk) → from (suc k) s w ≡ on s w (turn_at s w) (from k s))
    (same : (s : List ℕ) (w : Walk) (t : Turn) (f g : Walk → A) → ((v : Walk) → t ≡ More v → f v ≡ g v) → on s w t f ≡ on s w t g) where
  -- Fuel for what is left is enough: any more gives the same.
  fuel : (j k : ℕ) (s : List ℕ) (w : Walk) → Within w → left w ≤ j → left w ≤ k → from j s w ≡ from k s w
  fuel zero k s w b x y = absurd (omega (arith, b.short))
  fuel (suc j) zero s w b x y = absurd (omega (arith, b.short))
  fuel (suc j) (suc k) s w b x y =
      step j s w
      ∙ same s w (turn_at s w) (from j s) (from k s)
      (λ v e.
      let o = onward s w v b e in
      let n : left v < left w = o.nearer in
      fuel j k s v o.within (omega arith) (omega arith))
      ∙ sym (step k s w)

  -- a turn, each walk with just enough fuel
  turned : (s : List ℕ) (w : Walk) → Within w → from (left w) s w ≡ on s w (turn_at s w) (λ v. from (left v) s v)
  turned s w b = go (left w - 1) (omega (arith, b.short))
    where
      go : (m : ℕ) → left w ≡ suc m → from (left w) s w ≡ on s w (turn_at s w) (λ v. from (left v) s v)
      go m q =
          ap (λ (k : ℕ). from k s w) q
          ∙ step m s w
          ∙ same s w (turn_at s w) (from m s) (λ v. from (left v) s v)
          (λ v e.
          let o = onward s w v b e in
          let n : left v < left w = o.nearer in
          fuel m (left v) s v o.within (omega arith) (omega arith))

-- the two walks from w on, with just enough fuel
abbrev pub record_name_here : List ℕ → Walk → Option RecordName
record_name_here s w = record_name_from (left w) s w

abbrev pub expanded_here : List ℕ → Walk → List ℕ
expanded_here s w = expanded_from (left w) s w

-- their turns
same_read : (w : Walk) (t : Turn) (f g : Walk → Option RecordName) → ((v : Walk) → t ≡ More v → f v ≡ g v) → on_turn w t f ≡ on_turn w t g
same_read w (More v) f g h = ap (more_labels (labels_taken w v)) (h v refl)
same_read w (End r) f g h = refl
same_read w Wrong f g h = refl

walk_turn : (s : List ℕ) (w : Walk) → Within w → record_name_here s w ≡ on_turn w (turn_at s w) (λ v. record_name_here s v)
unfolding record_name_from
walk_turn = turned record_name_from (λ s. on_turn) (λ k s w. refl) (λ s. same_read)

-- the walk with fuel for what is left, and with any more
pub walk_fuel : (k : ℕ) (s : List ℕ) (w : Walk) → Within w → left w ≤ k → record_name_from k s w ≡ record_name_here s w
unfolding record_name_from
walk_fuel k s w b h = fuel record_name_from (λ s. on_turn) (λ k s w. refl) (λ s. same_read) k (left w) s w b h (omega arith)

same_expanded : (s : List ℕ) (w : Walk) (t : Turn) (f g : Walk → List ℕ) → ((v : Walk) → t ≡ More v → f v ≡ g v)
    → on_expand s w t f ≡ on_expand s w t g
same_expanded s w (More v) f g h = ap (λ (l : List ℕ). part_of s w.at (w.at + (v.len - w.len)) ++ l) (h v refl)
same_expanded s w (End r) f g h = refl
same_expanded s w Wrong f g h = refl

expand_turn : (s : List ℕ) (w : Walk) → Within w → expanded_here s w ≡ on_expand s w (turn_at s w) (λ v. expanded_here s v)
unfolding expanded_from
expand_turn = turned expanded_from on_expand (λ k s w. refl) same_expanded

pub expand_fuel : (k : ℕ) (s : List ℕ) (w : Walk) → Within w → left w ≤ k → expanded_from k s w ≡ expanded_here s w
unfolding expanded_from
expand_fuel k s w b h = fuel expanded_from on_expand (λ k s w. refl) same_expanded k (left w) s w b h (omega arith)

pub expand_start : (s : List ℕ) (at : ℕ) (w : Walk) → w ≡ walk_at at → expanded_from turns s (walk_at at) ≡ expanded_here s w
expand_start s at w e = expand_fuel turns s (walk_at at) (within_start at) (omega arith) ∙ ap (expanded_here s) (sym e)

module _ (s : List ℕ) (w : Walk) (b : Within w) where
  pub walk_more : (v : Walk) → turn_at s w ≡ More v → record_name_here s w ≡ more_labels (labels_taken w v) (record_name_here s v)
  walk_more v e = walk_turn s w b ∙ rw e

  pub walk_end : (r : RecordName) → turn_at s w ≡ End r → record_name_here s w ≡ Some r
  walk_end r e = walk_turn s w b ∙ rw e

  pub walk_wrong : turn_at s w ≡ Wrong → record_name_here s w ≡ None
  walk_wrong e = walk_turn s w b ∙ rw e

  pub expand_more : (v : Walk) → turn_at s w ≡ More v
      → expanded_here s w ≡ part_of s w.at (w.at + (v.len - w.len)) ++ expanded_here s v
  expand_more v e = expand_turn s w b ∙ rw e

  pub expand_end : (r : RecordName) → turn_at s w ≡ End r → expanded_here s w ≡ 0 ∷ []
  expand_end r e = expand_turn s w b ∙ rw e

  pub expand_wrong : turn_at s w ≡ Wrong → expanded_here s w ≡ []
  expand_wrong e = expand_turn s w b ∙ rw e

-- A walk that began at `from` has come to w, with l labels so far.
pub record Come (s : List ℕ) (from : Walk) (l : ℕ) (w : Walk) : Type 0 where
  pub within : Within w
  pub few : l ≤ w.len
  pub rest : record_name_from turns s from ≡ more_labels l (record_name_here s w)

pub come_start : (s : List ℕ) (from : Walk) → from.len < longest_name → from.pointers ≤ most_pointers → Come s from 0 from
come_start s from h g =
    let w : Within from = record { short = h; few = g } in
    record { within = w; few = omega arith; rest = walk_fuel turns s from w (omega arith) ∙ sym (more_none _) }

module _ {s : List ℕ} {from : Walk} {l : ℕ} {w : Walk} (c : Come s from l w) where
  pub come_on : {m : ℕ} {v : Walk} → turn_at s w ≡ More v → m ≡ l + labels_taken w v → Come s from m v
  come_on {m} {v} e f =
      let o = onward s w v c.within e in
      record {
        within = o.within;
        few = omega (arith, c.few, o.counted);
        rest = c.rest
            ∙ ap (more_labels l) (walk_more s w c.within v e)
            ∙ more_again l (labels_taken w v) (record_name_here s v)
            ∙ ap (λ (k : ℕ). more_labels k (record_name_here s v)) (sym f);
      }

  -- a walk that ends takes no label more
  pub come_end : {r : RecordName} → turn_at s w ≡ End r
      → Some (record { next = r.next; len = r.len; pointers = r.pointers; labels = l }) ≡ record_name_from turns s from
  come_end {r} e =
      let z : l + r.labels ≡ l = omega (arith, root_none s w r e) in
      sym
      (c.rest
      ∙ ap (more_labels l) (walk_end s w c.within r e)
      ∙ ap (λ (k : ℕ). Some (record { next = r.next; len = r.len; pointers = r.pointers; labels = k })) z)

  pub come_wrong : turn_at s w ≡ Wrong → None ≡ record_name_from turns s from
  come_wrong e = sym (c.rest ∙ ap (more_labels l) (walk_wrong s w c.within e))

pub ruleset come = (come_start, onward, come_on, come_end, come_wrong)

-- a pointer adds no octets to the expanded name
pub no_part : (s : List ℕ) (w : Walk) → w.at < length s → part_of s w.at (w.at + (w.len - w.len)) ≡ []
no_part s w h =
    let a : w.at ≤ w.at + (w.len - w.len) = omega arith in
    let b : w.at + (w.len - w.len) ≤ length s = omega arith in
    let z : w.at + (w.len - w.len) - w.at ≡ 0 = omega arith in
    part_in s w.at (w.at + (w.len - w.len)) a b ∙ ap (λ (n : ℕ). take n (drop w.at s)) z

-- What a good end says of a walk: it stands inside s, and so does the offset after the name; the bounds are kept; the octets of the
-- expanded name are as many as it tells, two of them or more for each label, and one.
pub record Ended (s : List ℕ) (w : Walk) (xs : List ℕ) (r : RecordName) : Type 0 where
  pub inside : w.at < length s
  pub next_inside : (w.pointers ≡ 0 → ⊥) → r.next ≡ w.next
  pub first_next : w.pointers ≡ 0 → r.next ≤ length s
  pub short : r.len ≤ longest_name
  pub few : r.pointers ≤ most_pointers
  pub length_is : r.len ≡ w.len + length xs
  pub counted : w.len + (r.labels + r.labels + 1) ≤ r.len

goes_first : (w : Walk) (p : ℕ) → w.pointers ≡ 0 → goes_on w p ≡ p
goes_first w p z = rw (eq-eqb _ _ z)

goes_later : (w : Walk) (p : ℕ) → (w.pointers ≡ 0 → ⊥) → goes_on w p ≡ w.next
goes_later w p z = rw (ne_eqb _ _ z)

pub ended : (k : ℕ) (s : List ℕ) (w : Walk) (r : RecordName) → Within w → record_name_from k s w ≡ Some r
    → Ended s w (expanded_from k s w) r
unfolding record_name_from expanded_from
ended zero s w r b e = absurd (let z : ◌≡◌ {A = ℕ} 0 1 = cc in omega arith)
ended (suc k) s w r b e = go (met s w) (λ v q. ended k s v q)
  where
    go : Met s w
        → ((v : Walk) (q : RecordName) → Within v → record_name_from k s v ≡ Some q → Ended s v (expanded_from k s v) q)
        → Ended s w (expanded_from (suc k) s w) r
    go (wrong q) i = absurd (let z : ◌≡◌ {A = ℕ} 0 1 = cc in omega arith)
    go (root h g) i =
        let t = turn_root s w h g in
        let f : Some (at_root w) ≡ Some r = rw t at e in
        let q : at_root w ≡ r = cc in
        rw t
        (subst
        (λ (x : RecordName). Ended s w (0 ∷ []) x)
        q
        (record {
          inside = h;
          next_inside = λ z. goes_later w (w.at + 1) z;
          first_next = λ z. omega (arith, goes_first w (w.at + 1) z);
          short = omega (arith, b.short);
          few = b.few;
          length_is = refl;
          counted = omega arith;
        }))
    go (one h g u v) i =
        let t = turn_label s w h g u v in
        let c : ℕ = octet_at s w.at in
        let q = after_turn k s w (past_label w c) r e t in
        let x = i (past_label w c) q.fewer (record { short = v; few = b.few }) q.is in
        let l : length (part_of s w.at (w.at + (w.len + 1 + c - w.len))) ≡ w.at + (w.len + 1 + c - w.len) - w.at =
        length_part s w.at (w.at + (w.len + 1 + c - w.len)) (omega arith) (omega (arith, x.inside)) in
        rw t
        (record {
          inside = h;
          next_inside = λ z. q.next_is ∙ x.next_inside z;
          first_next = λ z. omega (arith, q.next_is, x.first_next z);
          short = omega (arith, q.len_is, x.short);
          few = omega (arith, q.pointers_are, x.few);
          counted = omega (arith, q.len_is, q.labels_are, takes_one w c, x.counted);
          length_is = omega (arith, q.len_is, x.length_is, length-append (part_of s w.at (w.at + (w.len + 1 + c - w.len))) (expanded_from k s (past_label w c)));
        })
    go (jump h g u v m) i =
        let t = turn_jump s w h g u v m in
        let to : ℕ = target s w.at in
        let q = after_turn k s w (followed w to) r e t in
        let x = i (followed w to) q.fewer (record { short = b.short; few = omega arith }) q.is in
        let nz : w.pointers + 1 ≡ 0 → ⊥ = omega arith in
        let n : r.next ≡ goes_on w (w.at + 2) = q.next_is ∙ x.next_inside nz in
        let l : length (part_of s w.at (w.at + (w.len - w.len))) ≡ w.at + (w.len - w.len) - w.at =
        length_part s w.at (w.at + (w.len - w.len)) (omega arith) (omega arith) in
        rw t
        (record {
          inside = omega arith;
          next_inside = λ z. n ∙ goes_later w (w.at + 2) z;
          first_next = λ z. omega (arith, n, goes_first w (w.at + 2) z);
          short = omega (arith, q.len_is, x.short);
          few = omega (arith, q.pointers_are, x.few);
          counted = omega (arith, q.len_is, q.labels_are, takes_none w to, x.counted);
          length_is = omega (arith, q.len_is, x.length_is, length-append (part_of s w.at (w.at + (w.len - w.len))) (expanded_from k s (followed w to)));
        })

-- A record's name that is read stands inside s with the offset after it, has at most 255 octets and 16 pointers, and is expanded to as
-- many octets as it tells, two of them or more for each label, and one.
pub record RecordNameFits (s : List ℕ) (at : ℕ) (r : RecordName) : Type 0 where
  pub inside : at < length s
  pub next_inside : r.next ≤ length s
  pub short : r.len ≤ longest_name
  pub few : r.pointers ≤ most_pointers
  pub length_is : length (expanded_from turns s (walk_at at)) ≡ r.len
  pub counted : r.labels + r.labels + 1 ≤ r.len

pub record_name_fits : (s : List ℕ) (at : ℕ) (r : RecordName) → record_name_at s at ≡ Some r → RecordNameFits s at r
record_name_fits s at r e =
    let f = ended turns s (walk_at at) r (within_start at) e in
    record {
      inside = f.inside;
      next_inside = f.first_next refl;
      short = f.short;
      few = f.few;
      length_is = omega (arith, f.length_is);
      counted = omega (arith, f.counted);
    }
