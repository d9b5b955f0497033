-- Laws of the octets of the expanded name, and of the loop that copies them.
use Rattle.std.proofs.Common.{None, Some, ℕ, ◌+◌, ◌-◌, ◌<◌, ◌≤◌, ◌≡◌, refl, sym, ap, ◌∙◌, List, [], ◌∷◌, ◌++◌, append_assoc, append-nil, arith, length, length-append}
use Rattle.octets.specs.Octets.{part_of, splice, put}
use Rattle.octets.proofs.Splice.{length_splice, splice_none, splice_splice, put_in, put_out, put_none}
use Rattle.names.specs.Bounds.{longest_name}
use Rattle.names.specs.declared.Walk.{Walk}
use Rattle.names.specs.declared.Turn.{Turn}
use Rattle.names.specs.declared.Turn.TheVariants.{More, End, Wrong}
use Rattle.names.specs.declared.RecordName.{RecordName}
use Rattle.names.specs.RecordNameWalk.{turn_at, walk_at, turns, record_name_at, expanded_from, expanded_at}
use Rattle.names.proofs.RecordNameWalk.{Within, left, starts_within, expanded_here, onward, expand_start, expand_more, expand_end, expand_wrong, record_name_fits}

-- A name that is not readable is expanded to nothing.
pub expands_none : (s : List ℕ) (at : ℕ) → record_name_at s at ≡ None → expanded_at s at ≡ []
unfolding expanded_at
expands_none s at e = rw e

module _ (s : List ℕ) (at : ℕ) (r : RecordName) (e : record_name_at s at ≡ Some r) where
  pub expands_good : expanded_at s at ≡ expanded_from turns s (walk_at at)
  unfolding expanded_at
  expands_good = rw e

  -- A readable one is expanded to as many octets as its reading tells.
  pub expanded_length : length (expanded_at s at) ≡ r.len
  expanded_length = ap length expands_good ∙ (record_name_fits s at r e).length_is

  -- so many have room or not
  pub expanded_room : (out : List ℕ) → r.len ≤ length out → length (expanded_from turns s (walk_at at)) ≤ length out
  expanded_room out h = omega (arith, (record_name_fits s at r e).length_is)

  pub expanded_in : (out y : List ℕ) → r.len ≤ length out → y ≡ splice out 0 (expanded_from turns s (walk_at at))
      → y ≡ put out 0 (expanded_at s at)
  expanded_in out y h f =
      let k : 0 + length (expanded_at s at) ≤ length out = omega (arith, expanded_length) in
      f ∙ ap (splice out 0) (sym expands_good) ∙ sym (put_in out 0 (expanded_at s at) k)

  pub expanded_out : (out : List ℕ) → length out < r.len → out ≡ put out 0 (expanded_at s at)
  expanded_out out h =
      let k : length out < 0 + length (expanded_at s at) = omega (arith, expanded_length) in
      sym (put_out out 0 (expanded_at s at) k)

pub expanded_none : (s : List ℕ) (at : ℕ) (out : List ℕ) → record_name_at s at ≡ None → out ≡ put out 0 (expanded_at s at)
expanded_none s at out e = sym (ap (put out 0) (expands_none s at e) ∙ put_none out 0)

-- The octets so far stand at the start of the buffer, which was `old`, and the walk w adds the rest. There is room for all.
pub record Copied (s : List ℕ) (at : ℕ) (old out : List ℕ) (w : Walk) (used : ℕ) : Type 0 where
  pub within : Within w
  pub sofar : List ℕ
  pub used_is : used ≡ length sofar
  pub out_is : out ≡ splice old 0 sofar
  pub whole : expanded_from turns s (walk_at at) ≡ sofar ++ expanded_here s w
  pub room : length (expanded_from turns s (walk_at at)) ≤ length old

pub copied_start : (s : List ℕ) (at : ℕ) (out : List ℕ) (w : Walk) → w ≡ walk_at at
    → length (expanded_from turns s (walk_at at)) ≤ length out → Copied s at out out w 0
copied_start s at out w e h =
    record {
      within = starts_within at w e;
      sofar = [];
      used_is = refl;
      out_is = sym (splice_none out 0);
      whole = expand_start s at w e;
      room = h;
    }

module _ {s : List ℕ} {at : ℕ} {old out : List ℕ} {w : Walk} {used : ℕ} (c : Copied s at old out w used) where
  -- octets that the walk adds next have room, and stand behind those so far
  fits : (xs rest : List ℕ) → expanded_here s w ≡ xs ++ rest → used + length xs ≤ length old
  fits xs rest e =
      let l : length (expanded_from turns s (walk_at at)) ≡ length c.sofar + length (expanded_here s w) =
      ap length c.whole ∙ length-append c.sofar (expanded_here s w) in
      let m : length (expanded_here s w) ≡ length xs + length rest = ap length e ∙ length-append xs rest in
      omega (arith, c.used_is, c.room)

  written : (xs y : List ℕ) → used + length xs ≤ length old → y ≡ put out used xs → y ≡ splice old 0 (c.sofar ++ xs)
  written xs y h e =
      let u : used ≡ 0 + length c.sofar = omega (arith, c.used_is) in
      let k : 0 + length c.sofar ≤ length old = omega arith in
      let l : length out ≡ length old = ap length c.out_is ∙ length_splice old 0 c.sofar k in
      let m : used + length xs ≤ length out = omega arith in
      let n : 0 + length c.sofar + length xs ≤ length old = omega arith in
      e ∙ put_in out used xs m ∙ rw (c.out_is, u) (splice_splice old 0 c.sofar xs n)

  -- z is the walk's turn
  module _ {z : Turn} (g : z ≡ turn_at s w) where
    pub copied_longer : {v : Walk} → z ≡ More v → w.len ≤ v.len
    copied_longer {v} t = (onward s w v c.within (sym g ∙ t)).longer

    pub copied_nearer : {v : Walk} → z ≡ More v → left v < left w
    copied_nearer {v} t = (onward s w v c.within (sym g ∙ t)).nearer

    pub copied_inside : {v : Walk} → z ≡ More v → w.at + (v.len - w.len) < length s + longest_name
    copied_inside {v} t = let o = onward s w v c.within (sym g ∙ t) in omega (arith, o.inside, o.within.short)

    -- a label, or a pointer, which adds nothing
    pub copied_more : {v : Walk} {xs y : List ℕ} → z ≡ More v → xs ≡ part_of s w.at (w.at + (v.len - w.len))
        → y ≡ put out used xs → Copied s at old y v (used + length xs)
    copied_more {v} {xs} {y} t e f =
        let r : expanded_here s w ≡ xs ++ expanded_here s v =
        expand_more s w c.within v (sym g ∙ t) ∙ ap (λ (l : List ℕ). l ++ expanded_here s v) (sym e) in
        record {
          within = (onward s w v c.within (sym g ∙ t)).within;
          sofar = c.sofar ++ xs;
          used_is = ap (λ (n : ℕ). n + length xs) c.used_is ∙ sym (length-append c.sofar xs);
          out_is = written xs y (fits xs (expanded_here s v) r) f;
          whole = c.whole ∙ ap (λ (l : List ℕ). c.sofar ++ l) r ∙ sym (append_assoc c.sofar xs (expanded_here s v));
          room = c.room;
        }

    -- the zero octet, and the end of a walk that goes wrong
    pub copied_end : {r : RecordName} {y : List ℕ} → z ≡ End r → y ≡ put out used (0 ∷ [])
        → y ≡ splice old 0 (expanded_from turns s (walk_at at))
    copied_end {r} {y} t f =
        let x : expanded_here s w ≡ 0 ∷ [] = expand_end s w c.within r (sym g ∙ t) in
        written (0 ∷ []) y (fits (0 ∷ []) [] x) f
        ∙ ap (splice old 0) (ap (λ (l : List ℕ). c.sofar ++ l) (sym x) ∙ sym c.whole)

    pub copied_wrong : z ≡ Wrong → out ≡ splice old 0 (expanded_from turns s (walk_at at))
    copied_wrong t =
        let x : expanded_here s w ≡ [] = expand_wrong s w c.within (sym g ∙ t) in
        c.out_is
        ∙ ap (splice old 0) (sym (append-nil c.sofar) ∙ ap (λ (l : List ℕ). c.sofar ++ l) (sym x) ∙ sym c.whole)

pub ruleset expanded = (expanded_none, expanded_room, expanded_in, expanded_out)
