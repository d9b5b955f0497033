-- Laws of octets written over others.
use Rattle.std.proofs.Common.{ℕ, ◌+◌, ◌-◌, ◌<◌, ◌≤◌, ◌≡◌, sym, ap, ◌∙◌, List, [], ◌∷◌, ◌++◌, append_assoc, append-nil, arith, zero-add, add_assoc, add-one, ltb, length, get_or, take, drop, set, length-append, length-drop, take_at, drop_at, drop-drop, take_all, length-take-le, get_or-drop, get_or-take, lt-ltb, le-ltb, ltb-true, ltb-false}
use Rattle.std.proofs.Math.ListN.{get_or-append}
use Rattle.std.proofs.Math.Seq.{take-append_seam, sets-eq, paste, paste-zero, take-length, drop-length}
use borrow.Rule.Slice.PartMut.{mid_of, put_mid}
use Rattle.octets.proofs.Tests.{split, cond_same}
use Rattle.octets.proofs.Octets.{octets_append, octets_take, octets_drop}
use Rattle.octets.specs.Octets.{Octets, splice, put}

-- two octets stored one after the other
pub two : (d : List ℕ) (at a b : ℕ) → at + 1 < length d → set (set d at a) (at + 1) b ≡ splice d at (a ∷ b ∷ [])
unfolding splice
two d at a b h =
    let k : at + length (a ∷ b ∷ []) ≤ length d = omega arith in
    rw add-one (sets-eq (a ∷ b ∷ []) d at k)

-- what stands before the end of a run that is written
pub length_head : (d : List ℕ) (at : ℕ) (xs : List ℕ) → at ≤ length d → length (take at d ++ xs) ≡ at + length xs
length_head d at xs h = length-append (take at d) xs ∙ ap (λ (k : ℕ). k + length xs) (length-take-le at d h)

pub length_splice : (d : List ℕ) (at : ℕ) (xs : List ℕ) → at + length xs ≤ length d → length (splice d at xs) ≡ length d
unfolding splice
length_splice d at xs h =
    let l : at ≤ length d = omega arith in
    rw (length-append, length_head d at xs l, length-drop) (omega arith)

-- nothing written
pub splice_none : (d : List ℕ) (at : ℕ) → splice d at [] ≡ d
unfolding splice
splice_none d at = sym (paste-zero d at [])

-- at the start
pub splice_start : (d xs : List ℕ) → splice d 0 xs ≡ xs ++ drop (length xs) d
unfolding splice
splice_start d xs = rw (zero-add (length xs))

-- one run after another
pub splice_splice : (d : List ℕ) (at : ℕ) (xs ys : List ℕ) → at + length xs + length ys ≤ length d
    → splice (splice d at xs) (at + length xs) ys ≡ splice d at (xs ++ ys)
unfolding splice
splice_splice d at xs ys h =
    let l : at ≤ length d = omega arith in
    let p : List ℕ = take at d ++ xs in
    let q : List ℕ = drop (at + length xs) d in
    let e : length p ≡ at + length xs = length_head d at xs l in
    ap (λ (r : List ℕ). r ++ ys ++ drop (at + length xs + length ys) (p ++ q)) (take_at p q (at + length xs) e)
    ∙ ap (λ (r : List ℕ). p ++ ys ++ r)
    (sym (drop-drop (length ys) (at + length xs) (p ++ q))
    ∙ ap (drop (length ys)) (drop_at p q (at + length xs) e)
    ∙ drop-drop (length ys) (at + length xs) d)
    ∙ rw (length-append, append_assoc (take at d) xs ys, add_assoc (at) (length xs) (length ys))

-- The whole after its part from an offset to the end, lent to a writer, has come back with xs at the part's start.
pub part_splice : (d : List ℕ) (at : ℕ) (xs : List ℕ) → at + length xs ≤ length d
    → put_mid at (length d - at) d (splice (mid_of at (length d - at) d) 0 xs) ≡ splice d at xs
unfolding splice
part_splice d at xs h =
    let l : length (drop at d) ≡ length d - at = length-drop at d in
    let m : length (drop at d) ≤ length d - at = omega arith in
    ap (put_mid at (length d - at) d) (splice_start (mid_of at (length d - at) d) xs)
    ∙ rw (take_all (length d - at) (drop at d) m, ← l, drop-length (drop at d), append-nil, drop-drop, append_assoc)

-- A run ys written into the part from `at` to the end, after xs was written from an offset `base` on: xs ends at `at`. b is the
-- whole before, and y what the writer left of the part.
pub part_after : (out xs ys b y : List ℕ) (base at : ℕ) → at ≡ base + length xs → b ≡ splice out base xs → at + length ys ≤ length out
    → y ≡ splice (mid_of at (length b - at) b) 0 ys → put_mid at (length b - at) b y ≡ splice out base (xs ++ ys)
part_after out xs ys b y base at a e h w =
    let k : base + length xs ≤ length out = omega arith in
    let l : length b ≡ length out = ap length e ∙ length_splice out base xs k in
    let m : at + length ys ≤ length b = omega arith in
    let n : base + length xs + length ys ≤ length out = omega arith in
    rw w (part_splice b at ys m ∙ rw (e, a) (splice_splice out base xs ys n))

-- The same where xs stands at the start.
pub part_next : (out xs ys b y : List ℕ) (at : ℕ) → at ≡ length xs → b ≡ splice out 0 xs → at + length ys ≤ length out
    → y ≡ splice (mid_of at (length b - at) b) 0 ys → put_mid at (length b - at) b y ≡ splice out 0 (xs ++ ys)
part_next out xs ys b y at a e h w = part_after out xs ys b y 0 at (omega arith) e h w

-- a copy of all of src
pub paste_all : (d src : List ℕ) (i : ℕ) → i ≡ length src → paste d 0 src i ≡ splice d 0 src
unfolding splice
paste_all d src i e = rw (e, take-length src)

-- a write that does not fit, and one that does
pub put_out : (d : List ℕ) (at : ℕ) (xs : List ℕ) → length d < at + length xs → put d at xs ≡ d
unfolding put
put_out d at xs h = rw (lt-ltb _ _ h)

pub put_in : (d : List ℕ) (at : ℕ) (xs : List ℕ) → at + length xs ≤ length d → put d at xs ≡ splice d at xs
unfolding put
put_in d at xs h = rw (le-ltb _ _ h)

-- nothing written, wherever it is
pub put_none : (d : List ℕ) (at : ℕ) → put d at [] ≡ d
unfolding put
put_none d at = rw (splice_none d at) (cond_same (ltb (length d) (at + 0)) d)

-- a write keeps the length
pub length_put : (d : List ℕ) (at : ℕ) (xs : List ℕ) → length (put d at xs) ≡ length d
length_put d at xs =
    split
    (ltb (length d) (at + length xs))
    (λ t. ap length (put_out d at xs (ltb-true _ _ t)))
    (λ t. let h : at + length xs ≤ length d = ltb-false _ _ t in ap length (put_in d at xs h) ∙ length_splice d at xs h)

-- what stands where: the octets written, and around them those of d
module _ (d : List ℕ) (at : ℕ) (xs : List ℕ) (h : at + length xs ≤ length d) where
  pub drop_splice : drop at (splice d at xs) ≡ xs ++ drop (at + length xs) d
  unfolding splice
  drop_splice =
      let l : at ≤ length d = omega arith in
      rw append_assoc (drop_at (take at d) (xs ++ drop (at + length xs) d) at (length-take-le at d l))

  pub take_splice : take at (splice d at xs) ≡ take at d
  unfolding splice
  take_splice =
      let l : at ≤ length d = omega arith in
      rw append_assoc (take_at (take at d) (xs ++ drop (at + length xs) d) at (length-take-le at d l))

  pub drop_splice_end : drop (at + length xs) (splice d at xs) ≡ drop (at + length xs) d
  unfolding splice
  drop_splice_end = let l : at ≤ length d = omega arith in drop_at (take at d ++ xs) (drop (at + length xs) d) (at + length xs) (length_head d at xs l)

  pub splice_there : (i : ℕ) → i < length xs → get_or (splice d at xs) (at + i) 0 ≡ get_or xs i 0
  splice_there i k = sym (get_or-drop at (splice d at xs) i 0) ∙ ap (λ (l : List ℕ). get_or l i 0) drop_splice ∙ get_or-append xs _ 0 i k

  pub splice_before : (i : ℕ) → i < at → get_or (splice d at xs) i 0 ≡ get_or d i 0
  splice_before i k = sym (get_or-take at (splice d at xs) i 0 k) ∙ ap (λ (l : List ℕ). get_or l i 0) take_splice ∙ get_or-take at d i 0 k

  pub splice_behind : (i : ℕ) → at + length xs ≤ i → get_or (splice d at xs) i 0 ≡ get_or d i 0
  splice_behind i k =
      let n : ℕ = i - (at + length xs) in
      let e : at + length xs + n ≡ i = omega arith in
      rw (← e) (sym (get_or-drop (at + length xs) (splice d at xs) n 0) ∙ ap (λ (l : List ℕ). get_or l n 0) drop_splice_end ∙ get_or-drop (at + length xs) d n 0)

  pub put_there : (i : ℕ) → i < length xs → get_or (put d at xs) (at + i) 0 ≡ get_or xs i 0
  put_there i k = rw (put_in d at xs h) (splice_there i k)

-- octets written over octets
pub octets_splice : (d : List ℕ) (at : ℕ) (xs : List ℕ) → Octets d → Octets xs → Octets (splice d at xs)
unfolding splice
octets_splice d at xs o p =
    octets_append (take at d ++ xs) (drop (at + length xs) d) (octets_append (take at d) xs (octets_take at d o) p) (octets_drop (at + length xs) d o)

pub octets_put : (d : List ℕ) (at : ℕ) (xs : List ℕ) → Octets d → Octets xs → Octets (put d at xs)
unfolding put
octets_put d at xs o p = split (ltb (length d) (at + length xs)) (λ t. rw t o) (λ t. rw t (octets_splice d at xs o p))

-- a write that fits after octets written from an offset on
pub put_after : (out xs ys b : List ℕ) (base at : ℕ) → at ≡ base + length xs → b ≡ splice out base xs → at + length ys ≤ length out
    → put b at ys ≡ splice out base (xs ++ ys)
put_after out xs ys b base at a e h =
    let k : base + length xs ≤ length out = omega arith in
    let l : length b ≡ length out = ap length e ∙ length_splice out base xs k in
    let m : at + length ys ≤ length b = omega arith in
    let n : base + length xs + length ys ≤ length out = omega arith in
    put_in b at ys m ∙ rw (e, a) (splice_splice out base xs ys n)

-- what was written at the front of a buffer with room for it
pub front : (out xs : List ℕ) → length xs ≤ length out → take (length xs) (put out 0 xs) ≡ xs
front out xs h = rw (put_in out 0 xs (omega arith), splice_start out xs, take-append_seam xs (drop (length xs) out))
