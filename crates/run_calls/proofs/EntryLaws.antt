-- Laws of the numbers in entries.
use Rattle.std.proofs.Common.{ℕ, ◌+◌, ◌-◌, ◌<◌, ◌≤◌, ◌≡◌, sym, ap, ◌∙◌, List, ◌++◌, arith, ltb, ltb-true, ltb-false, length, get_or, take, drop, min, replicate, get_or-drop, get_or-take, length-take-le}
use Rattle.std.proofs.lemmas.List.{get_or-replicate, get_or_past, get_or-append_right, length-replicate}
use Rattle.std.proofs.Math.ListN.{get_or-append}
use Rattle.std.proofs.lemmas.Grind.{common_steps}
use Rattle.octets.specs.Octets.{octet_at, part_of, put}
use Rattle.octets.proofs.Octets.{part_in, part_rest}
use Rattle.octets.proofs.Splice.{put_in, splice_start}
use Rattle.octets.proofs.Tests.{split}

-- zeros stand behind octets that are written over the start of n zeros
behind : (xs : List ℕ) (n e i : ℕ) → length xs ≡ e → e ≤ i → i < n → get_or (xs ++ drop e (replicate n 0)) i 0 ≡ 0
behind xs n e i long past l =
    get_or-append_right xs (drop e (replicate n 0)) e i 0 long past
    ∙ get_or-drop e (replicate n 0) (i - e) 0
    ∙ get_or-replicate n (e + (i - e)) 0 0 (omega arith)

-- the first octets of r, over n zeros
copied : (r : List ℕ) (n e i : ℕ) → e ≤ length r → e ≤ n → (e < n → e ≡ length r) → i < n
    → get_or (put (replicate n 0) 0 (part_of r 0 e)) i 0 ≡ get_or r i 0
copied r n e i h k m l =
    let p : part_of r 0 e ≡ take e r =
    let z : e - 0 ≡ e = omega arith in
    part_in r 0 e (omega arith) h ∙ ap (λ k. take k r) z in
    let long : length (take e r) ≡ e = length-take-le e r h in
    let q : put (replicate n 0) 0 (take e r) ≡ take e r ++ drop (length (take e r)) (replicate n 0) =
    put_in (replicate n 0) 0 (take e r) (omega (arith, long, length-replicate {A = ℕ} n 0)) ∙ splice_start (replicate n 0) (take e r) in
    rw (p, q, long)
    (split (ltb i e)
    (λ t. get_or-append (take e r) (drop e (replicate n 0)) 0 i (omega (arith, long, ltb-true)) ∙ get_or-take e r i 0 (omega (arith, ltb-true)))
    (λ t. let past : e ≤ i = omega (arith, ltb-false) in
    let all : e ≡ length r = m (omega arith) in
    behind (take e r) n e i long past l
    ∙ sym (get_or_past r i 0 (omega arith))))

-- the first n octets from an offset on, zeros past the end
pub octets_read : (s : List ℕ) (at n i : ℕ) → i < n
    → get_or (put (replicate n 0) 0 (part_of (part_of s at (length s)) 0 (min (length (part_of s at (length s))) n))) i 0 ≡ octet_at s (at + i)
octets_read s at n i l =
    let r = part_of s at (length s) in
    copied r n (min (length r) n) i (grind (arith, common_steps)) (grind (arith, common_steps)) (λ t. grind (arith, common_steps)) l
    ∙ ap (λ x. get_or x i 0) (part_rest s at) ∙ get_or-drop at s i 0
