-- Equality of names: two names are equal if their octets are equal after 65..90 are raised by 32; no other octet is folded.
use Rattle.std.specs.Prelude.{ℕ, ◌+◌, List, [], ◌∷◌, map, Bool, true, false, cond, leb, eqb}
use Rattle.octets.specs.Tests.{◌and◌, ◌or◌}
use Rattle.names.specs.Names.{Labels}

unfoldable pub folded : ℕ → ℕ
folded c = cond (leb 65 c and leb c 90) (c + 32) c

-- a name with every octet of its labels folded
abbrev pub folded_name : Labels → Labels
folded_name n = map (map folded) n

-- the octets of two names are equal after folding
unfoldable pub same_name : List ℕ → List ℕ → Bool
same_name [] [] = true
same_name [] (y ∷ b) = false
same_name (x ∷ a) [] = false
same_name (x ∷ a) (y ∷ b) = eqb (folded x) (folded y) and same_name a b

-- How the code compares octets side by side, with an early exit and without; that both come to same_name is shown in
-- proofs/Folding.antt. A pair is equal as it is, or folded.
abbrev pub alike_octets : ℕ × ℕ → Bool
alike_octets p = eqb p.0 p.1 or eqb (folded p.0) (folded p.1)

-- The pairs so far are equal, and one more is.
abbrev pub alike : Bool → ℕ × ℕ → Bool
alike same p = same and eqb (folded p.0) (folded p.1)
