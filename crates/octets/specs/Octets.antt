-- Lists of octets: a part of one, and octets written over others.
use Rattle.std.specs.Prelude.{ℕ, ◌+◌, ◌-◌, ◌<◌, List, [], ◌∷◌, ◌++◌, Bool, cond, get_or, take, drop, length, ltb}

-- every number is an octet
abbrev pub Octets : List ℕ → Type 0
Octets [] = Unit
Octets (c ∷ s) = (c < 256) × Octets s

-- the octet at an offset, 0 past the end
abbrev pub octet_at : List ℕ → ℕ → ℕ
octet_at s at = get_or s at 0

-- n octets from an offset on run past the end of a slice of so many octets
abbrev pub runs_past : ℕ → ℕ → ℕ → Bool
runs_past size at n = ltb size (at + n)

-- the octets of s from the offset a up to e; none where these are not the bounds of a part
unfoldable pub part_of : List ℕ → ℕ → ℕ → List ℕ
part_of s a e = cond (ltb e a) [] (cond (ltb (length s) e) [] (take (e - a) (drop a s)))

-- d with xs written from an offset on
unfoldable pub splice : List ℕ → ℕ → List ℕ → List ℕ
splice d at xs = take at d ++ xs ++ drop (at + length xs) d

-- the same if xs fit there, else d as it was
unfoldable pub put : List ℕ → ℕ → List ℕ → List ℕ
put d at xs = cond (runs_past (length d) at (length xs)) d (splice d at xs)
