-- 16-bit words: in messages the first octet is the more significant (big-endian), in the name table the less (little-endian).
use Rattle.std.specs.Prelude.{ℕ, ◌+◌, ◌*◌, ◌/◌, ◌%◌, List, [], ◌∷◌}
use Rattle.octets.specs.Octets.{octet_at}

-- the word at an offset
abbrev pub big_at : List ℕ → ℕ → ℕ
big_at s at = octet_at s at * 256 + octet_at s (at + 1)

abbrev pub little_at : List ℕ → ℕ → ℕ
little_at s at = octet_at s at + octet_at s (at + 1) * 256

-- a word's two octets
abbrev pub big_octets : ℕ → List ℕ
big_octets v = v / 256 ∷ v % 256 ∷ []

abbrev pub little_octets : ℕ → List ℕ
little_octets v = v % 256 ∷ v / 256 ∷ []
