-- Octets in hexadecimal.
use Rattle.std.specs.Prelude.{ℕ, ◌/◌, ◌%◌, List, [], ◌∷◌}
use Rattle.std.specs.Char.{digit_char}

-- two digits for each octet, the more significant first, in lower case
unfoldable pub hex_of : List ℕ → List ℕ
hex_of [] = []
hex_of (c ∷ s) = digit_char (c / 16) ∷ digit_char (c % 16) ∷ hex_of s
