-- Answers as octets, with any owner of two octets. That answers which stand in a message are these octets is shown in
-- proofs/Determined.antt.
use Rattle.std.specs.Prelude.{ℕ, ◌+◌, ◌<◌, ◌≤◌, ◌≡◌, List, [], ◌∷◌, ◌++◌, length}
use Rattle.octets.specs.Words.{big_at, big_octets}
use Rattle.name_table.specs.Entries.{Answer}

-- an answer's octets after its owner: type, class 1, a TTL of 30 in 32 bits, the data's length, the data
abbrev pub after_owner : Answer → List ℕ
after_owner a =
    big_octets a.rtype ++ big_octets 1 ++ (0 ∷ 0 ∷ 0 ∷ 30 ∷ []) ++ big_octets (length a.octets) ++ a.octets

-- answers, one after another, whose owners are these words
abbrev pub answers_with : List ℕ → List Answer → List ℕ
answers_with ws [] = []
answers_with [] (a ∷ rest) = []
answers_with (w ∷ ws) (a ∷ rest) = big_octets w ++ after_owner a ++ answers_with ws rest

-- the words that stand in s where such answers, from an offset on, have their owners; an answer has 12 octets before its data
abbrev pub owners_in : List ℕ → ℕ → List Answer → List ℕ
owners_in s at [] = []
owners_in s at (a ∷ rest) = big_at s at ∷ owners_in s (at + 12 + length a.octets) rest

-- each owner is the pointer to offset 12
abbrev pub PointTo12 : List ℕ → ℕ → List Answer → Type 0
PointTo12 s at [] = Unit
PointTo12 s at (a ∷ rest) = (big_at s at ≡ 0xC00C) × PointTo12 s (at + 12 + length a.octets) rest

-- each owner is a pointer, to an offset behind the header and before itself
abbrev pub PointBack : List ℕ → ℕ → List Answer → Type 0
PointBack s at [] = Unit
PointBack s at (a ∷ rest) =
    ((to : ℕ) × (big_at s at ≡ 0xC000 + to) × (12 ≤ to) × (to < at)) × PointBack s (at + 12 + length a.octets) rest
