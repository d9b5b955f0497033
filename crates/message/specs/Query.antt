-- A query: the header with an ID and flags, QDCOUNT 1 and no other count, then the question.
use Rattle.std.specs.Prelude.{ℕ, ◌/◌, ◌%◌, List, [], ◌∷◌, ◌++◌}
use Rattle.octets.specs.Words.{big_octets}

-- QDCOUNT 1, then ANCOUNT, NSCOUNT 0, ARCOUNT 0
abbrev pub count_octets : ℕ → List ℕ
count_octets answers = (0 ∷ 1 ∷ []) ++ big_octets answers ++ (0 ∷ 0 ∷ 0 ∷ 0 ∷ [])

unfoldable pub query_octets : ℕ → ℕ → List ℕ → List ℕ
query_octets id flags question = big_octets id ++ big_octets flags ++ count_octets 0 ++ question

-- plainly: an ID, flags 0, one question and nothing else
abbrev pub query_with : ℕ → List ℕ → List ℕ
query_with id question = id / 256 ∷ id % 256 ∷ 0 ∷ 0 ∷ 0 ∷ 1 ∷ 0 ∷ 0 ∷ 0 ∷ 0 ∷ 0 ∷ 0 ∷ question
