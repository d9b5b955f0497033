-- Several labels. By default a lookup asks only for names of one label; for one of more it needs the permission of its start. A reverse name
-- always passes: one or more labels before in-addr.arpa or ip6.arpa, compared as names are.
use Rattle.std.specs.Prelude.{ℕ, zero, suc, ◌+◌, ◌-◌, List, [], ◌∷◌, Bool, not, drop, leb}
use Rattle.octets.specs.Tests.{◌and◌, ◌or◌}
use Rattle.octets.specs.Octets.{octet_at}
use Rattle.names.specs.Folding.{same_name}

-- the octets of the name in-addr.arpa, and of ip6.arpa
abbrev pub in_addr_arpa : List ℕ
in_addr_arpa = 7 ∷ 105 ∷ 110 ∷ 45 ∷ 97 ∷ 100 ∷ 100 ∷ 114 ∷ 4 ∷ 97 ∷ 114 ∷ 112 ∷ 97 ∷ 0 ∷ []

abbrev pub ip6_arpa : List ℕ
ip6_arpa = 3 ∷ 105 ∷ 112 ∷ 54 ∷ 4 ∷ 97 ∷ 114 ∷ 112 ∷ 97 ∷ 0 ∷ []

-- the octets of a name after its first k labels
unfoldable pub after_labels : ℕ → List ℕ → List ℕ
after_labels zero octets = octets
after_labels (suc k) octets = after_labels k (drop (1 + octet_at octets 0) octets)

-- the last two labels of a name that has so many
abbrev pub last_two : List ℕ → ℕ → List ℕ
last_two octets labels = after_labels (labels - 2) octets

-- a reverse name has three labels or more, of which the last two are those of in-addr.arpa or ip6.arpa
unfoldable pub is_reverse : List ℕ → ℕ → Bool
is_reverse octets labels =
    leb 3 labels and (same_name (last_two octets labels) in_addr_arpa or same_name (last_two octets labels) ip6_arpa)

-- 22: two or more labels, no permission, and no reverse name
abbrev pub several_labels : Bool → List ℕ → ℕ → Bool
several_labels permission octets labels = leb 2 labels and not permission and not (is_reverse octets labels)
