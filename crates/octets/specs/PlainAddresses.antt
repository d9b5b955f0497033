-- Addresses in plain words and with the rules' numbers.
use Rattle.std.specs.Prelude.{ℕ, ◌<◌, ◌≡◌, List, [], ◌∷◌, get_or, take}
use Rattle.octets.specs.Addresses.{unused}
use Rattle.octets.specs.declared.Address.{Address}
use Rattle.octets.specs.declared.Endpoint.{Endpoint}
use Rattle.octets.specs.declared.Setting.{Setting}

-- an address is a group's, in the 4 or 16 octets of the family
pub data IsGroup (x : Address) : Type 0 where
  is_group_4 : x.family ≡ 4 → take 4 x.octets ≡ 224 ∷ 0 ∷ 0 ∷ 252 ∷ [] → IsGroup x
  is_group_6 : x.family ≡ 6
      → take 16 x.octets ≡ 0xFF ∷ 0x02 ∷ 0 ∷ 0 ∷ 0 ∷ 0 ∷ 0 ∷ 0 ∷ 0 ∷ 0 ∷ 0 ∷ 0 ∷ 0 ∷ 0x01 ∷ 0 ∷ 0x03 ∷ [] → IsGroup x

-- the group of a family, 224.0.0.252 or FF02::1:3, at port 5355
pub data GroupEndpoint (family : ℕ) : Endpoint → Type 0 where
  group_4 : family ≡ 4
      → GroupEndpoint family
      (record { address = record { family = 4; octets = 224 ∷ 0 ∷ 0 ∷ 252 ∷ 0 ∷ 0 ∷ 0 ∷ 0 ∷ 0 ∷ 0 ∷ 0 ∷ 0 ∷ 0 ∷ 0 ∷ 0 ∷ 0 ∷ [] }; port = 5355 })
  group_6 : family ≡ 6
      → GroupEndpoint family
      (record { address = record { family = 6; octets = 0xFF ∷ 0x02 ∷ 0 ∷ 0 ∷ 0 ∷ 0 ∷ 0 ∷ 0 ∷ 0 ∷ 0 ∷ 0 ∷ 0 ∷ 0 ∷ 0x01 ∷ 0 ∷ 0x03 ∷ [] }; port = 5355 })

-- an address is that of a used interface, in the 4 or 16 octets of the family
pub data IsOf (s : Setting) (x : Address) : Type 0 where
  is_4 : s.family ≡ 4 → x.family ≡ 4 → take 4 x.octets ≡ take 4 s.address → IsOf s x
  is_6 : s.family ≡ 6 → x.family ≡ 6 → take 16 x.octets ≡ take 16 s.address → IsOf s x

-- it is that of one of the four
pub record IsOneOfOurs (settings : List Setting) (x : Address) : Type 0 where
  pub interface : ℕ
  pub below : interface < 4
  pub same : IsOf (get_or settings interface unused) x

-- no destination: all zero
abbrev pub nothing : Endpoint
nothing = record { address = record { family = 0; octets = 0 ∷ 0 ∷ 0 ∷ 0 ∷ 0 ∷ 0 ∷ 0 ∷ 0 ∷ 0 ∷ 0 ∷ 0 ∷ 0 ∷ 0 ∷ 0 ∷ 0 ∷ 0 ∷ [] }; port = 0 }
