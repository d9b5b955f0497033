-- Addresses: a family, 4 or 6, and 16 octets. Family 4 uses the first four and ignores the rest.
use Rattle.std.specs.Prelude.{ℕ, zero, suc, ◌<◌, ◌≡◌, List, [], ◌∷◌, Bool, true, false, cond, get_or, take, length, ltb, eqb}
use Rattle.octets.specs.Tests.{◌and◌, ◌or◌}
use Rattle.octets.specs.Bounds.{ipv4, ipv6, used_by4, used_by6, llmnr_port, interfaces}
use Rattle.octets.specs.declared.Address.{Address}
use Rattle.octets.specs.declared.Endpoint.{Endpoint}
use Rattle.octets.specs.declared.Setting.{Setting}

-- any family other than 4 or 6 means an unused interface
abbrev pub is_family : ℕ → Bool
is_family family = eqb family ipv4 or eqb family ipv6

abbrev pub used_by : ℕ → ℕ
used_by family = cond (eqb family ipv4) used_by4 used_by6

-- the octets of an address that its family uses
abbrev pub used_octets : Address → List ℕ
used_octets a = take (used_by a.family) a.octets

unfoldable pub same_octets : List ℕ → List ℕ → Bool
same_octets [] [] = true
same_octets [] (y ∷ b) = false
same_octets (x ∷ a) [] = false
same_octets (x ∷ a) (y ∷ b) = eqb x y and same_octets a b

-- octet by octet, the first octet first: it is less, or the same and the rest is below
unfoldable pub below_octets : List ℕ → List ℕ → Bool
below_octets [] b = false
below_octets (x ∷ a) [] = false
below_octets (x ∷ a) (y ∷ b) = ltb x y or eqb x y and below_octets a b

-- plainly: at the first octet in which they differ the one is less
pub record Below (x y : List ℕ) : Type 0 where
  pub at : ℕ
  pub inside_x : at < length x
  pub inside_y : at < length y
  pub before : take at x ≡ take at y
  pub less : get_or x at 0 < get_or y at 0

-- addresses of two families are neither the same nor one below the other
unfoldable pub same_address : Address → Address → Bool
same_address a b = eqb a.family b.family and same_octets (used_octets a) (used_octets b)

unfoldable pub below_address : Address → Address → Bool
below_address a b = eqb a.family b.family and below_octets (used_octets a) (used_octets b)

-- 224.0.0.252, in the first four octets, and FF02::1:3
abbrev pub group4 : List ℕ
group4 = 224 ∷ 0 ∷ 0 ∷ 252 ∷ 0 ∷ 0 ∷ 0 ∷ 0 ∷ 0 ∷ 0 ∷ 0 ∷ 0 ∷ 0 ∷ 0 ∷ 0 ∷ 0 ∷ []

abbrev pub group6 : List ℕ
group6 = 0xFF ∷ 0x02 ∷ 0 ∷ 0 ∷ 0 ∷ 0 ∷ 0 ∷ 0 ∷ 0 ∷ 0 ∷ 0 ∷ 0 ∷ 0 ∷ 0x01 ∷ 0 ∷ 0x03 ∷ []

-- a family's group address
unfoldable pub group_of : ℕ → Address
group_of family = record { family = family; octets = cond (eqb family ipv4) group4 group6 }

-- an address is the group address of its family, which is 4 or 6
unfoldable pub is_group : Address → Bool
is_group a = is_family a.family and same_address a (group_of a.family)

-- where a query goes: the family's group and LLMNR's port
unfoldable pub group_endpoint : ℕ → Endpoint
group_endpoint family = record { address = group_of family; port = llmnr_port }

-- an interface's address
abbrev pub address_of : Setting → Address
address_of i = record { family = i.family; octets = i.address }

-- a used interface has the address a
unfoldable pub has_address : Setting → Address → Bool
has_address i a = is_family i.family and same_address a (address_of i)

-- the zero value, which stands for an interface that is not there
abbrev pub unused : Setting
unused = record { family = 0; address = []; interval = 0 }

-- one of the first n interfaces has the address a
unfoldable pub ours_among : ℕ → List Setting → Address → Bool
ours_among zero settings a = false
ours_among (suc n) settings a = has_address (get_or settings n unused) a or ours_among n settings a

-- a is one of our addresses
abbrev pub is_ours : List Setting → Address → Bool
is_ours settings a = ours_among interfaces settings a
