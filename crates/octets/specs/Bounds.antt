-- Numbers of the rules about addresses: rules M18 to M21 and L of docs/RULES.md.
use Rattle.std.specs.Prelude.{ℕ}

-- the two families
abbrev pub ipv4 : ℕ
ipv4 = 4

abbrev pub ipv6 : ℕ
ipv6 = 6

-- octets of an address that family 4 uses, and those that family 6 uses
abbrev pub used_by4 : ℕ
used_by4 = 4

abbrev pub used_by6 : ℕ
used_by6 = 16

-- the UDP port of LLMNR
abbrev pub llmnr_port : ℕ
llmnr_port = 5355

-- interfaces of a host
abbrev pub interfaces : ℕ
interfaces = 4
