-- Numbers of the rules about messages: rules L and R of docs/RULES.md.
use Rattle.std.specs.Prelude.{ℕ, ◌+◌}

-- octets of a header
abbrev pub header_octets : ℕ
header_octets = 12

-- octets of a record between its owner and its data: type, class, TTL, data length
abbrev pub fixed_octets : ℕ
fixed_octets = 10

-- the class of every record that we write: Internet
abbrev pub class_in : ℕ
class_in = 1

-- the question's type that asks for every type
abbrev pub type_any : ℕ
type_any = 255

-- the TTL of every record that we write, in seconds
abbrev pub reply_ttl : ℕ
reply_ttl = 30

-- from here on a TTL has its top bit set: 2^31
abbrev pub top_bit : ℕ
top_bit = 2147483648

-- octets of the pointer that is the owner of every record that we write
abbrev pub owner_octets : ℕ
owner_octets = 2

-- octets of every record that we write before its data
abbrev pub before_data : ℕ
before_data = owner_octets + fixed_octets
