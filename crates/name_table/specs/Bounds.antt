-- Numbers of the rules about the name table, rules T and L of docs/RULES.md, and the record types of RFC 1035 and RFC 3596.
use Rattle.std.specs.Prelude.{ℕ}

-- octets of a table
abbrev pub longest_table : ℕ
longest_table = 4096

-- names of a table
abbrev pub most_names : ℕ
most_names = 8

-- records of a name
abbrev pub most_records : ℕ
most_records = 24

-- the mask of interfaces 0 to 3
abbrev pub everywhere : ℕ
everywhere = 15

-- octets of an entry before its body: length and kind
abbrev pub entry_head : ℕ
entry_head = 4

-- record types
abbrev pub type_a : ℕ
type_a = 1

abbrev pub type_ptr : ℕ
type_ptr = 12

abbrev pub type_aaaa : ℕ
type_aaaa = 28
