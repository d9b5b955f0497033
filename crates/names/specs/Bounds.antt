-- Numbers of the rules about names: rules L of docs/RULES.md.
use Rattle.std.specs.Prelude.{ℕ}

-- octets of a label
abbrev pub longest_label : ℕ
longest_label = 63

-- octets of a name, with the length octets and the final zero
abbrev pub longest_name : ℕ
longest_name = 255

-- labels of a name: two octets each, or more, and the final zero are at most 255
abbrev pub most_labels : ℕ
most_labels = 127

-- pointers followed in one name
abbrev pub most_pointers : ℕ
most_pointers = 16

-- a pointer's least target: the octet after the header
abbrev pub least_target : ℕ
least_target = 12

-- a length octet from here on has its top two bits set: it begins a pointer
abbrev pub pointer_mark : ℕ
pointer_mark = 0xC0
