-- The numbers of docs/RULES.md, as it prints them. The constants of the definitions are these; and each contract that cites a definition
-- ties the constant of the code to it.
use Rattle.std.specs.Prelude.{ℕ, ◌+◌, ◌-◌, ◌*◌, ◌^◌, ◌≡◌, [], ◌∷◌, ◌++◌, true, replicate}
use Rattle.octets.specs.Bounds.{ipv4, ipv6, used_by4, used_by6, llmnr_port, interfaces}
use Rattle.octets.specs.Words.{big_at, little_at, big_octets, little_octets}
use Rattle.octets.specs.Addresses.{group_of}
use Rattle.names.specs.Bounds.{longest_label, longest_name, most_labels, most_pointers, least_target, pointer_mark}
use Rattle.names.specs.Folding.{folded}
use Rattle.name_table.specs.Bounds.{longest_table, most_names, most_records, everywhere, entry_head}
use Rattle.name_table.specs.Kinds.{kind_of}
use Rattle.name_table.specs.declared.Kind.TheVariants.{Unique, Shared, Octets, Target, Mask, Unknown}
use Rattle.message.specs.Bounds.{header_octets, fixed_octets, owner_octets, class_in, type_any, reply_ttl, top_bit}
use Rattle.message.specs.declared.Header.{Header}
use Rattle.message.specs.Header.{header_of}
use Rattle.host.specs.Bounds.{room, reply_limit, latest, shortest, longest, short, long, sends_in_all, any_class, second, rest_without}

-- the header of a message whose flags are two octets, and all else zero
abbrev pub flagged : ℕ → ℕ → Header
flagged x y = header_of ((0 ∷ 0 ∷ x ∷ y ∷ []) ++ replicate 8 0)

-- a buffer below 512 octets; a record that would pass 512; a time above 2^48 - 1; a datagram below 12 or above 9,194; the interval is
-- 100 or 1,000 ms; three sends; query class neither 1 nor 255. Of a name that was lost: 1,000 ms to a second of a TTL; 30 s
abbrev pub OfTheHost : Type 0
OfTheHost =
    (room ≡ 512) × (reply_limit ≡ 512) × (latest ≡ 2 ^ 48 - 1) × (shortest ≡ 12) × (longest ≡ 9194) × (short ≡ 100)
    × (long ≡ 1000) × (sends_in_all ≡ 3) × (any_class ≡ 255) × (second ≡ 1000) × (rest_without ≡ 30 * 1000)

-- header of 12 octets; ten fixed octets of a record; C0 0C, two octets, as owner; class 1, type 255, TTL 30; the top bit of a 32-bit TTL
abbrev pub OfMessages : Type 0
OfMessages =
    (header_octets ≡ 12) × (fixed_octets ≡ 10) × (owner_octets ≡ 2) × (class_in ≡ 1) × (type_any ≡ 255) × (reply_ttl ≡ 30) × (top_bit ≡ 2 ^ 31)

-- big-endian words in a message, little-endian ones in a table: 258 is 1 * 256 + 2
abbrev pub OfWords : Type 0
OfWords =
    (big_octets 258 ≡ 1 ∷ 2 ∷ []) × (big_at (1 ∷ 2 ∷ []) 0 ≡ 258) × (little_octets 258 ≡ 2 ∷ 1 ∷ []) × (little_at (2 ∷ 1 ∷ []) 0 ≡ 258)

-- flags from the top: QR 1 bit, opcode 4, C 1, TC 1, T 1, reserved 4, RCODE 4
abbrev pub OfFlags : Type 0
OfFlags =
    ((flagged 0x80 0).response ≡ true) × ((flagged 0x78 0).opcode ≡ 15) × ((flagged 0x04 0).conflict ≡ true) × ((flagged 0x02 0).truncated ≡ true)
    × ((flagged 0x01 0).tentative ≡ true) × ((flagged 0 0x0f).rcode ≡ 15) × (flagged 0 0xf0 ≡ flagged 0 0)

-- labels of 1 to 63 octets; at most 255 in all, and so 127 labels; a pointer has its top two bits set; its target is at least 12; at most 16 are followed;
-- 65..90 are raised by 32, and no other
abbrev pub OfNames : Type 0
OfNames =
    (longest_label ≡ 63) × (longest_name ≡ 255) × (most_labels ≡ 127) × (pointer_mark ≡ 128 + 64) × (least_target ≡ 12) × (most_pointers ≡ 16) × (folded 64 ≡ 64) × (folded 65 ≡ 97)
    × (folded 90 ≡ 122) × (folded 91 ≡ 91)

-- family 4 or 6, 4 or 16 octets; 224.0.0.252 and FF02::1:3; port 5355; up to 4 interfaces
abbrev pub OfAddresses : Type 0
OfAddresses =
    (ipv4 ≡ 4) × (ipv6 ≡ 6) × (used_by4 ≡ 4) × (used_by6 ≡ 16)
    × ((group_of 4).octets ≡ 224 ∷ 0 ∷ 0 ∷ 252 ∷ replicate 12 0)
    × ((group_of 6).octets ≡ 0xFF ∷ 0x02 ∷ 0 ∷ 0 ∷ 0 ∷ 0 ∷ 0 ∷ 0 ∷ 0 ∷ 0 ∷ 0 ∷ 0 ∷ 0 ∷ 0x01 ∷ 0 ∷ 0x03 ∷ [])
    × (llmnr_port ≡ 5355) × (interfaces ≡ 4)

-- at most 4,096 octets, 8 names, 24 records to a name; 4 octets before a body. Kinds: 1 unique name, 2 shared name, 3 A (4 octets),
-- 4 AAAA (16), 5 PTR (a name); types 1, 28 and 12. And kind 6, a mask of which bits 0 to 3 may be set
abbrev pub OfTables : Type 0
OfTables =
    (longest_table ≡ 4096) × (most_names ≡ 8) × (most_records ≡ 24) × (entry_head ≡ 4) × (kind_of 0 ≡ Unknown) × (kind_of 1 ≡ Unique)
    × (kind_of 2 ≡ Shared) × (kind_of 3 ≡ Octets 1 4) × (kind_of 4 ≡ Octets 28 16) × (kind_of 5 ≡ Target 12) × (kind_of 6 ≡ Mask) × (kind_of 7 ≡ Unknown)
    × (everywhere ≡ 1 + 2 + 4 + 8)
