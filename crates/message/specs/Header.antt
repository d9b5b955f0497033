-- The header of a message: 12 octets, big-endian words: ID, flags, QDCOUNT, ANCOUNT, NSCOUNT, ARCOUNT. Flags from the top: QR 1 bit,
-- opcode 4, C 1, TC 1, T 1, reserved 4, RCODE 4.
use Rattle.std.specs.Prelude.{ℕ, ◌+◌, ◌*◌, ◌/◌, ◌%◌, ◌<◌, ◌≤◌, ◌≡◌, List, Bool, cond, length, get_or, ltb, eqb, None, Option, Some}
use Rattle.octets.specs.Words.{big_at}
use Rattle.message.specs.Bounds.{header_octets}
use Rattle.message.specs.declared.Header.{Header}

-- the bits of a word from the value of the lowest one on, as many as `size` has values
abbrev pub bits : ℕ → ℕ → ℕ → ℕ
bits word lowest size = word / lowest % size

-- the flags word: 32,768 is QR, 2,048 the opcode's lowest bit, 1,024 C, 512 TC, 256 T, 1 RCODE's lowest bit
abbrev pub is_set : ℕ → ℕ → Bool
is_set word bit = eqb (bits word bit 2) 1

unfoldable pub header_of : List ℕ → Header
header_of s =
    record {
      id = big_at s 0;
      response = is_set (big_at s 2) 0x8000;
      opcode = bits (big_at s 2) 0x800 16;
      conflict = is_set (big_at s 2) 0x400;
      truncated = is_set (big_at s 2) 0x200;
      tentative = is_set (big_at s 2) 0x100;
      rcode = bits (big_at s 2) 1 16;
      questions = big_at s 4;
      answers = big_at s 6;
      authorities = big_at s 8;
      additionals = big_at s 10;
    }

unfoldable pub header_at : List ℕ → Option Header
header_at s = cond (ltb (length s) header_octets) None (Some (header_of s))

-- a flag as a bit
abbrev pub bit : Bool → ℕ
bit b = cond b 1 0

-- In plain words: the flags word is made of the header's fields and the reserved bits, each at its place and of its width.
pub record Layout (h : Header) (reserved word : ℕ) : Type 0 where
  pub opcode : h.opcode < 16
  pub reserved_bits : reserved < 16
  pub rcode : h.rcode < 16
  pub sum : word
      ≡ bit h.response * 0x8000 + h.opcode * 0x800 + bit h.conflict * 0x400 + bit h.truncated * 0x200
      + bit h.tentative * 0x100 + reserved * 16 + h.rcode

-- In plain words: twelve octets or more begin with the header h. The words stand at these octets, the first of each the more significant.
pub record IsHeader (s : List ℕ) (h : Header) : Type 0 where
  pub whole : 12 ≤ length s
  pub id : h.id ≡ get_or s 0 0 * 256 + get_or s 1 0
  pub reserved : ℕ
  pub flags : Layout h reserved (get_or s 2 0 * 256 + get_or s 3 0)
  pub questions : h.questions ≡ get_or s 4 0 * 256 + get_or s 5 0
  pub answers : h.answers ≡ get_or s 6 0 * 256 + get_or s 7 0
  pub authorities : h.authorities ≡ get_or s 8 0 * 256 + get_or s 9 0
  pub additionals : h.additionals ≡ get_or s 10 0 * 256 + get_or s 11 0
