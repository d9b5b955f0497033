-- Entries of a call file: length and kind of two octets each, then the body; all integers little-endian.
use Rattle.std.specs.Prelude.{ℕ, ◌+◌, ◌*◌, ◌-◌, List, [], ◌∷◌, Bool, true, false, cond, length}
use Rattle.std.specs.Prelude.{replicate, ltb, leb, eqb}
use Rattle.std.specs.Prelude.{None, Option, Some, Result, Ok, Err}
use Rattle.octets.specs.Octets.{octet_at, part_of, put}
use Rattle.octets.specs.Words.{little_at}
use Rattle.octets.specs.declared.Address.{Address}
use Rattle.octets.specs.declared.Endpoint.{Endpoint}
use Rattle.octets.specs.declared.Setting.{Setting}
use Rattle.run_calls.specs.declared.entry.Kind.{Kind}
use Rattle.run_calls.specs.declared.entry.Kind.TheVariants.{Table, SetUp, Start, Datagram, Tick}
use Rattle.run_calls.specs.declared.entry.Kind.TheVariants.{Settings, Ask, Answer, AskTick, Name}
use Rattle.run_calls.specs.declared.entry.Why.{Why}
use Rattle.run_calls.specs.declared.entry.Why.TheVariants.{Cut, Short, Kind as KindWhy, Size}
use Rattle.run_calls.specs.declared.entry.Entry.{Entry}
use Rattle.run_calls.specs.declared.entry.Prefix.{Prefix}

-- the kind with a number
unfoldable pub kind_of : ℕ → Option Kind
kind_of k =
    cond (eqb k 31) (Some Table)
    (cond (eqb k 32) (Some SetUp)
    (cond (eqb k 33) (Some Start)
    (cond (eqb k 34) (Some Datagram)
    (cond (eqb k 35) (Some Tick)
    (cond (eqb k 40) (Some Settings)
    (cond (eqb k 41) (Some Ask)
    (cond (eqb k 42) (Some Answer)
    (cond (eqb k 43) (Some AskTick)
    (cond (eqb k 54) (Some Name)
    None)))))))))

-- a body of so many octets is one of this kind
abbrev pub is_sized : Kind → ℕ → Bool
is_sized Table n = true
is_sized SetUp n = eqb n 91
is_sized Start n = eqb n 16
is_sized Datagram n = leb 51 n
is_sized Tick n = eqb n 15
is_sized Settings n = eqb n 76
is_sized Ask n = leb 19 n
is_sized Answer n = leb 56 n
is_sized AskTick n = eqb n 16
is_sized Name n = leb 2 n

-- slots, each of which holds a lookup
abbrev pub slots : ℕ
slots = 4

-- an entry of this kind may have this octet after its prefix: where it is the number of a slot, there is one
abbrev pub is_slot : Kind → ℕ → Bool
is_slot Table k = true
is_slot SetUp k = true
is_slot Start k = true
is_slot Datagram k = true
is_slot Tick k = true
is_slot Settings k = true
is_slot Ask k = ltb k slots
is_slot Answer k = ltb k slots
is_slot AskTick k = ltb k slots
is_slot Name k = true

-- an entry of this kind is about lookups
abbrev pub is_of_lookup : Kind → Bool
is_of_lookup Table = false
is_of_lookup SetUp = false
is_of_lookup Start = false
is_of_lookup Datagram = false
is_of_lookup Tick = false
is_of_lookup Settings = true
is_of_lookup Ask = true
is_of_lookup Answer = true
is_of_lookup AskTick = true
is_of_lookup Name = false

-- the octets of length and kind, and those with a prefix after them
abbrev pub entry_head : ℕ
entry_head = 4

abbrev pub prefix_end : ℕ
prefix_end = 19

-- the entry of so many octets, of some kind, with some octet after its prefix
unfoldable pub sized_entry : Option Kind → ℕ → ℕ → Result Entry Why
sized_entry None n slot = Err KindWhy
sized_entry (Some k) n slot =
    cond (is_sized k (n - entry_head))
    (cond (is_slot k slot) (Ok (record { kind = k; len = n })) (Err Size))
    (Err Size)

-- the entry at the start of s, or why there is none
unfoldable pub entry_at : List ℕ → Result Entry Why
entry_at s =
    cond (ltb (length s) entry_head) (Err Cut)
    (cond (ltb (length s) (little_at s 0)) (Err Cut)
    (cond (ltb (little_at s 0) entry_head) (Err Short)
    (sized_entry (kind_of (little_at s 2)) (little_at s 0) (octet_at s prefix_end))))

-- the table that is lent after an entry of some kind
abbrev pub lent_by : Kind → List ℕ → List ℕ → List ℕ
lent_by Table table body = body
lent_by SetUp table body = table
lent_by Start table body = table
lent_by Datagram table body = table
lent_by Tick table body = table
lent_by Settings table body = table
lent_by Ask table body = table
lent_by Answer table body = table
lent_by AskTick table body = table
lent_by Name table body = table

-- numbers of four and of eight octets at an offset
abbrev pub little32_at : List ℕ → ℕ → ℕ
little32_at s at = little_at s at + little_at s (at + 2) * 65536

abbrev pub little64_at : List ℕ → ℕ → ℕ
little64_at s at = little32_at s at + little32_at s (at + 4) * 4294967296

-- interface, time, ID and room
abbrev pub prefix_of : List ℕ → Prefix
prefix_of s = record { interface = octet_at s 0; time = little64_at s 1; id = little_at s 9; room = little32_at s 11 }

-- the sixteen octets of an address, zeros where they do not fit
abbrev pub address_octets : List ℕ → List ℕ
address_octets s = put (replicate 16 0) 0 s

-- the address, and an interface's settings, at an offset
abbrev pub address_at : List ℕ → ℕ → Address
address_at s at = record { family = octet_at s at; octets = address_octets (part_of s (at + 1) (at + 17)) }

abbrev pub setting_at : List ℕ → ℕ → Setting
setting_at s at = record { family = octet_at s at; address = address_octets (part_of s (at + 1) (at + 17)); interval = little_at s (at + 17) }

-- the settings of the four interfaces
abbrev pub settings_of : List ℕ → List Setting
settings_of s = setting_at s 0 ∷ setting_at s 19 ∷ setting_at s 38 ∷ setting_at s 57 ∷ []

-- where a datagram comes from
abbrev pub source_of : List ℕ → Endpoint
source_of s = record { address = address_at s 0; port = little_at s 17 }

-- the slot that a body names; a number that is none counts as 0
abbrev pub slot_of : List ℕ → ℕ
slot_of s = cond (ltb (octet_at s 15) slots) (octet_at s 15) 0
