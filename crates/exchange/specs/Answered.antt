-- A lookup's query arrives at a host of ours, which replies, and the reply arrives at the lookup.
use Rattle.std.specs.Prelude.{ℕ, ◌+◌, ◌≤◌, ◌≡◌, List, map, length}
use Rattle.octets.specs.Octets.{Octets}
use Rattle.octets.specs.PlainAddresses.{IsGroup, IsOneOfOurs}
use Rattle.name_table.specs.Entries.{Data, answer_of, GoodTable}
use Rattle.message.specs.Reply.{Answered}
use Rattle.host.specs.Receive.{Arrival as HostArrival}
use Rattle.host.specs.ExactlyWhen.{RepliesWhen}
use Rattle.host.specs.declared.Timer.{Timer}
use Rattle.host.specs.declared.NameState.{NameState}
use Rattle.host.specs.declared.NameState.TheVariants.{Unique, Defending}
use Rattle.host.specs.declared.Host.{Host}
use Rattle.lookup.specs.State.{setting_of, name_of}
use Rattle.lookup.specs.Outcomes.{found, Done}
use Rattle.lookup.specs.Receive.{Arrival}
use Rattle.lookup.specs.Refusals.{IsToLookUp}
use Rattle.lookup.specs.ExactlyWhen.{IsUsed, lookup_query, Comes}
use Rattle.lookup.specs.declared.Phase.TheVariants.{Asking, Ended}
use Rattle.lookup.specs.declared.Lookup.{Lookup}

-- The query of the lookup l arrives at the host h, which replies to it: host/specs/ExactlyWhen.antt says when. The table is good, and consists
-- of octets.
pub record Asked (l : Lookup) (h : Host) (a : HostArrival) : Type 0 where
  pub name : IsToLookUp (name_of l)
  pub query : a.datagram ≡ lookup_query l.id (name_of l) l.qtype
  pub octets : Octets a.datagram
  pub replies : RepliesWhen h a
  pub table : GoodTable a.table
  pub table_octets : Octets a.table

-- The name is owned: T and C of the reply are clear.
pub data Owned : NameState → Type 0 where
  unique : Owned Unique
  defending : (id qtype class : ℕ) (timer : Timer) → Owned (Defending id qtype class timer)

-- These octets arrive at the lookup, which asks: from an address that is not its own, to one that is not the group's.
pub record Gets (l : Lookup) (b : Arrival) (sent : List ℕ) : Type 0 where
  pub datagram : b.datagram ≡ sent
  pub octets : Octets b.datagram
  pub sends : ℕ
  pub timer : Timer
  pub phase : l.phase ≡ Asking sends timer
  pub room : 512 ≤ length b.out
  pub used : IsUsed l.interface (setting_of l)
  pub latest : b.time ≤ 281474976710655
  pub in_order : l.clock ≤ b.time
  pub from_family : b.from.address.family ≡ (setting_of l).family
  pub to_family : b.to.family ≡ (setting_of l).family
  pub not_to_group : IsGroup b.to → ⊥
  pub not_ours : IsOneOfOurs l.settings b.from.address → ⊥

-- The lookup ends. The numbers that it hands out are those of the reply: the offset of its first answer, after the header, the name, and four
-- octets of type and class; and how many records the host gave. From that offset to the reply's end stand just these.
pub record EndsWith (l : Lookup) (b : Arrival) (len : ℕ) (d : Done) : Type 0 where
  pub given : List Data
  pub comes : Comes l Ended b.time b.out (found (12 + length (name_of l) + 4) (length given)) d
  pub answers : Answered b.datagram (12 + length (name_of l) + 4) len (name_of l) (map answer_of given)
