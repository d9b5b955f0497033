-- What makes no difference to a reply: T, TC, RCODE and the reserved bits of the query, its ARCOUNT, the octets after its question, and
-- which interface asked, if the same records of the name are valid there. The proofs are in proofs/SameReply.antt. And a table of two names,
-- for proofs/OnlyItsOwn.antt.
use Rattle.std.specs.Prelude.{ℕ, ◌/◌, ◌<◌, ◌≤◌, ◌≡◌, ◌≢◌, List, ◌∷◌, ◌++◌, map, length}
use Rattle.octets.specs.Octets.{octet_at, part_of}
use Rattle.names.specs.Names.{Labels}
use Rattle.name_table.specs.Entries.{NameKind, Data, Entry, resource, Owned, valid_for}
use Rattle.message.specs.declared.Question.{Question}
use Rattle.host.specs.Receive.{Arrival}
use Rattle.host.specs.State.{setting_of, state_of, HasStopped}
use Rattle.host.specs.declared.Host.{Host}
use Rattle.host.specs.declared.NameState.{NameState}
use Rattle.host.specs.declared.NameState.TheVariants.{Off}
use Rattle.witness.specs.Replies.{Group, group_entries, is_shared, is_verifying}

-- Two calls have the same source, time and buffer, and their datagrams the same ID and the same octets of the question. All else may
-- differ: the table, the interface, the flags, the octets after the question.
pub record SameAsked (a b : Arrival) (qa qb : Question) : Type 0 where
  pub from : a.from ≡ b.from
  pub time : a.time ≡ b.time
  pub out : a.out ≡ b.out
  pub id : (i : ℕ) → i < 2 → octet_at a.datagram i ≡ octet_at b.datagram i
  pub question : part_of a.datagram 12 qa.end ≡ part_of b.datagram 12 qb.end

-- two states are alike in whether they are Shared, and in whether they are Verifying
pub record AlikeStates (x y : NameState) : Type 0 where
  pub shared : is_shared x ≡ is_shared y
  pub verifying : is_verifying x ≡ is_verifying y

-- Two datagrams that hold the same query up to the offset `end` of its question's end: the same ID, QR, opcode and C, which are above the
-- lowest two bits of the octet 2, QDCOUNT, ANCOUNT, NSCOUNT and question. TC and T are these two bits; the octet 3, with the reserved
-- bits and RCODE, ARCOUNT and what stands after the question may differ.
pub record SameQuery (d e : List ℕ) (end : ℕ) : Type 0 where
  pub id : (i : ℕ) → i < 2 → octet_at d i ≡ octet_at e i
  pub flags : octet_at d 2 / 4 ≡ octet_at e 2 / 4
  pub counts : (i : ℕ) → 4 ≤ i → i < 10 → octet_at d i ≡ octet_at e i
  pub question : part_of d 12 end ≡ part_of e 12 end
  pub longest : length e ≤ 9194

-- the same call with another datagram
abbrev pub with_datagram : Arrival → List ℕ → Arrival
with_datagram a e =
    record {
      table = a.table;
      interface = a.interface;
      from = a.from;
      to = a.to;
      datagram = e;
      time = a.time;
      id = a.id;
      out = a.out;
    }

-- the same call on another interface
abbrev pub on_interface : Arrival → ℕ → Arrival
on_interface a j =
    record {
      table = a.table;
      interface = j;
      from = a.from;
      to = a.to;
      datagram = a.datagram;
      time = a.time;
      id = a.id;
      out = a.out;
    }

-- The interface j is one of the four, of the same family as the one where the query arrived, and the name's state there is alike and
-- neither Off nor Stopped. Of the name's records the same are valid there.
pub record AlikeInterface (h : Host) (i j k : ℕ) (records : List Owned) : Type 0 where
  pub inside : j < 4
  pub family : (setting_of h j).family ≡ (setting_of h i).family
  pub alike : AlikeStates (state_of h i k) (state_of h j k)
  pub not_off : state_of h j k ≢ Off
  pub not_stopped : HasStopped (state_of h j k) → ⊥
  pub valid : valid_for i records ≡ valid_for j records

-- a name with its records, and another after it with its own
abbrev pub two_names : NameKind → Labels → List Data → List Group → NameKind → Labels → List Data → List Group → List Entry
two_names k n rs gs l m ss hs =
    Entry.name k n ∷ (map resource rs ++ (group_entries gs ++ (Entry.name l m ∷ (map resource ss ++ group_entries hs))))
