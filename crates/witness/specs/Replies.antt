-- The reply, whole, in plain terms: entries of the table, octets and states, with the rules' own numbers. That receive gives it is shown
-- in proofs/Replies.antt.
use Rattle.std.specs.Prelude.{ℕ, ◌+◌, ◌/◌, ◌%◌, ◌<◌, ◌≤◌, ◌≡◌, ◌↔◌, List, [], ◌∷◌, ◌++◌, map, Bool, true, false, cond, length, get_or, take, drop, eqb, Some}
use Rattle.octets.specs.Tests.{◌or◌}
use Rattle.octets.specs.Octets.{part_of}
use Rattle.octets.specs.Words.{big_at}
use Rattle.names.specs.Names.{Labels, IsName, encode}
use Rattle.names.specs.Folding.{folded_name}
use Rattle.name_table.specs.Masks.{Valid}
use Rattle.name_table.specs.Entries.{NameKind, Data, a as a4, aaaa, ptr, Entry, resource, names, data_octets, Owned, IsNumber, valid_for, answer_of}
use Rattle.message.specs.declared.Question.{Question}
use Rattle.message.specs.Header.{header_at}
use Rattle.message.specs.Question.{question_at, IsQuestion}
use Rattle.message.specs.Reply.{Answered}
use Rattle.host.specs.Outcomes.{Done, reply}
use Rattle.host.specs.Receive.{Arrival}
use Rattle.host.specs.State.{state_of}
use Rattle.host.specs.declared.NameState.{NameState}
use Rattle.host.specs.declared.NameState.TheVariants.{Off, Verifying, Unique, Defending, Stopped, Shared}
use Rattle.host.specs.declared.Host.{Host}

-- ---- the table

-- there is no entry, or the first is a name
abbrev pub NameFirst : List Entry → Type 0
NameFirst [] = Unit
NameFirst (Entry.name kind n ∷ es) = Unit
NameFirst (resource d ∷ es) = ⊥
NameFirst (Entry.mask m ∷ es) = ⊥

-- a kind 6 and the records after it, which are valid on the interfaces of its mask
pub record Group : Type 0 where
  pub mask : ℕ
  pub records : List Data

abbrev pub group_entries : List Group → List Entry
group_entries [] = []
group_entries (g ∷ gs) = Entry.mask g.mask ∷ (map resource g.records ++ group_entries gs)

-- records with one mask
abbrev pub masked : ℕ → List Data → List Owned
masked m [] = []
masked m (d ∷ ds) = record { valid = m; rdata = d } ∷ masked m ds

abbrev pub group_records : List Group → List Owned
group_records [] = []
group_records (g ∷ gs) = masked g.mask g.records ++ group_records gs

-- The k-th name of some entries is n. Right after its entry stand its first records, which are valid on every interface: mask 15. Then come
-- those after each kind 6, with its mask, and then the next name or nothing.
pub record Owns (es : List Entry) (k : ℕ) (n : Labels) (records : List Owned) : Type 0 where
  pub before : List Entry
  pub kind : NameKind
  pub first : List Data
  pub groups : List Group
  pub after : List Entry
  pub entries : es ≡ before ++ (Entry.name kind n ∷ (map resource first ++ (group_entries groups ++ after)))
  pub records_are : records ≡ masked 15 first ++ group_records groups
  pub number : length (names before) ≡ k
  pub until : NameFirst after

-- each of some records is one of a name's records, with a mask that has the bit of interface i
abbrev pub AllValid : ℕ → List Owned → List Data → Type 0
AllValid i records [] = Unit
AllValid i records (d ∷ ds) =
    ((m : ℕ) × (j : ℕ) × IsNumber records j (record { valid = m; rdata = d }) × Valid m i) × AllValid i records ds

-- A is type 1, AAAA 28, PTR 12
abbrev pub type_of : Data → ℕ
type_of (a4 o) = 1
type_of (aaaa o) = 28
type_of (ptr n) = 12

-- the records that a question of a type asks for, in order: those of that type; for type 255 all
abbrev pub asked_for : ℕ → List Data → List Data
asked_for qtype [] = []
asked_for qtype (d ∷ ds) = cond (eqb (type_of d) qtype or eqb qtype 255) (d ∷ asked_for qtype ds) (asked_for qtype ds)

-- ---- the octets

-- a pointer to offset 12, type, class 1, TTL 30, the data's length, the data
abbrev pub record_octets : Data → List ℕ
record_octets d =
    0xC0 ∷ 0x0C ∷ 0 ∷ type_of d ∷ 0 ∷ 1 ∷ 0 ∷ 0 ∷ 0 ∷ 30 ∷ length (data_octets d) / 256 ∷ length (data_octets d) % 256 ∷ data_octets d

abbrev pub records_octets : List Data → List ℕ
records_octets [] = []
records_octets (d ∷ ds) = record_octets d ++ records_octets ds

-- ID; flags; one question, so many answers, no other records; the question; the records
abbrev pub reply_of : List ℕ → ℕ → List ℕ → List Data → List ℕ
reply_of id flags question given =
    id ++ (flags ∷ 0 ∷ 0 ∷ 1 ∷ length given / 256 ∷ length given % 256 ∷ 0 ∷ 0 ∷ 0 ∷ 0 ∷ []) ++ question ++ records_octets given

abbrev pub is_shared : NameState → Bool
is_shared Shared = true
is_shared Off = false
is_shared (Verifying sends id timer) = false
is_shared Unique = false
is_shared (Defending id qtype qclass timer) = false
is_shared (Stopped until) = false

abbrev pub is_verifying : NameState → Bool
is_verifying (Verifying sends id timer) = true
is_verifying Off = false
is_verifying Unique = false
is_verifying (Defending id qtype qclass timer) = false
is_verifying (Stopped until) = false
is_verifying Shared = false

-- QR is 128; C, 4, is set exactly if the state is Shared; TC, 2, exactly if a record is left out; T, 1, exactly if it is Verifying
abbrev pub flags_of : NameState → Bool → ℕ
flags_of state cut = 128 + cond (is_shared state) 4 0 + cond cut 2 0 + cond (is_verifying state) 1 0

-- ---- the reply

-- records are left out, the first of which would bring a reply of len octets past 512
pub record DoesNotFit (len : ℕ) (left : List Data) : Type 0 where
  pub first : Data
  pub more : List Data
  pub are : left ≡ first ∷ more
  pub passes : 512 < len + 12 + length (data_octets first)

-- The reply to the question q about a name that is in this state here and has these records that are valid here.
pub record WholeReply (h : Host) (a : Arrival) (q : Question) (state : NameState) (records : List Data) (d : Done) : Type 0 where
  -- of the records that are asked for the first are given
  pub given : List Data
  pub left : List Data
  pub asked : asked_for q.qtype records ≡ given ++ left
  pub cut : Bool
  pub whole : (cut ≡ false) ↔ (left ≡ [])
  pub len : ℕ
  pub left_out : cut ≡ true → DoesNotFit len left
  pub most : len ≤ 512
  pub len_is : len ≡ q.end + length (records_octets given)
  -- what the call gives: it goes to the source's address and port, and nothing but the clock changes
  pub result : d.result ≡ reply len
  pub to : d.to ≡ a.from
  pub interfaces : d.host.interfaces ≡ h.interfaces
  pub clock : d.host.clock ≡ a.time
  -- the buffer: the reply, with ID and question as received, and the octets after it as they were
  pub octets : d.octets
      ≡ reply_of (take 2 a.datagram) (flags_of state cut) (part_of a.datagram 12 q.end) given ++ drop len a.out
  pub reply_is : take len d.octets ≡ reply_of (take 2 a.datagram) (flags_of state cut) (part_of a.datagram 12 q.end) given
  pub stay : drop len d.octets ≡ drop len a.out
  pub size : length d.octets ≡ length a.out
  -- as it is read: header, question, and record by record
  pub reads_header : header_at (take len d.octets)
      ≡ Some
      (record {
        id = big_at a.datagram 0;
        response = true;
        opcode = 0;
        conflict = is_shared state;
        truncated = cut;
        tentative = is_verifying state;
        rcode = 0;
        questions = 1;
        answers = length given;
        authorities = 0;
        additionals = 0;
      })
  pub reads_question : question_at (take len d.octets) 12 ≡ Some q
  pub reads_records : Answered (take len d.octets) q.end len (part_of a.datagram 12 (12 + q.name)) (map answer_of given)

-- The question q stands after the header. Its name is that of these labels, and of all names of the table the k-th alone equals it.
pub record AsksTheName (a : Arrival) (q : Question) (es : List Entry) (k : ℕ) (name : Labels) : Type 0 where
  pub question : IsQuestion a.datagram 12 q
  pub labels : Labels
  pub is_name : IsName labels
  pub octets : part_of a.datagram 12 (12 + q.name) ≡ encode labels
  pub equal : folded_name name ≡ folded_name labels
  pub alone : (j : ℕ) → j < length (names es) → folded_name (get_or (names es) j []) ≡ folded_name labels → j ≡ k

-- The reply from a table: with the records of the name that is asked for, and of no other, that are valid on the interface asked.
pub record ReplyFrom (h : Host) (a : Arrival) (q : Question) (k : ℕ) (es : List Entry) (d : Done) : Type 0 where
  pub name : Labels
  pub records : List Owned
  pub owns : Owns es k name records
  pub asks : AsksTheName a q es k name
  pub whole : WholeReply h a q (state_of h a.interface k) (valid_for a.interface records) d
