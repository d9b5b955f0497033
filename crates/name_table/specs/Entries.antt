-- A name table in plain words: a list of entries, each of which keeps the rules after those before it.
use Rattle.std.specs.Prelude.{ℕ, ◌+◌, ◌<◌, ◌≤◌, ◌≡◌, List, [], ◌∷◌, ◌++◌, cond, ◌⊎◌, length, get_or}
use Rattle.octets.specs.Octets.{Octets}
use Rattle.octets.specs.Words.{little_octets}
use Rattle.names.specs.Names.{Labels, IsName, encode}
use Rattle.names.specs.Folding.{folded_name}
use Rattle.name_table.specs.Masks.{is_valid}
use Rattle.name_table.specs.Check.{length_at, kind_at, body_at, Held}

pub data NameKind : Type 0 where
  unique : NameKind
  shared : NameKind

-- a record: an IPv4 address, an IPv6 address, or a name as the target of a PTR
pub data Data : Type 0 where
  a : List ℕ → Data
  aaaa : List ℕ → Data
  ptr : Labels → Data

-- a name; a record of the last name before it; or the mask of the records after it, up to the next mask or name
pub data Entry : Type 0 where
  name : NameKind → Labels → Entry
  resource : Data → Entry
  mask : ℕ → Entry

abbrev pub kind : Entry → ℕ
kind (name unique n) = 1
kind (name shared n) = 2
kind (resource (a o)) = 3
kind (resource (aaaa o)) = 4
kind (resource (ptr n)) = 5
kind (mask m) = 6

abbrev pub data_octets : Data → List ℕ
data_octets (a o) = o
data_octets (aaaa o) = o
data_octets (ptr n) = encode n

abbrev pub data_type : Data → ℕ
data_type (a o) = 1
data_type (aaaa o) = 28
data_type (ptr n) = 12

abbrev pub body : Entry → List ℕ
body (name k n) = encode n
body (resource d) = data_octets d
body (mask m) = m ∷ []

-- length of the whole entry, kind, body
abbrev pub entry_octets : Entry → List ℕ
entry_octets e = little_octets (4 + length (body e)) ++ little_octets (kind e) ++ body e

abbrev pub table_octets : List Entry → List ℕ
table_octets [] = []
table_octets (e ∷ es) = entry_octets e ++ table_octets es

-- the names among some entries, in order
abbrev pub names : List Entry → List Labels
names [] = []
names (name k n ∷ es) = n ∷ names es
names (resource d ∷ es) = names es
names (mask m ∷ es) = names es

-- the records after the last name, and r more if there is no name
abbrev pub records_after : ℕ → List Entry → ℕ
records_after r [] = r
records_after r (name k n ∷ es) = records_after 0 es
records_after r (resource d ∷ es) = records_after (r + 1) es
records_after r (mask m ∷ es) = records_after r es

abbrev pub records : List Entry → ℕ
records es = records_after 0 es

-- n equals none of some names
abbrev pub New : List Labels → Labels → Type 0
New [] n = Unit
New (m ∷ ms) n = (folded_name m ≡ folded_name n → ⊥) × New ms n

-- the rules for a name after the entries `before`
pub record NameRules (before : List Entry) (n : Labels) : Type 0 where
  pub is_name : IsName n
  pub not_root : n ≡ [] → ⊥
  pub eight_names : length (names before) < 8
  pub new : New (names before) n

-- the rules for any record after the entries `before`
pub record RecordRules (before : List Entry) : Type 0 where
  pub has_owner : 1 ≤ length (names before)
  pub few_records : records before < 24

pub record AddressRules (n : ℕ) (o : List ℕ) : Type 0 where
  pub size : length o ≡ n
  pub octets : Octets o

abbrev pub DataRules : Data → Type 0
DataRules (a o) = AddressRules 4 o
DataRules (aaaa o) = AddressRules 16 o
DataRules (ptr n) = IsName n

-- the rules for a mask after the entries `before`: 1 to 15, and a name stands before it
pub record MaskRules (before : List Entry) (m : ℕ) : Type 0 where
  pub has_name : 1 ≤ length (names before)
  pub not_zero : 1 ≤ m
  pub four_bits : m ≤ 15

abbrev pub Keeps : List Entry → Entry → Type 0
Keeps before (name k n) = NameRules before n
Keeps before (resource d) = DataRules d × RecordRules before
Keeps before (mask m) = MaskRules before m

-- each of some entries keeps the rules, after those before it
abbrev pub AllKeep : List Entry → List Entry → Type 0
AllKeep before [] = Unit
AllKeep before (e ∷ es) = Keeps before e × AllKeep (before ++ (e ∷ [])) es

-- s is a good table
pub record GoodTable (s : List ℕ) : Type 0 where
  pub entries : List Entry
  pub keep : AllKeep [] entries
  pub octets : s ≡ table_octets entries
  pub size : length s ≤ 4096

-- no entry that keeps the rules stands at the start of s
abbrev pub NoEntry : List Entry → List ℕ → Type 0
NoEntry before s = (e : Entry) (r : List ℕ) → Keeps before e → s ≡ entry_octets e ++ r → ⊥

-- The rule that the entry at the start of s breaks, after the entries `before`.
pub data Breaks (before : List Entry) (s : List ℕ) : Type 0 where
  cut_short : length s < 4 → Breaks before s
  length_below_head : length_at s < 4 → Breaks before s
  past_the_end : length s < length_at s → Breaks before s
  kind_zero : kind_at s ≡ 0 → Breaks before s
  kind_above_6 : 6 < kind_at s → Breaks before s
  not_a_name : (kind_at s ≤ 2) ⊎ (kind_at s ≡ 5) → ((n : Labels) → IsName n → body_at s ≡ encode n → ⊥) → Breaks before s
  not_4_octets : kind_at s ≡ 3 → (length (body_at s) ≡ 4 → ⊥) → Breaks before s
  not_16_octets : kind_at s ≡ 4 → (length (body_at s) ≡ 16 → ⊥) → Breaks before s
  not_1_octet : kind_at s ≡ 6 → (length (body_at s) ≡ 1 → ⊥) → Breaks before s
  mask_zero : kind_at s ≡ 6 → body_at s ≡ 0 ∷ [] → Breaks before s
  mask_above_15 : kind_at s ≡ 6 → (m : ℕ) → body_at s ≡ m ∷ [] → 15 < m → Breaks before s
  root_name : kind_at s ≤ 2 → body_at s ≡ encode [] → Breaks before s
  too_many_names : kind_at s ≤ 2 → 8 ≤ length (names before) → Breaks before s
  equal_name : kind_at s ≤ 2 → (n : Labels) (i : ℕ) → IsName n → body_at s ≡ encode n → i < length (names before)
      → folded_name (get_or (names before) i []) ≡ folded_name n → Breaks before s
  no_owner : 3 ≤ kind_at s → names before ≡ [] → Breaks before s
  too_many_records : 3 ≤ kind_at s → kind_at s ≤ 5 → 24 ≤ records before → Breaks before s

-- good entries end at an offset, and the entry there breaks a rule
pub record BadEntry (s : List ℕ) (at : ℕ) : Type 0 where
  pub before : List Entry
  pub rest : List ℕ
  pub keep : AllKeep [] before
  pub octets : s ≡ table_octets before ++ rest
  pub offset : at ≡ length (table_octets before)
  pub more : 1 ≤ length rest
  pub breaks : Breaks before rest

-- where the names of some entries stand, if the first entry begins at an offset
abbrev pub located : ℕ → List Entry → List Held
located o [] = []
located o (name k n ∷ es) =
    record { kind = kind (name k n); start = o + 4; end = o + (4 + length (encode n)); octets = encode n }
    ∷ located (o + (4 + length (encode n))) es
located o (resource d ∷ es) = located (o + (4 + length (data_octets d))) es
located o (mask m ∷ es) = located (o + 5) es

-- a record, and the mask of the interfaces on which it is valid
pub record Owned : Type 0 where
  pub valid : ℕ
  pub rdata : Data

-- the records at the start of some entries, up to the next name: each has the mask of the last kind 6 before it; m before any
abbrev pub leading : ℕ → List Entry → List Owned
leading m [] = []
leading m (name k n ∷ es) = []
leading m (resource d ∷ es) = record { valid = m; rdata = d } ∷ leading m es
leading m (mask l ∷ es) = leading l es

-- the records of each name, in order; those before any kind 6 of the name are valid on every interface
abbrev pub owned : List Entry → List (List Owned)
owned [] = []
owned (name k n ∷ es) = leading 15 es ∷ owned es
owned (resource d ∷ es) = owned es
owned (mask m ∷ es) = owned es

-- none of some entries is a mask; none is a name
abbrev pub NoMask : List Entry → Type 0
NoMask [] = Unit
NoMask (name k n ∷ es) = NoMask es
NoMask (resource d ∷ es) = NoMask es
NoMask (mask m ∷ es) = ⊥

abbrev pub NoName : List Entry → Type 0
NoName [] = Unit
NoName (name k n ∷ es) = ⊥
NoName (resource d ∷ es) = NoName es
NoName (mask m ∷ es) = NoName es

-- In plain words, the mask of a record, by the entries between its name and itself: that of the last kind 6 among them, or 15 if there is
-- none.
pub data MaskAfter (between : List Entry) (m : ℕ) : Type 0 where
  last : (xs ys : List Entry) → between ≡ xs ++ (mask m ∷ ys) → NoMask ys → MaskAfter between m
  none : NoMask between → m ≡ 15 → MaskAfter between m

-- among some records with their masks, o has the number j
pub record IsNumber (os : List Owned) (j : ℕ) (o : Owned) : Type 0 where
  pub earlier : List Owned
  pub later : List Owned
  pub are : os ≡ earlier ++ (o ∷ later)
  pub number : length earlier ≡ j

-- the records of a name that are valid on interface i, in order
abbrev pub valid_for : ℕ → List Owned → List Data
valid_for i [] = []
valid_for i (o ∷ os) = cond (is_valid o.valid i) (o.rdata ∷ valid_for i os) (valid_for i os)

-- a record as it is answered: its type and its data
pub record Answer : Type 0 where
  pub rtype : ℕ
  pub octets : List ℕ

abbrev pub answer_of : Data → Answer
answer_of d = record { rtype = data_type d; octets = data_octets d }
