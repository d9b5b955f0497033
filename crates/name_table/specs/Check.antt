-- The check of a name table, to be computed: a fold of one entry's step over a small state. What it means: specs/Entries.antt.
use Rattle.std.specs.Prelude.{ℕ, zero, suc, ◌+◌, List, [], ◌∷◌, ◌++◌, Bool, true, false, cond, length, get_or, drop, ltb, leb, eqb, None, Option, Some}
use Rattle.octets.specs.Octets.{octet_at, part_of}
use Rattle.octets.specs.Words.{little_at}
use Rattle.octets.specs.Tests.{◌and◌}
use Rattle.names.specs.declared.Name.{Name as PlainName}
use Rattle.names.specs.NameWalk.{name_at}
use Rattle.names.specs.Folding.{same_name}
use Rattle.name_table.specs.Bounds.{longest_table, most_names, most_records, entry_head}
use Rattle.name_table.specs.Kinds.{kind_of}
use Rattle.name_table.specs.Masks.{is_mask}
use Rattle.name_table.specs.declared.Kind.{Kind}
use Rattle.name_table.specs.declared.Kind.TheVariants.{Unique, Shared, Octets, Target, Mask, Unknown}
use Rattle.name_table.specs.declared.Form.{Form}
use Rattle.name_table.specs.declared.Form.TheVariants.{Name, Record, Mask}

-- length, kind and body of the entry at the start of s
abbrev pub length_at : List ℕ → ℕ
length_at s = little_at s 0

abbrev pub kind_at : List ℕ → ℕ
kind_at s = little_at s 2

abbrev pub body_at : List ℕ → List ℕ
body_at s = part_of s entry_head (length_at s)

-- the entry at the start of s is whole: its length and kind are there, and its length counts them and does not run past s
unfoldable pub is_whole : List ℕ → Bool
is_whole s = leb entry_head (length s) and leb entry_head (length_at s) and leb (length_at s) (length s)

-- its kind, its body and what follows it; none where it is not whole
unfoldable pub first_entry : List ℕ → Option (ℕ × List ℕ × List ℕ)
first_entry s = cond (is_whole s) (Some (kind_at s, body_at s, drop (length_at s) s)) None

-- a name without pointers fills the body
abbrev pub length_is : Option PlainName → ℕ → Bool
length_is (Some n) len = eqb n.len len
length_is None len = false

unfoldable pub name_fills : List ℕ → Bool
name_fills body = length_is (name_at body 0) (length body)

-- A name's entry is in form if a name that is not the root fills the body, and there are not 8 names already.
unfoldable pub name_form : ℕ → List ℕ → Option Form
name_form names body =
    cond (name_fills body)
    (cond (leb (length body) 1) None
    (cond (leb most_names names) None
    (Some Name)))
    None

-- A record's entry is in form if its body is, a name stands before it, and that name has not 24 records already.
unfoldable pub record_form : ℕ → ℕ → Bool → Option Form
record_form names records body =
    cond body
    (cond (eqb names 0) None
    (cond (leb most_records records) None
    (Some Record)))
    None

-- A mask's entry, kind 6, is in form if a name stands before it, and its body is one octet, which is a mask.
unfoldable pub mask_fits : ℕ → List ℕ → Bool
mask_fits names body = ltb 0 names and eqb (length body) 1 and is_mask (octet_at body 0)

unfoldable pub mask_form : ℕ → List ℕ → Option Form
mask_form names body = cond (mask_fits names body) (Some Mask) None

unfoldable pub form_by : Kind → ℕ → ℕ → List ℕ → Option Form
form_by Unique names records body = name_form names body
form_by Shared names records body = name_form names body
form_by (Octets rtype len) names records body = record_form names records (eqb (length body) len)
form_by (Target rtype) names records body = record_form names records (name_fills body)
form_by Mask names records body = mask_form names body
form_by Unknown names records body = None

-- the entry at the start of s, after so many names and so many records of the last one
unfoldable pub form_at : List ℕ → ℕ → ℕ → Option Form
form_at s names records = cond (is_whole s) (form_by (kind_of (kind_at s)) names records (body_at s)) None

-- a name of the table: its kind, the offsets from which and up to which its octets stand, and these octets
pub record Held : Type 0 where
  pub kind : ℕ
  pub start : ℕ
  pub end : ℕ
  pub octets : List ℕ

-- a name that is not there
abbrev pub no_name : Held
no_name = record { kind = 0; start = 0; end = 0; octets = [] }

-- the number of the first name that equals x, counted from k
unfoldable pub find_from : ℕ → List Held → List ℕ → Option ℕ
find_from k [] x = None
find_from k (h ∷ hs) x = cond (same_name h.octets x) (Some k) (find_from (k + 1) hs x)

abbrev pub find_name : List Held → List ℕ → Option ℕ
find_name hs x = find_from 0 hs x

-- a name was found; and its number, 0 where none was
abbrev pub is_found : Option ℕ → Bool
is_found (Some k) = true
is_found None = false

abbrev pub number_or : Option ℕ → ℕ
number_or (Some k) = k
number_or None = 0

-- what is kept between entries: the names so far, the records of the last one, the offset of the next entry
pub record State : Type 0 where
  pub names : List Held
  pub records : ℕ
  pub at : ℕ

pub data Stepped : Type 0 where
  on : State → Stepped
  broken : Stepped

abbrev pub with_name : State → ℕ → List ℕ → ℕ → State
with_name σ kind body len =
    record {
      names = σ.names ++ (record { kind = kind; start = σ.at + entry_head; end = σ.at + len; octets = body } ∷ []);
      records = 0;
      at = σ.at + len;
    }

abbrev pub with_record : State → ℕ → State
with_record σ len = record { names = σ.names; records = σ.records + 1; at = σ.at + len }

-- a mask counts as no record
abbrev pub with_mask : State → ℕ → State
with_mask σ len = record { names = σ.names; records = σ.records; at = σ.at + len }

-- a name equals no earlier one
abbrev pub if_new : Option ℕ → State → Stepped
if_new (Some k) τ = broken
if_new None τ = on τ

-- the step over an entry of a form, with its kind, body and length
abbrev pub step_by : Option Form → ℕ → List ℕ → ℕ → State → Stepped
step_by (Some Name) kind body len σ = if_new (find_name σ.names body) (with_name σ kind body len)
step_by (Some Record) kind body len σ = on (with_record σ len)
step_by (Some Mask) kind body len σ = on (with_mask σ len)
step_by None kind body len σ = broken

-- the step over the entry at the start of s
unfoldable pub step : List ℕ → State → Stepped
step s σ = step_by (form_at s (length σ.names) σ.records) (kind_at s) (body_at s) (length_at s) σ

-- all entries were taken, or one breaks a rule
pub data Walked : Type 0 where
  whole : State → Walked
  stopped : ℕ → Walked

abbrev pub on_step : Stepped → (State → Walked) → ℕ → Walked
on_step (on τ) rest at = rest τ
on_step broken rest at = stopped at

-- at most k entries
unfoldable pub from : ℕ → List ℕ → State → Walked
from zero s σ = stopped σ.at
from (suc k) s σ = cond (eqb (length s) 0) (whole σ) (on_step (step s σ) (from k (drop (length_at s) s)) σ.at)

-- the entries of s, from a state on: each takes some octets, so the fuel never runs out
abbrev pub check_from : List ℕ → State → Walked
check_from s σ = from (suc (length s)) s σ

abbrev pub start : State
start = record { names = []; records = 0; at = 0 }

-- a table is good, with its names in order, or bad at an offset
pub data Checked : Type 0 where
  good : List Held → Checked
  bad : ℕ → Checked

abbrev pub checked_by : Walked → Checked
checked_by (whole σ) = good σ.names
checked_by (stopped at) = bad at

-- a table that is too long is refused before any entry is read
unfoldable pub check_table : List ℕ → Checked
check_table s = cond (ltb longest_table (length s)) (bad longest_table) (checked_by (check_from s start))

-- the table is not good; and the offset of its bad entry
abbrev pub is_bad : Checked → Bool
is_bad (good hs) = false
is_bad (bad at) = true

abbrev pub bad_at : Checked → ℕ
bad_at (good hs) = 0
bad_at (bad at) = at

-- the names of a good table
abbrev pub names_in : Checked → List Held
names_in (good hs) = hs
names_in (bad at) = []

-- the k-th name of a table
abbrev pub name_in : List ℕ → ℕ → Held
name_in table k = get_or (names_in (check_table table)) k no_name
