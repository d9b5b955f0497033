-- The records of a name: those that follow its entry, up to the next name or the end, each with its mask.
use Rattle.std.specs.Prelude.{ℕ, zero, suc, ◌+◌, List, [], ◌∷◌, cond, length, drop}
use Rattle.octets.specs.Octets.{octet_at, part_of}
use Rattle.name_table.specs.Bounds.{everywhere, entry_head}
use Rattle.name_table.specs.Kinds.{kind_of}
use Rattle.name_table.specs.Masks.{is_valid}
use Rattle.name_table.specs.Check.{length_at, kind_at, is_whole}
use Rattle.name_table.specs.Entries.{Answer}
use Rattle.name_table.specs.declared.Kind.{Kind}
use Rattle.name_table.specs.declared.Kind.TheVariants.{Unique, Shared, Octets, Target, Mask, Unknown}
use Rattle.name_table.specs.declared.Record.{Record}
use Rattle.name_table.specs.declared.RecordRead.{RecordRead}
use Rattle.name_table.specs.declared.RecordRead.TheVariants.{Good, Mask, End}

-- the record of an entry of some kind at the start of s, whose body stands from one offset of the table up to another; or its mask
unfoldable pub record_by : Kind → List ℕ → ℕ → ℕ → RecordRead
record_by Unique s start end = End
record_by Shared s start end = End
record_by (Octets rtype n) s start end = Good (record { rtype = rtype; start = start; end = end })
record_by (Target rtype) s start end = Good (record { rtype = rtype; start = start; end = end })
record_by Mask s start end = Mask (octet_at s entry_head) end
record_by Unknown s start end = End

-- the record or the mask at an offset of a table; none at a name, at the end, and where no entry is whole
unfoldable pub record_at : List ℕ → ℕ → RecordRead
record_at s at =
    cond (is_whole (drop at s))
    (record_by (kind_of (kind_at (drop at s))) (drop at s) (at + entry_head) (at + length_at (drop at s)))
    End

-- a record, and the mask of the interfaces on which it is valid
pub record Masked : Type 0 where
  pub valid : ℕ
  pub held : Record

-- a mask, kind 6, is that of the records after it
abbrev pub on_record : RecordRead → ℕ → (ℕ → ℕ → List Masked) → List Masked
on_record (Good r) m rest = record { valid = m; held = r } ∷ rest m r.end
on_record (Mask l end) m rest = rest l end
on_record End m rest = []

-- the records of at most k entries from an offset on, after the mask m
unfoldable pub records_from : ℕ → List ℕ → ℕ → ℕ → List Masked
records_from zero s m at = []
records_from (suc k) s m at = on_record (record_at s at) m (records_from k s)

-- the records from an offset on, up to the next name or the end: each entry takes some octets, so the fuel never runs out
abbrev pub records_under : List ℕ → ℕ → ℕ → List Masked
records_under s m at = records_from (suc (length s)) s m at

-- those of a name whose octets end at an offset: before any kind 6 they are valid on every interface
abbrev pub records_of : List ℕ → ℕ → List Masked
records_of s at = records_under s everywhere at

-- those of them that are valid on interface i
unfoldable pub valid_on : ℕ → List Masked → List Record
valid_on i [] = []
valid_on i (r ∷ rs) = cond (is_valid r.valid i) (r.held ∷ valid_on i rs) (valid_on i rs)

-- the type and the data of a record, whose data stands in the table
abbrev pub answer_in : List ℕ → Record → Answer
answer_in s r = record { rtype = r.rtype; octets = part_of s r.start r.end }
