-- The check of a table and the records of a name as they were without masks: five kinds, and the records are all that follow. They serve to
-- say that what has no kind 6 is read as it was: proofs/Before.antt.
use Rattle.std.specs.Prelude.{ℕ, zero, suc, ◌+◌, List, [], ◌∷◌, cond, length, drop, ltb, eqb, None, Option}
use Rattle.octets.specs.Bounds.{used_by4, used_by6}
use Rattle.name_table.specs.Bounds.{longest_table, entry_head, type_a, type_ptr, type_aaaa}
use Rattle.name_table.specs.Check.{length_at, kind_at, body_at, is_whole, form_by, State, Stepped, step_by, Walked, whole, stopped, on_step, start, Checked, bad, checked_by}
use Rattle.name_table.specs.Records.{record_by}
use Rattle.name_table.specs.declared.Form.{Form}
use Rattle.name_table.specs.declared.Kind.{Kind}
use Rattle.name_table.specs.declared.Kind.TheVariants.{Unique, Shared, Octets, Target, Unknown}
use Rattle.name_table.specs.declared.Record.{Record}
use Rattle.name_table.specs.declared.RecordRead.{RecordRead}
use Rattle.name_table.specs.declared.RecordRead.TheVariants.{Good, Mask, End}

unfoldable pub kind_before : ℕ → Kind
kind_before k =
    cond (eqb k 1) Unique
    (cond (eqb k 2) Shared
    (cond (eqb k 3) (Octets type_a used_by4)
    (cond (eqb k 4) (Octets type_aaaa used_by6)
    (cond (eqb k 5) (Target type_ptr)
    Unknown))))

-- the check
unfoldable pub form_before : List ℕ → ℕ → ℕ → Option Form
form_before s names records = cond (is_whole s) (form_by (kind_before (kind_at s)) names records (body_at s)) None

unfoldable pub step_before : List ℕ → State → Stepped
step_before s σ = step_by (form_before s (length σ.names) σ.records) (kind_at s) (body_at s) (length_at s) σ

unfoldable pub from_before : ℕ → List ℕ → State → Walked
from_before zero s σ = stopped σ.at
from_before (suc k) s σ =
    cond (eqb (length s) 0) (whole σ) (on_step (step_before s σ) (from_before k (drop (length_at s) s)) σ.at)

unfoldable pub check_before : List ℕ → Checked
check_before s = cond (ltb longest_table (length s)) (bad longest_table) (checked_by (from_before (suc (length s)) s start))

-- the records
unfoldable pub record_before : List ℕ → ℕ → RecordRead
record_before s at =
    cond (is_whole (drop at s))
    (record_by (kind_before (kind_at (drop at s))) (drop at s) (at + entry_head) (at + length_at (drop at s)))
    End

abbrev pub on_record_before : RecordRead → (Record → List Record) → List Record
on_record_before (Good r) rest = r ∷ rest r
on_record_before (Mask m end) rest = []
on_record_before End rest = []

unfoldable pub records_from_before : ℕ → List ℕ → ℕ → List Record
records_from_before zero s at = []
records_from_before (suc k) s at = on_record_before (record_before s at) (λ r. records_from_before k s r.end)

abbrev pub records_before : List ℕ → ℕ → List Record
records_before s at = records_from_before (suc (length s)) s at
