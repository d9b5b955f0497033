-- What the reading of a table is as a flat struct.
use Rattle.std.proofs.Common.{◌≡◌, ℕ, ◌≤◌, min, List, length, refl, arith}
use Rattle.name_table.specs.Bounds.{most_names}
use Rattle.name_table.specs.Check.{Checked, good, bad, names_in, check_table}
use Rattle.name_table.specs.Shown.{read_by, table_read}
use Rattle.name_table.proofs.Read.{read_few}
use Rattle.llmnr_c.specs.Reading.{flat_table, flat_read}

counted_so : (k : Checked) → length (names_in k) ≤ most_names → flat_read (read_by k) ≡ flat_table k
counted_so (good names) l = let e : min (length names) most_names ≡ length names = omega (arith, l) in rw e
counted_so (bad at) l = refl

pub table_is : (table : List ℕ) → flat_read (table_read table) ≡ flat_table (check_table table)
unfolding table_read
table_is table = counted_so (check_table table) (read_few table)
