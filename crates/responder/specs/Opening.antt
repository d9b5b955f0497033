-- How a call after set-up opens: the checks 1 to 4 on the numbers that they look at; where they pass, the names of the table.
use Rattle.std.specs.Prelude.{ℕ, List, Result, Ok, Err}
use Rattle.refusal.specs.Numbers.{Report, report_of}
use Rattle.refusal.specs.declared.Refusal.{Refusal}
use Rattle.refusal.specs.Checks.{pass, Verdict, refused, passed, verdict}
use Rattle.name_table.specs.Check.{Held, check_table, names_in}
use Rattle.name_table.specs.Shown.{names_of}
use Rattle.name_table.specs.declared.Table.{Table}
use Rattle.host.specs.Early.{first_checks}

-- refused, or open with the names of the table
pub data Opened : Type 0 where
  refuses : Report → Opened
  opens : List Held → Opened

abbrev pub opened_if : Verdict → List ℕ → Opened
opened_if (refused t) table = refuses t
opened_if passed table = opens (names_in (check_table table))

unfoldable pub opening : ℕ → List ℕ → ℕ → ℕ → ℕ → ℕ → Opened
opening size table i family clock time = opened_if (verdict (first_checks size table i family clock time pass)) table

-- what the code's opening says
abbrev pub opened_by : Result Table Refusal → List ℕ → Opened
opened_by (Ok t) table = opens (names_of table t)
opened_by (Err why) table = refuses (report_of why)
