-- The refusal numbers, rules N of docs/RULES.md: what a refusal tells the caller.
use Rattle.std.specs.Prelude.{ℕ}
use Rattle.refusal.specs.declared.Refusal.{Refusal}
use Rattle.refusal.specs.declared.Refusal.TheVariants.{Room, Table, Interface, Clock, Length, Address, Opcode, Rcode, Counts, Question, Class, NotOurs, Stopped, Notification, Unmatched, Own, Tentative, Records, Busy, Settings, TooSoon, SeveralLabels}

-- a number; number 2 comes with the offset of the first bad entry of the table
pub data Report : Type 0 where
  number : ℕ → Report
  number_at : ℕ → ℕ → Report

abbrev pub report_of : Refusal → Report
report_of Room = number 1
report_of (Table at) = number_at 2 at
report_of Interface = number 3
report_of Clock = number 4
report_of Length = number 5
report_of Address = number 6
report_of Opcode = number 7
report_of Rcode = number 8
report_of Counts = number 9
report_of Question = number 10
report_of Class = number 11
report_of NotOurs = number 12
report_of Stopped = number 13
report_of Notification = number 14
report_of Unmatched = number 15
report_of Own = number 16
report_of Tentative = number 17
report_of Records = number 18
report_of Busy = number 19
report_of Settings = number 20
report_of TooSoon = number 21
report_of SeveralLabels = number 22

abbrev pub number_in : Report → ℕ
number_in (number n) = n
number_in (number_at n at) = n

abbrev pub number_of : Refusal → ℕ
number_of r = number_in (report_of r)
