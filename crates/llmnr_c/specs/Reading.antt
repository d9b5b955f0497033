-- A record of a datagram, and the check of a name table, as flat structs.
use Rattle.message.specs.declared.ResourceRecord.{ResourceRecord}
use Rattle.std.specs.Prelude.{true, false, length, None, Option, Some, Result, Ok, Err}
use Rattle.name_table.specs.Check.{Checked, good, bad}
use Rattle.name_table.specs.Shown.{count_of}
use Rattle.name_table.specs.declared.BadTable.{BadTable}
use Rattle.name_table.specs.declared.Table.{Table}
use Rattle.llmnr_c.specs.declared.reading.FlatRecord.{FlatRecord}
use Rattle.llmnr_c.specs.declared.reading.FlatTable.{FlatTable}

-- type, class, TTL, where its data stands, and where the next record begins; all zero where there is none
abbrev pub flat_record : Option ResourceRecord → FlatRecord
flat_record (Some r) =
    record { good = true; rtype = r.rtype; rclass = r.class; ttl = r.ttl; start = r.start; len = r.len; next = r.next }
flat_record None = record { good = false; rtype = 0; rclass = 0; ttl = 0; start = 0; len = 0; next = 0 }

-- how many names a good table has; of a bad one the offset of its first bad entry
abbrev pub flat_table : Checked → FlatTable
flat_table (good names) = record { good = true; names = length names; at = 0 }
flat_table (bad at) = record { good = false; names = 0; at = at }

-- the same of what the code reads
abbrev pub flat_read : Result Table BadTable → FlatTable
flat_read (Ok t) = record { good = true; names = count_of t; at = 0 }
flat_read (Err b) = record { good = false; names = 0; at = b.at }
