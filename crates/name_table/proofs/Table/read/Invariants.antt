use Rattle.std.proofs.Common.{◌-◌, length}
use Rattle.name_table.proofs.Read.{Reading}
use Rattle.name_table.proofs.Table.read.Given as goal

abbrev pub invariant-loop-rest : goal.invariant-loop-rest
invariant-loop-rest l = Reading l.octets l.table l.records (length l.octets - length l.rest) l.rest

abbrev pub decreases-loop-rest : goal.decreases-loop-rest
decreases-loop-rest l = length l.rest
