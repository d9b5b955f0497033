use Rattle.std.proofs.Common.{◌-◌, length}
use Rattle.message.proofs.Reply.{Filling}
use Rattle.message.proofs.replies.put_answers.Given as goal

abbrev pub invariant-loop-record : goal.invariant-loop-record
invariant-loop-record l = Filling l.initial.out l.limit l.asked.qtype l.asked.interface l.used l.asked.table.now l.asked.records l.out l.end l.count l.p l.here

abbrev pub decreases-loop-record : goal.decreases-loop-record
decreases-loop-record l = length l.asked.table.now - l.p
