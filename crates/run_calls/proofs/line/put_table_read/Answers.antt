use Rattle.std.proofs.lemmas.List.{append-nil}
use Rattle.run_calls.proofs.line.put_table_read.Goals as goal

pub returns-in-Ok : goal.returns-in-Ok
returns-in-Ok c =
    rw c.in-Ok.is (simp append-nil (rw c.len.ensures.value at c.write.ensures.bytes))
