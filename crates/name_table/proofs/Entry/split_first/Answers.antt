use Rattle.std.proofs.Common.{rules}
use Rattle.name_table.proofs.Read.{cut_first}
use Rattle.name_table.proofs.Entry.split_first.Goals as goal

pub returns : goal.returns
returns c =
    let s = c.in_ok-body.ensures.cases in
    cut_first c.args.octets.now _ c.in_ok-len.len _ _ (search rules) (search rules) (search rules) (search rules) s.1 s.2
