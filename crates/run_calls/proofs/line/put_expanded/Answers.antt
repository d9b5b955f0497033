use Rattle.std.proofs.Common.{sym, ◌∙◌, arith}
use Rattle.std.proofs.lemmas.Grind.{common_steps}
use Rattle.run_calls.proofs.LineLaws.{expanded_text}
use Rattle.run_calls.proofs.line.put_expanded.Goals as goal

pub returns : goal.returns
returns c =
    let v = sym c.expand_name.ensures.value ∙ c.in-Some.is in
    let o = c.expand_name.ensures.out_after in
    let t = expanded_text c.args.message.now c.args.at c.in-Some.read v in
    let q = c.part.ensures in
    rw t (grind (arith, common_steps))
