use Rattle.octets.proofs.Splice.{paste_all}
use Rattle.std.proofs.Common.{arith, length, ◌≡◌, ◌∙◌}
use Rattle.octets.proofs.copy.Goals as goal

pub returns : goal.returns
returns c =
    let e : c.loop-i.i ≡ length c.args.src.now = omega arith in
    c.loop-i.invariant.2 ∙ paste_all c.args.out.now c.args.src.now c.loop-i.i e
