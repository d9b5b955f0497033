use Rattle.std.proofs.Common.{rules}
use Rattle.hex.specs.Hex.{IsBytes}
use Rattle.run_calls.proofs.LineLaws.{hex_lower}
use Rattle.run_calls.proofs.line.hexadecimal.Goals as goal

pub returns : goal.returns
returns c =
    let octets : IsBytes c.args.octets.now = search rules in
    rw (← hex_lower c.args.octets.now octets) (search rules)
