-- The digits are those of the bytes.
use Rattle.std.proofs.Common.{rules}
use Rattle.script.proofs.HexProofs.{encoded}
use Rattle.script.proofs.show.append_hex.Goals as goal

pub returns : goal.returns
returns c =
    let digits = encoded c.args.bytes.now (λ i. (c.type_inv.bytes i).fits) in
    rw (← digits) (search rules)
