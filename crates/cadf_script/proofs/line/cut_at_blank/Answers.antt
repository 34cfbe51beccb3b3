use Rattle.cadf_script.proofs.Common.{Some, None, arith}
use Rattle.cadf_script.proofs.Cuts.{cut_at, place_of, uncut_at}
use Rattle.cadf_script.proofs.line.cut_at_blank.Goals as goal

pub returns-in_err-at : goal.returns-in_err-at
returns-in_err-at c = rw c.from_residual.ensures (uncut_at c.args.bytes.now _ (place_of 32 c.args.bytes.now None c.in_err-at.ensures) (omega arith))

pub returns : goal.returns
returns c = cut_at c.args.bytes.now _ (place_of 32 c.args.bytes.now (Some c.in_ok-at.at) c.in_ok-at.ensures) c.in_ok-at.ensures.0.high
