use Rattle.cadf_listed.proofs.Common.{arith, common_steps}
use Rattle.cadf_listed.proofs.MarkedNames.{digest_at, digest_is}
use Rattle.cadf_listed.proofs.listed.digest_with.Goals as goal

pub returns-then-name-mark : goal.returns-then-name-mark
returns-then-name-mark c = grind (arith, common_steps, (digest_at c.args.mark c.args.name.now c.told-name))

pub returns : goal.returns
returns c = digest_is c.args.mark c.args.name.now c.copy_from_slice.new.self c.told-name c.if-name-mark.false c.copy_from_slice.ensures.after
