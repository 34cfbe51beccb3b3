use Rattle.cadf_key.proofs.Common.{arith, common_steps}
use Rattle.cadf_key.proofs.CollectedKeys.{collected_all}
use Rattle.cadf_key.proofs.keys.keys_of.Goals as goal

pub returns : goal.returns
returns c = grind (arith, common_steps, collected_all)
