use Rattle.cadf_json.proofs.Common.{common_steps, arith}
use Rattle.cadf_json.proofs.Fronts.{front_bytes}
use Rattle.cadf_json.proofs.front.front_of.Goals as goal

pub returns : goal.returns
returns c = grind (arith, common_steps, front_bytes)
