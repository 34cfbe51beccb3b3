use Rattle.cadf_listed.proofs.Common.{arith, common_steps, get_or-map}
use Rattle.cadf_listed.proofs.lines.ListedModelFile.line_at.Goals as goal

pub returns : goal.returns
returns g c = grind (arith, common_steps, get_or-map)
