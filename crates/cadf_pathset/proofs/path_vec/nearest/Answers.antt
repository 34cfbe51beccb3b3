use Rattle.cadf_pathset.proofs.Common.{common_steps, arith}
use Rattle.cadf_pathset.proofs.path_vec.nearest.Goals as goal

pub list_cmp-below-requires-clause-there : goal.list_cmp-below-requires-clause-there
list_cmp-below-requires-clause-there g c = grind (arith, common_steps)

pub list_cmp-above-requires-clause-there : goal.list_cmp-above-requires-clause-there
list_cmp-above-requires-clause-there g c = grind (arith, common_steps)
