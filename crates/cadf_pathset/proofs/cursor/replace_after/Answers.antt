use Rattle.cadf_pathset.proofs.Common.{common_steps, arith}
use Rattle.cadf_pathset.proofs.Replaced.{path_replaced}
use Rattle.cadf_pathset.proofs.cursor.replace_after.Goals as goal

pub returns-clause-list : goal.returns-clause-list
returns-clause-list c = grind (arith, common_steps, path_replaced)
