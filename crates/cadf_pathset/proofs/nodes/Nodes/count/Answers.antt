use Rattle.cadf_pathset.proofs.Common.{common_steps, arith}
use Rattle.cadf_pathset.proofs.Arena.{node_count}
use Rattle.cadf_pathset.proofs.nodes.Nodes.count.Goals as goal

pub returns : goal.returns
returns c = grind (arith, common_steps, node_count)
