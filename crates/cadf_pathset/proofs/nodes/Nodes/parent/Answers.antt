use Rattle.cadf_pathset.proofs.Common.{common_steps, arith}
use Rattle.cadf_pathset.proofs.Arena.{node_count, parent_before, list_of_parent}
use Rattle.cadf_pathset.proofs.nodes.Nodes.parent.Goals as goal

pub index-requires : goal.index-requires
index-requires c = grind (arith, common_steps, node_count)

pub returns-clause-before : goal.returns-clause-before
returns-clause-before c = grind (arith, common_steps, parent_before)

pub returns-clause-list : goal.returns-clause-list
returns-clause-list c = grind (arith, common_steps, list_of_parent)
