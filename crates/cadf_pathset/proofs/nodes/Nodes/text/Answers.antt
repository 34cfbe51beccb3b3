use Rattle.cadf_pathset.proofs.Common.{common_steps, arith}
use Rattle.cadf_pathset.proofs.Arena.{text_of_node, text_there}
use Rattle.cadf_pathset.proofs.nodes.Nodes.text.Goals as goal

pub text-requires : goal.text-requires
text-requires c = grind (arith, common_steps, text_there)

pub returns : goal.returns
returns c = grind (arith, common_steps, text_of_node)
