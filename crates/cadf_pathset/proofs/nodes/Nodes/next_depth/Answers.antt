use Rattle.cadf_pathset.proofs.Common.{common_steps, arith, list_at}
use Rattle.cadf_pathset.proofs.Arena.{list_small, node_count}
use Rattle.cadf_pathset.proofs.Suffixes.{drop_one_more, drop_past}
use Rattle.cadf_pathset.proofs.nodes.Nodes.next_depth.Goals as goal

pub returns-then-depth-len : goal.returns-then-depth-len
returns-then-depth-len c = λ n h. drop_one_more (list_at c.args.self.now n) c.args.depth

pub returns : goal.returns
returns c = grind (arith, common_steps, list_small, node_count, drop_past)
