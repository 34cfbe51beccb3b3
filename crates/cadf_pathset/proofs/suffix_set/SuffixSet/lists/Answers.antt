use Rattle.cadf_pathset.proofs.Common.{common_steps, arith}
use Rattle.cadf_pathset.proofs.Narrowed.{shown}
use Rattle.cadf_pathset.proofs.suffix_set.SuffixSet.lists.Goals as goal

pub loop-node-init : goal.loop-node-init
loop-node-init c = rw (← shown c.self.inside.nodes.now c.self.inside.depth c.self.inside.numbers.now c.args.self.now c.self.invariant.1 c.self.view_is) (grind (arith, common_steps))
