use Rattle.cadf_pathset.proofs.Common.{common_steps, arith}
use Rattle.cadf_pathset.proofs.sort.merged.Goals as goal

pub loop-ours-preserved-in-Less : goal.loop-ours-preserved-in-Less
loop-ours-preserved-in-Less c = grind (arith, common_steps)

pub loop-ours-preserved-in-Equal : goal.loop-ours-preserved-in-Equal
loop-ours-preserved-in-Equal c = grind (arith, common_steps)

pub loop-ours-preserved : goal.loop-ours-preserved
loop-ours-preserved c = grind (arith, common_steps)

pub returns-clause-merged : goal.returns-clause-merged
returns-clause-merged c = grind (arith, common_steps)

pub returns-clause-there : goal.returns-clause-there
returns-clause-there c = grind (arith, common_steps)
