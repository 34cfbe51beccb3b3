use Rattle.cadf_sketch.proofs.Common.{common_steps, arith}
use Rattle.cadf_sketch.proofs.sketch_lines.push_counts.Goals as goal

pub loop-count-preserved : goal.loop-count-preserved
loop-count-preserved c = grind (arith, common_steps)

pub returns : goal.returns
returns c = grind (arith, common_steps)
