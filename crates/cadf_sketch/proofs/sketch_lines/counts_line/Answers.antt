use Rattle.cadf_sketch.proofs.Common.{common_steps, arith}
use Rattle.cadf_sketch.proofs.sketch_lines.counts_line.Goals as goal

pub returns : goal.returns
returns c = grind (arith, common_steps)
