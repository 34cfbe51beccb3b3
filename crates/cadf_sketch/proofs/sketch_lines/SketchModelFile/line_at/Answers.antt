use Rattle.cadf_sketch.proofs.Common.{common_steps, get_or, arith}
use Rattle.cadf_sketch.proofs.WriteLemmas.{cell_there}
use Rattle.cadf_sketch.proofs.sketch_lines.SketchModelFile.line_at.Goals as goal

pub returns-in_default : goal.returns-in_default
returns-in_default c = grind (arith, common_steps, get_or, cell_there)
