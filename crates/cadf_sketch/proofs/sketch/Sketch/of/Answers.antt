use Rattle.cadf_sketch.proofs.Common.{common_steps, arith, with_items_is, cells_of, sketch_of}
use Rattle.cadf_sketch.proofs.SketchInvariant.{sketch_parts}
use Rattle.cadf_sketch.proofs.sketch.Sketch.of.Goals as goal

pub invariant_of-result : goal.invariant_of-result
unfolding sketch_of cells_of
invariant_of-result c = grind (arith, common_steps, with_items_is, sketch_parts)

pub returns : goal.returns
unfolding sketch_of cells_of
returns c = grind (arith, common_steps)
