use Rattle.cadf_sketch.proofs.Common.{common_steps, arith, slice_index_or}
use Rattle.cadf_sketch.proofs.PeelLemmas.{peels_none}
use Rattle.cadf_sketch.proofs.peel.peel.Goals as goal

pub takes-init : goal.takes-init
takes-init c = grind (arith, common_steps, peels_none, slice_index_or)

pub takes-smaller : goal.takes-smaller
takes-smaller c = grind (arith, common_steps)
