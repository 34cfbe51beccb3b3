use Rattle.cadf_sketch.proofs.Common.{common_steps, arith, length-replicate, rising, cells_of, sketch_of}
use Rattle.cadf_sketch.proofs.CellLemmas.{at_sketched, length-toggled_all}
use Rattle.cadf_sketch.proofs.laws.cells_are_what_stands_there.Goals as goal

pub returns-clause-count : goal.returns-clause-count
unfolding sketch_of cells_of
returns-clause-count c = grind (arith, common_steps, length-toggled_all, length-replicate)

pub returns-clause-each : goal.returns-clause-each
unfolding sketch_of cells_of
returns-clause-each c = λ n layout place some within. at_sketched (rising n.digests) layout place some within
