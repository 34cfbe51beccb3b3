use Rattle.cadf_sketch.proofs.Common.{refl}
use Rattle.cadf_sketch.proofs.SketchFileLemmas.{accepts-sketches, sketch_is}
use Rattle.cadf_sketch.proofs.laws.sketch_is_read_back.Goals as goal

pub returns-clause-sketch : goal.returns-clause-sketch
returns-clause-sketch c = sketch_is c.args.sketch.now c.type_invariant.ensures.log c.type_invariant.ensures.parts

pub returns-clause-read : goal.returns-clause-read
returns-clause-read c limit short =
    (accepts-sketches limit _ c.args.sketch.now).1
    (refl, short, sketch_is c.args.sketch.now c.type_invariant.ensures.log c.type_invariant.ensures.parts)
