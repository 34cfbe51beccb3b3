use Rattle.cadf_sketch.proofs.SketchFileLemmas.{accepts-sketches}
use Rattle.cadf_sketch.proofs.sketch_lines.SketchModelFile.accepted.Goals as goal

pub returns : goal.returns
returns c = accepts-sketches
