use Rattle.cadf_sketch.proofs.SketchFileLemmas.{sketch-file-tells}
use Rattle.cadf_sketch.proofs.laws.sketch_file_is_injective.Goals as goal

pub returns : goal.returns
returns c = sketch-file-tells
