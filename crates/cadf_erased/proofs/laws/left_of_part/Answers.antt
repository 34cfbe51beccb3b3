use Rattle.cadf_erased.proofs.LeftSets.{left-retain}
use Rattle.cadf_erased.proofs.laws.left_of_part.Goals as goal

pub returns : goal.returns
returns c = left-retain
