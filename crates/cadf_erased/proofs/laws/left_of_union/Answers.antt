use Rattle.cadf_erased.proofs.LeftSets.{left-union, left_of_delta}
use Rattle.cadf_erased.proofs.laws.left_of_union.Goals as goal

pub returns : goal.returns
returns c = record { union = left-union; delta = left_of_delta }
