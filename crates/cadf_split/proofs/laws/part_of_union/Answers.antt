use Rattle.cadf_split.proofs.Common.{key}
use Rattle.cadf_split.proofs.PartMembers.{part-union}
use Rattle.cadf_split.proofs.laws.part_of_union.Goals as goal

pub returns : goal.returns
returns c = λ unit. part-union (key unit)
