use Rattle.cadf_split.proofs.Common.{key}
use Rattle.cadf_split.proofs.ConflictsOfParts.{conflicted_in_parts, conflicted_from_parts}
use Rattle.cadf_split.proofs.laws.conflicts_of_parts.Goals as goal

pub returns : goal.returns
returns c = λ unit s letter name. (conflicted_in_parts (key unit) s letter name, conflicted_from_parts (key unit) s letter name)
