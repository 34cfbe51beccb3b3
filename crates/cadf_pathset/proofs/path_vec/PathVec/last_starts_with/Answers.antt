use Rattle.cadf_pathset.proofs.Common.{common_steps, arith, length-map}
use Rattle.cadf_pathset.proofs.Suffixes.{last_begins}
use Rattle.cadf_pathset.proofs.path_vec.PathVec.last_starts_with.Goals as goal

pub returns-then-not-is_empty : goal.returns-then-not-is_empty
returns-then-not-is_empty g c = grind (arith, common_steps, last_begins, length-map)
