use Rattle.cadf_pathset.proofs.Common.{common_steps, arith}
use Rattle.cadf_pathset.proofs.Copies.{last_got}
use Rattle.cadf_pathset.proofs.path_vec.PathVec.last_cmp.Goals as goal

pub cmp_at-requires-clause-known : goal.cmp_at-requires-clause-known
cmp_at-requires-clause-known g c = grind (arith, common_steps, last_got)

pub returns : goal.returns
returns g c = grind (arith, common_steps, last_got)
