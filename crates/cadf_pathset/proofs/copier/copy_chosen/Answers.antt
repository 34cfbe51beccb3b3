use Rattle.cadf_pathset.proofs.Common.{common_steps, arith, append-nil}
use Rattle.cadf_pathset.proofs.Copies.{chosen_none}
use Rattle.cadf_pathset.proofs.copier.copy_chosen.Goals as goal

pub returns-then-is_none : goal.returns-then-is_none
returns-then-is_none c = grind (arith, common_steps, append-nil, chosen_none)

pub loop-flag-preserved : goal.loop-flag-preserved
loop-flag-preserved c = grind (arith, common_steps)
