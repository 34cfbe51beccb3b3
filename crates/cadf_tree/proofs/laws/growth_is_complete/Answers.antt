use Rattle.cadf_tree.proofs.Comparing.{complete, unchanged}
use Rattle.cadf_tree.proofs.laws.growth_is_complete.Goals as goal

pub returns-clause-accepted : goal.returns-clause-accepted
returns-clause-accepted c = complete

pub returns-clause-unchanged : goal.returns-clause-unchanged
returns-clause-unchanged c = unchanged
