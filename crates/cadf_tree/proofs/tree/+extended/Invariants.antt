use Rattle.cadf_tree.proofs.Common.{length}
use Rattle.cadf_tree.proofs.tree.+extended.Given as goal

abbrev pub decreases-extended : goal.decreases-extended
decreases-extended l = length l.rest.now
