use Rattle.cadf_tree.proofs.Common.{length}
use Rattle.cadf_tree.proofs.pruning.+push_parts.Given as goal

abbrev pub decreases-push_parts : goal.decreases-push_parts
decreases-push_parts l = length l.digests.now
