use Rattle.cadf_pathset.proofs.Common.{length}
use Rattle.cadf_pathset.proofs.sort.+sorted.Given as goal

abbrev pub decreases-sorted : goal.decreases-sorted
decreases-sorted l = length l.numbers.now
