use Rattle.cadf_tree.proofs.Common.{◌≡◌, drop, above}
use Rattle.cadf_tree.proofs.asked.above.Given as goal

abbrev pub invariant-loop-index : goal.invariant-loop-index
invariant-loop-index l = above l.low l.digests ≡ above l.low (drop l.index l.digests)
