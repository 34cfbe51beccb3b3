use Rattle.cadf_tree.proofs.Common.{◌≡◌, ◌+◌, ◌≤◌, length, drop, zeros}
use Rattle.cadf_tree.proofs.pruning.number_of_zeros.Given as goal

abbrev pub invariant-loop-digest : goal.invariant-loop-digest
invariant-loop-digest l = (l.number + length (zeros l.place (drop l.digest-index l.digests)) ≡ length (zeros l.place l.digests)) × (l.number ≤ l.digest-index)
