use Rattle.cadf_tree.proofs.Common.{◌≡◌, drop, any_shown}
use Rattle.cadf_tree.proofs.pruning.any_shown.Given as goal

abbrev pub invariant-loop-kind : goal.invariant-loop-kind
invariant-loop-kind l = any_shown l.kinds ≡ any_shown (drop l.kind-index l.kinds)
