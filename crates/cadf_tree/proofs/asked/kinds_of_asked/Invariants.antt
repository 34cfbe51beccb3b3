use Rattle.cadf_tree.proofs.Common.{◌≡◌, ◌++◌, drop, walked_kinds}
use Rattle.cadf_tree.proofs.asked.kinds_of_asked.Given as goal

abbrev pub invariant-loop-index : goal.invariant-loop-index
invariant-loop-index l = walked_kinds l.digests l.asked ≡ l.kinds.items ++ walked_kinds (drop l.index l.digests) l.rest
