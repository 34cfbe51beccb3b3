use Rattle.cadf_tree.proofs.Common.{◌≡◌, ◌++◌, drop, all_of, before, from, Added}
use Rattle.cadf_tree.proofs.compared.push_before.Given as goal

abbrev pub invariant-loop-index : goal.invariant-loop-index
invariant-loop-index l =
    (l.fn.all.items ++ all_of Added (before l.digest l.later) ≡ l.all.items ++ all_of Added (before l.digest (drop l.index l.later)))
    × (from l.digest l.later ≡ from l.digest (drop l.index l.later))
