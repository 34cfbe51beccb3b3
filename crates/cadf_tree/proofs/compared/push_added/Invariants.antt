use Rattle.cadf_tree.proofs.Common.{◌≡◌, ◌++◌, drop, all_of, Added}
use Rattle.cadf_tree.proofs.compared.push_added.Given as goal

abbrev pub invariant-loop-digest : goal.invariant-loop-digest
invariant-loop-digest l = l.fn.all.items ++ all_of Added l.later ≡ l.all.items ++ all_of Added (drop l.digest-index l.later)
