use Rattle.cadf_tree.proofs.Common.{◌≡◌, ◌++◌, drop, compared}
use Rattle.cadf_tree.proofs.compared.compare_sets.Given as goal

abbrev pub invariant-loop-digest : goal.invariant-loop-digest
invariant-loop-digest l = compared l.earlier l.later ≡ l.all.items ++ compared (drop l.digest-index l.earlier) l.rest
