use Rattle.cadf_tree.proofs.Common.{◌≡◌, ◌++◌, drop, digests_of}
use Rattle.cadf_tree.proofs.compared.digests_of.Given as goal

abbrev pub invariant-loop-digest : goal.invariant-loop-digest
invariant-loop-digest l = digests_of l.all ≡ l.digests.items ++ digests_of (drop l.digest-index l.all)
