use Rattle.cadf_evidence.proofs.Common.{◌≡◌, ◌++◌, rising}
use Rattle.cadf_evidence.proofs.seal.digests_of.Given as goal

abbrev pub invariant-loop-digest : goal.invariant-loop-digest
invariant-loop-digest l = l.digests.items ++ l.digest-iterator ≡ rising l.inventory.digests
