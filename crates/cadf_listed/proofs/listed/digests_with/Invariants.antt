use Rattle.cadf_listed.proofs.Common.{◌≡◌, ◌++◌, drop, digests_with}
use Rattle.cadf_listed.proofs.listed.digests_with.Given as goal

abbrev pub invariant-loop-name : goal.invariant-loop-name
invariant-loop-name l = l.digests.items ++ digests_with l.mark (drop l.name-index l.names) ≡ digests_with l.mark l.names
