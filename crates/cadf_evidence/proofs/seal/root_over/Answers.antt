use Rattle.cadf_evidence.proofs.Common.{arith, common_steps}
use Rattle.cadf_evidence.proofs.SetsOfDigests.{digests_are_set, root_is}
use Rattle.cadf_evidence.proofs.seal.root_over.Goals as goal

pub root_of-requires : goal.root_of-requires
root_of-requires c = grind (arith, common_steps, digests_are_set)

pub returns : goal.returns
returns c = grind (arith, common_steps, root_is)
