use Rattle.cadf_tree.proofs.Vouching.{chain, one}
use Rattle.cadf_tree.proofs.laws.later_root_vouches.Goals as goal

pub returns-clause-step : goal.returns-clause-step
returns-clause-step c = one

pub returns-clause-chain : goal.returns-clause-chain
returns-clause-chain c = chain
