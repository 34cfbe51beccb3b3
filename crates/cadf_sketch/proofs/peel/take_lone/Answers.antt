use Rattle.cadf_sketch.proofs.Common.{common_steps, arith}
use Rattle.cadf_sketch.proofs.PeelLemmas.{peels_more}
use Rattle.cadf_sketch.proofs.PendingLemmas.{awaits_taken}
use Rattle.cadf_sketch.proofs.peel.take_lone.Goals as goal

pub returns-clause-chain : goal.returns-clause-chain
returns-clause-chain c = grind (arith, common_steps, peels_more)

pub returns-clause-awaits : goal.returns-clause-awaits
returns-clause-awaits c = grind (arith, common_steps, awaits_taken)
