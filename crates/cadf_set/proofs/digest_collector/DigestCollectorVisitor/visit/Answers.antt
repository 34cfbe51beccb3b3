use Rattle.cadf_set.proofs.Common.{common_steps, arith}
use Rattle.cadf_set.proofs.digest_collector.DigestCollectorVisitor.visit.Goals as goal

pub returns : goal.returns
returns c = grind (arith, common_steps)
