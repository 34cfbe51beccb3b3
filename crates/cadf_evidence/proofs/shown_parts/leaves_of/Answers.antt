use Rattle.cadf_evidence.proofs.Common.{ap}
use Rattle.cadf_evidence.proofs.LeafSets.{none_yet}
use Rattle.cadf_evidence.proofs.shown_parts.leaves_of.Goals as goal

pub loop-part-init : goal.loop-part-init
loop-part-init c = none_yet c.new-leaves.result.digests c.args.parts.now (ap (λ i. i.digests) c.new-leaves.ensures)
