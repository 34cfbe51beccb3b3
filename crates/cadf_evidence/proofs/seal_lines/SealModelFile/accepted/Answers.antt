use Rattle.cadf_evidence.proofs.SealLemmas.{accepts-seals}
use Rattle.cadf_evidence.proofs.seal_lines.SealModelFile.accepted.Goals as goal

pub returns : goal.returns
returns c = accepts-seals
