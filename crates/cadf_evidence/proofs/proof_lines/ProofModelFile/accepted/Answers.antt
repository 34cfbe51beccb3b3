use Rattle.cadf_evidence.proofs.ProofLineLemmas.{accepts-proofs}
use Rattle.cadf_evidence.proofs.proof_lines.ProofModelFile.accepted.Goals as goal

pub returns : goal.returns
returns c = accepts-proofs
