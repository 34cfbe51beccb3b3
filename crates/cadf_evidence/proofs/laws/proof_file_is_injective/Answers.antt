use Rattle.cadf_evidence.proofs.ProofLineLemmas.{proof-file-tells}
use Rattle.cadf_evidence.proofs.laws.proof_file_is_injective.Goals as goal

pub returns : goal.returns
returns c = proof-file-tells
