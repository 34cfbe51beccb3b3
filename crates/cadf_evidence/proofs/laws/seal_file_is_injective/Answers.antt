use Rattle.cadf_evidence.proofs.SealLemmas.{seal-file-tells}
use Rattle.cadf_evidence.proofs.laws.seal_file_is_injective.Goals as goal

pub returns : goal.returns
returns c = seal-file-tells
