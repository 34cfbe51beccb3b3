use Rattle.cadf_evidence.proofs.KeyFiles.{keys-file-tells}
use Rattle.cadf_evidence.proofs.laws.keys_file_is_injective.Goals as goal

pub returns : goal.returns
returns c = keys-file-tells
