use Rattle.cadf_evidence.proofs.KeyFiles.{accepts-keys}
use Rattle.cadf_evidence.proofs.key_lines.KeyListModelFile.accepted.Goals as goal

pub returns : goal.returns
returns c = accepts-keys
