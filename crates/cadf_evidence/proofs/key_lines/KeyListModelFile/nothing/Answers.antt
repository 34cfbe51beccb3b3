use Rattle.cadf_evidence.proofs.Common.{rising_none}
use Rattle.cadf_evidence.proofs.key_lines.KeyListModelFile.nothing.Goals as goal

pub returns-clause-kept : goal.returns-clause-kept
returns-clause-kept c = (tt, rising_none)
