use Rattle.cadf_listed.proofs.Common.{rising_none}
use Rattle.cadf_listed.proofs.lines.ListedModelFile.nothing.Goals as goal

pub returns-clause-kept : goal.returns-clause-kept
returns-clause-kept g c = (tt, rising_none)
