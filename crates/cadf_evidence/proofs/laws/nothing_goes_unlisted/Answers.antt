use Rattle.cadf_evidence.proofs.GrownSets.{nothing_unlisted}
use Rattle.cadf_evidence.proofs.laws.nothing_goes_unlisted.Goals as goal

pub returns : goal.returns
returns c = nothing_unlisted
