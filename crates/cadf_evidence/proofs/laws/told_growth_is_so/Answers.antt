use Rattle.cadf_evidence.proofs.GrownSets.{growth_is_so}
use Rattle.cadf_evidence.proofs.laws.told_growth_is_so.Goals as goal

pub returns : goal.returns
returns c = growth_is_so c.growth_is_sound.ensures.both
