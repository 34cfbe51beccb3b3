use Rattle.cadf_evidence.proofs.EqualSeals.{equal_seals}
use Rattle.cadf_evidence.proofs.laws.equal_seals_are_of_one_set.Goals as goal

pub returns : goal.returns
returns c = equal_seals c.growth_is_sound.ensures.both
