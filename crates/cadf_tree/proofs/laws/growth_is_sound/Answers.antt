use Rattle.cadf_tree.proofs.Differing.{both, earlier, later}
use Rattle.cadf_tree.proofs.laws.growth_is_sound.Goals as goal

pub returns-clause-both : goal.returns-clause-both
returns-clause-both c = both

pub returns-clause-earlier : goal.returns-clause-earlier
returns-clause-earlier c = earlier

pub returns-clause-later : goal.returns-clause-later
returns-clause-later c = later
