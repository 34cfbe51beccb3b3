use Rattle.cadf_siteseal.proofs.PartsKept.{parts_stay}
use Rattle.cadf_siteseal.proofs.laws.parts_stay.Goals as goal

pub returns : goal.returns
returns c = parts_stay c.told_growth_is_so.ensures c.nothing_goes_unlisted.ensures c.equal_seals_are_of_one_set.ensures
