use Rattle.cadf_siteseal.proofs.Common.{◌≡◌, drop, least, least_of, spare_name}
use Rattle.cadf_siteseal.proofs.judged.first_spare.Given as goal

abbrev pub invariant-loop-item : goal.invariant-loop-item
invariant-loop-item l = least_of (spare_name l.old l.new) l.found (drop l.item-index l.growth) ≡ least (spare_name l.old l.new) l.growth
