use Rattle.cadf_siteseal.proofs.Common.{◌≡◌, drop, least, least_of, lacking_name}
use Rattle.cadf_siteseal.proofs.judged.first_lacking.Given as goal

abbrev pub invariant-loop-item : goal.invariant-loop-item
invariant-loop-item l = least_of (lacking_name l.new l.growth) l.found (drop l.item-index l.old) ≡ least (lacking_name l.new l.growth) l.old
