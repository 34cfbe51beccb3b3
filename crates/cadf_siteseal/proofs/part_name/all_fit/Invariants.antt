use Rattle.cadf_siteseal.proofs.Common.{◌≡◌, drop, all_fit}
use Rattle.cadf_siteseal.proofs.part_name.all_fit.Given as goal

abbrev pub invariant-loop-index : goal.invariant-loop-index
invariant-loop-index l = all_fit (drop l.index l.pattern) (drop l.index l.text) ≡ all_fit l.pattern l.text
