use Rattle.cadf_tree.proofs.Common.{◌≡◌, drop, items, all_beside, fits, walked}
use Rattle.cadf_tree.proofs.growth.all_fit.Given as goal

abbrev pub invariant-loop-part : goal.invariant-loop-part
invariant-loop-part l = all_beside (fits l.rule) (items l.parts) ≡ walked (fits l.rule) l.before (drop l.part-index l.parts)
