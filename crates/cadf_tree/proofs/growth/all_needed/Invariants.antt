use Rattle.cadf_tree.proofs.Common.{◌≡◌, false, drop, items, all_needed}
use Rattle.cadf_tree.proofs.growth.all_needed.Given as goal

abbrev pub invariant-loop-index : goal.invariant-loop-index
invariant-loop-index l = all_needed false (items l.parts) ≡ all_needed l.before (items (drop l.index l.parts))
