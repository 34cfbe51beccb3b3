use Rattle.cadf_tree.proofs.Common.{◌≡◌, drop, items, first_changed}
use Rattle.cadf_tree.proofs.growth.next_changed.Given as goal

abbrev pub invariant-loop-part : goal.invariant-loop-part
invariant-loop-part l = first_changed (items l.parts) ≡ first_changed (items (drop l.part-index l.parts))
