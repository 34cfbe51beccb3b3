use Rattle.cadf_tree.proofs.Common.{◌≡◌, drop, items, first_part}
use Rattle.cadf_tree.proofs.presence.first_part.Given as goal

abbrev pub invariant-loop-part : goal.invariant-loop-part
invariant-loop-part l = first_part (items l.parts) ≡ first_part (items (drop l.part-index l.parts))
