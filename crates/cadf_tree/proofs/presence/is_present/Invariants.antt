use Rattle.cadf_tree.proofs.Common.{◌≡◌, drop, items, is_present}
use Rattle.cadf_tree.proofs.presence.is_present.Given as goal

abbrev pub invariant-loop-part : goal.invariant-loop-part
invariant-loop-part l = is_present (items l.parts) l.digest ≡ is_present (items (drop l.part-index l.parts)) l.digest
