use Rattle.cadf_tree.proofs.Common.{◌≡◌, drop, None, items, is_absent}
use Rattle.cadf_tree.proofs.presence.is_absent.Given as goal

abbrev pub invariant-loop-part : goal.invariant-loop-part
invariant-loop-part l = is_absent None (items l.parts) l.digest ≡ is_absent l.before (items (drop l.part-index l.parts)) l.digest
