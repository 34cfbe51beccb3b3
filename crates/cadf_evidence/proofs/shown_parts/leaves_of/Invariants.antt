use Rattle.cadf_evidence.proofs.Common.{◌≡◌, ◌||◌, drop, items, Text, is_present}
use Rattle.cadf_join.specs.Sets as set
use Rattle.cadf_evidence.proofs.shown_parts.leaves_of.Given as goal

abbrev pub invariant-loop-part : goal.invariant-loop-part
invariant-loop-part l = (f : Text) → (set.contains l.leaves.digests f || is_present (items (drop l.part-index l.parts)) f) ≡ is_present (items l.parts) f
