use Rattle.cadf_evidence.proofs.Common.{◌≡◌, ◌||◌, drop, items, None, Text, is_absent, any_gap}
use Rattle.cadf_evidence.proofs.shown_parts.gaps_of.Given as goal

abbrev pub invariant-loop-part : goal.invariant-loop-part
invariant-loop-part l = (f : Text) → (any_gap l.gaps.items f || is_absent l.before (items (drop l.part-index l.parts)) f) ≡ is_absent None (items l.parts) f
