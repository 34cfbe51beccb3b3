use Rattle.cadf_tree.proofs.Common.{◌≡◌, ◌+◌, ◌≤◌, length, drop, filter, is_of}
use Rattle.cadf_tree.proofs.parts.number_of.Given as goal

abbrev pub invariant-loop-part : goal.invariant-loop-part
invariant-loop-part l = (l.number + length (filter (is_of l.kind) (drop l.part-index l.parts)) ≡ length (filter (is_of l.kind) l.parts)) × (l.number ≤ l.part-index)
