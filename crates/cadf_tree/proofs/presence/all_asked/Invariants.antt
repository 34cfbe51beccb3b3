use Rattle.cadf_tree.proofs.Common.{◌≡◌, drop, None, items, all_asked}
use Rattle.cadf_tree.proofs.presence.all_asked.Given as goal

abbrev pub invariant-loop-index : goal.invariant-loop-index
invariant-loop-index l = all_asked None (items l.parts) l.digests ≡ all_asked l.before (items (drop l.index l.parts)) l.digests
