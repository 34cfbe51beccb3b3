use Rattle.cadf_pathset.proofs.Common.{◌≡◌, ◌≤◌, length, take, list_at}
use Rattle.cadf_pathset.proofs.nodes.ancestor.Given as goal

abbrev pub invariant-loop-depth : goal.invariant-loop-depth
invariant-loop-depth l = record {
  there : l.at ≤ length l.nodes;
  long : l.depth ≡ length (list_at l.nodes l.at);
  list : take l.wanted (list_at l.nodes l.at) ≡ take l.wanted (list_at l.nodes l.node);
}

abbrev pub decreases-loop-depth : goal.decreases-loop-depth
decreases-loop-depth l = l.depth
