use Rattle.cadf_pathset.proofs.Common.{◌≡◌, ◌+◌, ◌≤◌, length, list_at}
use Rattle.cadf_pathset.proofs.nodes.depth.Given as goal

abbrev pub invariant-loop-at : goal.invariant-loop-at
invariant-loop-at l = record {
  there : l.at ≤ length l.nodes;
  rest : l.depth + length (list_at l.nodes l.at) ≡ length (list_at l.nodes l.node);
  small : l.depth + l.at ≤ l.node;
}

abbrev pub decreases-loop-at : goal.decreases-loop-at
decreases-loop-at l = l.at
