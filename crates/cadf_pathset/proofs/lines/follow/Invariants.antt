use Rattle.cadf_pathset.proofs.Common.{◌≡◌, ◌+◌, ◌≤◌, length, take, list_at, IsClimb, IsLine, last_node}
use Rattle.cadf_pathset.proofs.lines.follow.Given as goal

abbrev pub invariant-loop-at : goal.invariant-loop-at
invariant-loop-at l = record {
  there : l.at ≤ length l.nodes;
  top : l.top ≡ last_node l.line.items;
  cut : l.line.items ≡ take (length l.line.items) l.fn.line.items;
  climbed : IsClimb l.nodes l.up.items (list_at l.nodes l.node) (length (list_at l.nodes l.at));
  front : list_at l.nodes l.at ≡ take (length (list_at l.nodes l.at)) (list_at l.nodes l.node);
}

abbrev pub decreases-loop-at : goal.decreases-loop-at
decreases-loop-at l = l.at + length l.line.items

abbrev pub invariant-loop-next : goal.invariant-loop-next
invariant-loop-next l = record {
  climbed : IsClimb l.nodes l.up.items (list_at l.nodes l.node) (length l.line.items);
  line : IsLine l.nodes l.line.items (take (length l.line.items) (list_at l.nodes l.node));
}

abbrev pub decreases-loop-next : goal.decreases-loop-next
decreases-loop-next l = length l.up.items
