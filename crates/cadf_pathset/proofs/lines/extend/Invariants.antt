use Rattle.cadf_pathset.proofs.Common.{◌≡◌, ◌-◌, length, map, take, IsLine}
use Rattle.cadf_pathset.proofs.lines.extend.Given as goal

abbrev pub invariant-loop-nodes : goal.invariant-loop-nodes
invariant-loop-nodes g l = record {
  kept : take (length l.fn.nodes) l.nodes ≡ l.fn.nodes;
  line : IsLine l.nodes l.line.items (take (length l.line.items) (map g.W.AsStr.text l.path));
}

abbrev pub decreases-loop-nodes : goal.decreases-loop-nodes
decreases-loop-nodes g l = length l.path - length l.line.items
