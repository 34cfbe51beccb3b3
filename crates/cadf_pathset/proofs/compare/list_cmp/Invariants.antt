use Rattle.cadf_pathset.proofs.Common.{◌≡◌, ◌≤◌, length, map, take, ordering_then, texts_cmp, Agree, list_at, shared}
use Rattle.cadf_pathset.proofs.compare.list_cmp.Given as goal

abbrev pub invariant-loop-depth : goal.invariant-loop-depth
invariant-loop-depth g l = record {
  there : l.at ≤ length l.nodes;
  long : l.depth ≡ length (list_at l.nodes l.at);
  fits : l.depth ≤ length l.list;
  order : texts_cmp (list_at l.nodes l.node) (map g.W.AsStr.text l.list)
      ≡ ordering_then (texts_cmp (list_at l.nodes l.at) (take l.depth (map g.W.AsStr.text l.list))) l.found;
  front : list_at l.nodes l.at ≡ take l.depth (list_at l.nodes l.node);
  shares : Agree l.depth (list_at l.nodes l.node) (map g.W.AsStr.text l.list) → l.agreed ≡ shared (list_at l.nodes l.node) (map g.W.AsStr.text l.list);
}

abbrev pub decreases-loop-depth : goal.decreases-loop-depth
decreases-loop-depth g l = l.depth
