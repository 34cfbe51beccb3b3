use Rattle.cadf_pathset.proofs.Common.{◌≡◌, ◌≤◌, length, take, list_at}
use Rattle.cadf_pathset.proofs.compare.same_list.Given as goal

abbrev pub invariant-loop-left : goal.invariant-loop-left
invariant-loop-left l = record {
  ours : l.a ≤ length l.nodes;
  theirs : l.b ≤ length l.others;
  left : l.left ≡ length (list_at l.nodes l.a);
  long : l.left ≡ length (list_at l.others l.b);
  front : list_at l.nodes l.a ≡ take l.left (list_at l.nodes l.node);
  behind : list_at l.others l.b ≡ take l.left (list_at l.others l.other);
  same : list_at l.nodes l.a ≡ list_at l.others l.b → list_at l.nodes l.node ≡ list_at l.others l.other;
  back : list_at l.nodes l.node ≡ list_at l.others l.other → list_at l.nodes l.a ≡ list_at l.others l.b;
}

abbrev pub decreases-loop-left : goal.decreases-loop-left
decreases-loop-left l = l.left
