use Rattle.cadf_pathset.proofs.Common.{◌≡◌, ◌≤◌, ◌+◌, ◌++◌, length, Texts, list_at}
use Rattle.cadf_pathset.proofs.nodes.common_depth.Given as goal

abbrev pub invariant-loop-a : goal.invariant-loop-a
invariant-loop-a l = record {
  here : l.a ≤ length l.nodes;
  there : l.b ≤ length l.nodes;
  above : (rest : Texts) × (list_at l.nodes l.node ≡ list_at l.nodes l.a ++ rest);
  beside : (rest : Texts) × (list_at l.nodes l.other ≡ list_at l.nodes l.b ++ rest);
}

abbrev pub decreases-loop-a : goal.decreases-loop-a
decreases-loop-a l = l.a + l.b
