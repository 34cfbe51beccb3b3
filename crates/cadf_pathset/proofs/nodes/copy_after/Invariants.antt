use Rattle.cadf_pathset.proofs.Common.{◌≡◌, ◌≤◌, ◌++◌, length, reverse, chain_texts, list_at}
use Rattle.cadf_pathset.proofs.nodes.copy_after.Given as goal

abbrev pub invariant-loop-left : goal.invariant-loop-left
invariant-loop-left l = record {
  there : l.at ≤ length l.nodes;
  long : l.left ≡ length (list_at l.nodes l.at);
  enough : l.kept ≤ l.left;
  list : list_at l.nodes l.at ++ chain_texts (reverse l.texts.items) ≡ list_at l.nodes l.node;
}

abbrev pub decreases-loop-left : goal.decreases-loop-left
decreases-loop-left l = l.left
