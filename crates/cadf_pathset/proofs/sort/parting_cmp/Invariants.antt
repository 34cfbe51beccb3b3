use Rattle.cadf_pathset.proofs.Common.{◌≡◌, ◌≤◌, length, ordering_then, texts_cmp, IsForkAt, list_at}
use Rattle.cadf_pathset.proofs.sort.parting_cmp.Given as goal

abbrev pub invariant-loop-a : goal.invariant-loop-a
invariant-loop-a l = record {
  ours : l.a ≤ length l.nodes;
  theirs : l.b ≤ length l.nodes;
  long : length (list_at l.nodes l.a) ≡ length (list_at l.nodes l.b);
  order : texts_cmp (list_at l.nodes l.node) (list_at l.nodes l.other)
      ≡ ordering_then (texts_cmp (list_at l.nodes l.a) (list_at l.nodes l.b)) l.found;
  near : IsForkAt l.nodes l.near l.a l.b;
}

abbrev pub decreases-loop-a : goal.decreases-loop-a
decreases-loop-a l = l.a
