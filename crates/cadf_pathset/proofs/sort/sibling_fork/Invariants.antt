use Rattle.cadf_pathset.proofs.Common.{◌≡◌, ◌≤◌, ◌<◌, ◌+◌, ◌++◌, [], ◌∷◌, length, Texts, last_text, list_at}
use Rattle.cadf_pathset.proofs.sort.sibling_fork.Given as goal

abbrev pub invariant-loop-a : goal.invariant-loop-a
invariant-loop-a l = record {
  here : l.a ≤ length l.nodes;
  there : l.b ≤ length l.nodes;
  held : l.ours ≤ length l.nodes;
  known : l.theirs ≤ length l.nodes;
  child : 0 < l.ours → list_at l.nodes l.ours ≡ list_at l.nodes l.a ++ last_text (list_at l.nodes l.ours) ∷ [];
  sibling : 0 < l.theirs → list_at l.nodes l.theirs ≡ list_at l.nodes l.b ++ last_text (list_at l.nodes l.theirs) ∷ [];
  ours : (rest : Texts) × (list_at l.nodes l.node ≡ list_at l.nodes l.ours ++ rest);
  theirs : (rest : Texts) × (list_at l.nodes l.other ≡ list_at l.nodes l.theirs ++ rest);
  above : (rest : Texts) × (list_at l.nodes l.node ≡ list_at l.nodes l.a ++ rest);
  beside : (rest : Texts) × (list_at l.nodes l.other ≡ list_at l.nodes l.b ++ rest);
}

abbrev pub decreases-loop-a : goal.decreases-loop-a
decreases-loop-a l = l.a + l.b
