use Rattle.cadf_pathset.proofs.Common.{◌≡◌, ◌≤◌, ◌++◌, length, Texts, list_at}
use Rattle.cadf_pathset.proofs.sort.goes_on.Given as goal

abbrev pub invariant-loop-at : goal.invariant-loop-at
invariant-loop-at l = record {
  there : l.at ≤ length l.nodes;
  begins : (rest : Texts) × (list_at l.nodes l.node ≡ list_at l.nodes l.at ++ rest);
}

abbrev pub decreases-loop-at : goal.decreases-loop-at
decreases-loop-at l = l.at
