use Rattle.cadf_pathset.proofs.Common.{◌≤◌, length, map, AllByRecursion, IsStrictlySortedBy, texts_cmp, IsThere, list_at}
use Rattle.cadf_pathset.proofs.sort.is_rising.Given as goal

abbrev pub invariant-loop-rest : goal.invariant-loop-rest
invariant-loop-rest l = record {
  rises : IsStrictlySortedBy texts_cmp (map (list_at l.nodes) l.rest) → IsStrictlySortedBy texts_cmp (map (list_at l.nodes) l.numbers);
  there : AllByRecursion (IsThere l.nodes) l.rest;
  within : length l.rest ≤ length l.numbers;
}

abbrev pub decreases-loop-rest : goal.decreases-loop-rest
decreases-loop-rest l = length l.rest
