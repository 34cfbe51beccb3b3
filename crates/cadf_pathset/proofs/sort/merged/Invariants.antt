use Rattle.cadf_pathset.proofs.Common.{◌≡◌, ◌++◌, ◌+◌, length, map, true, AllByRecursion, texts_cmp, IsFork, IsThere, list_at, sorted_merge}
use Rattle.cadf_pathset.proofs.sort.merged.Given as goal

abbrev pub invariant-loop-ours : goal.invariant-loop-ours
invariant-loop-ours l = record {
  merged : map (list_at l.nodes) l.all.items ++ sorted_merge texts_cmp true (map (list_at l.nodes) l.ours) (map (list_at l.nodes) l.theirs)
      ≡ sorted_merge texts_cmp true (map (list_at l.nodes) l.a) (map (list_at l.nodes) l.b);
  there : AllByRecursion (IsThere l.nodes) l.all.items;
  ours : AllByRecursion (IsThere l.nodes) l.ours;
  theirs : AllByRecursion (IsThere l.nodes) l.theirs;
  known : IsFork l.nodes l.fork;
}

abbrev pub decreases-loop-ours : goal.decreases-loop-ours
decreases-loop-ours l = length l.ours + length l.theirs
