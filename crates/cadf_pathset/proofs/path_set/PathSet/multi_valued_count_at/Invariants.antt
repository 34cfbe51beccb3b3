use Rattle.cadf_pathset.proofs.Common.{◌≡◌, ◌+◌, ◌≤◌, length, filter, saturated, texts_at, multi_valued_keys, sections_from, suffixes_after}
use Rattle.cadf_pathset.proofs.Several.{has_two}
use Rattle.cadf_pathset.proofs.path_set.PathSet.multi_valued_count_at.Given as goal

abbrev pub invariant-loop-next : goal.invariant-loop-next
invariant-loop-next l = record {
  to_come : saturated (l.count + length (filter has_two (sections_from l.next)))
      ≡ saturated (length (multi_valued_keys (suffixes_after l.self (texts_at l.prefix))));
  small : l.count ≤ 18446744073709551615;
}

abbrev pub decreases-loop-next : goal.decreases-loop-next
decreases-loop-next l = length (sections_from l.next)
