use Rattle.cadf_pathset.proofs.Common.{◌∷◌, ◌≡◌, ◌≤◌, ◌<◌, ◌-◌, ℕ, true, false, [], length, get_or, is_before}
use Rattle.cadf_join.specs.Sets as set
use Rattle.cadf_pathset.proofs.suffix_set.SuffixSet.binary_search.Given as goal

abbrev pub invariant-loop-low : goal.invariant-loop-low
invariant-loop-low l = record {
  from : l.fn.low ≤ l.low;
  within : l.low ≤ l.high;
  ends : l.high ≤ length (set.rising l.self);
  below : (k : ℕ) → k < l.low → is_before (l.text ∷ []) l.passed (get_or (set.rising l.self) k []) ≡ true;
  above : (k : ℕ) → l.high ≤ k → k < length (set.rising l.self) → is_before (l.text ∷ []) l.passed (get_or (set.rising l.self) k []) ≡ false;
}

abbrev pub decreases-loop-low : goal.decreases-loop-low
decreases-loop-low l = l.high - l.low
