use Rattle.cadf_pathset.proofs.Common.{◌∷◌, ◌≡◌, ◌≤◌, ◌<◌, ◌-◌, ℕ, true, [], length, get_or, is_before}
use Rattle.cadf_join.specs.Sets as set
use Rattle.cadf_pathset.proofs.suffix_set.SuffixSet.gallop.Given as goal

abbrev pub invariant-loop-step : goal.invariant-loop-step
invariant-loop-step l = record {
  from : l.from ≤ l.low;
  within : l.low ≤ length (set.rising l.self);
  some : 1 ≤ l.step;
  below : (k : ℕ) → k < l.low → is_before (l.text ∷ []) true (get_or (set.rising l.self) k []) ≡ true;
}

abbrev pub decreases-loop-step : goal.decreases-loop-step
decreases-loop-step l = length (set.rising l.self) - l.low
