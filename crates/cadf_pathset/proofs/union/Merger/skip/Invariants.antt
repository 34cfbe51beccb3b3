use Rattle.cadf_pathset.proofs.Common.{◌≡◌, ◌≤◌, ◌<◌, ◌-◌, ℕ, [], length, get_or, texts_at, Less, texts_cmp, lists_at}
use Rattle.cadf_pathset.proofs.union.Merger.skip.Given as goal

abbrev pub invariant-loop-step : goal.invariant-loop-step
invariant-loop-step l = record {
  behind : l.at ≤ l.low;
  within : l.low ≤ length l.numbers;
  some : 0 < l.step;
  below : (k : ℕ) → l.at ≤ k → k < l.low → texts_cmp (get_or (lists_at l.nodes l.numbers) k []) (texts_at l.path) ≡ Less;
}

abbrev pub decreases-loop-step : goal.decreases-loop-step
decreases-loop-step l = length l.numbers - l.low
