use Rattle.cadf_pathset.proofs.Common.{◌≡◌, ◌≤◌, ◌<◌, ◌-◌, ℕ, [], length, get_or, map, Less, texts_cmp, Agree}
use Rattle.cadf_pathset.proofs.path_vec.PathVec.seek.Given as goal

abbrev pub invariant-loop-low : goal.invariant-loop-low
invariant-loop-low g l = record {
  within : l.low ≤ l.high;
  ends : l.high ≤ length l.self;
  below : (k : ℕ) → k < l.low → texts_cmp (get_or l.self k []) (map g.W.AsStr.text l.list) ≡ Less;
  above : (k : ℕ) → l.high ≤ k → k < length l.self → texts_cmp (map g.W.AsStr.text l.list) (get_or l.self k []) ≡ Less;
  front : 0 < l.front → (0 < l.low) × Agree l.front (get_or l.self (l.low - 1) []) (map g.W.AsStr.text l.list);
  back : 0 < l.back → (l.high < length l.self) × Agree l.back (get_or l.self l.high []) (map g.W.AsStr.text l.list);
}

abbrev pub decreases-loop-low : goal.decreases-loop-low
decreases-loop-low g l = l.high - l.low
