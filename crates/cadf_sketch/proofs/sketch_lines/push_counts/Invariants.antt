use Rattle.cadf_sketch.proofs.Common.{◌≡◌, ◌++◌, ◌∷◌, drop, decimal, flat_map}
use Rattle.cadf_sketch.proofs.sketch_lines.push_counts.Given as goal

-- the line so far and the counts that are left are the whole line
abbrev pub invariant-loop-count : goal.invariant-loop-count
invariant-loop-count l =
    l.line.items ++ flat_map (λ m. 32 ∷ decimal m) (drop l.count-index l.counts) ≡ l.fn.line.items ++ flat_map (λ m. 32 ∷ decimal m) l.counts
