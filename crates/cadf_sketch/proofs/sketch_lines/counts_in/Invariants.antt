use Rattle.cadf_sketch.proofs.Common.{◌≡◌, ◌∷◌, ◌-◌, length, take}
use Rattle.cadf_sketch.proofs.CountLemmas.{AreCounts}
use Rattle.cadf_sketch.proofs.sketch_lines.counts_in.Given as goal

abbrev pub invariant-loop-bit : goal.invariant-loop-bit
invariant-loop-bit l = record {
  so_far : AreCounts (l.digests ∷ take l.bit l.ones) (63 - l.bit) l.rest l.text;
  size : length l.ones ≡ 64;
}
