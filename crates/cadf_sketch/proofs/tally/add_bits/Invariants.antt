use Rattle.cadf_sketch.proofs.TallyLemmas.{HasBitsBelow}
use Rattle.cadf_sketch.proofs.tally.add_bits.Given as goal

abbrev pub invariant-loop-place : goal.invariant-loop-place
invariant-loop-place l = HasBitsBelow l.place l.fn.ones l.ones l.word
