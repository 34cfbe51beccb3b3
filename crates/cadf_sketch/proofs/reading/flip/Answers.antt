use Rattle.cadf_sketch.proofs.Common.{common_steps, arith}
use Rattle.cadf_sketch.proofs.FlipLemmas.{apart-insert, apart-remove, flipped_in_turn, flipped_in_turn_is}
use Rattle.cadf_sketch.proofs.reading.flip.Goals as goal

pub loop-digest-preserved : goal.loop-digest-preserved
loop-digest-preserved c = grind (arith, common_steps, apart-insert)

pub loop-digest-preserved-then-has : goal.loop-digest-preserved-then-has
loop-digest-preserved-then-has c = grind (arith, common_steps, apart-remove)

pub returns-clause-ok : goal.returns-clause-ok
returns-clause-ok c = grind (arith, common_steps, flipped_in_turn, flipped_in_turn_is)
