use Rattle.cadf_sketch.proofs.Common.{◌≡◌}
use Rattle.cadf_join.specs.Sets as set
use Rattle.cadf_sketch.proofs.FlipLemmas.{flipped_in_turn}
use Rattle.cadf_sketch.proofs.reading.flip.Given as goal

abbrev pub invariant-loop-digest : goal.invariant-loop-digest
invariant-loop-digest l =
    (l.inventory.log ≡ l.fn.inventory.log)
    × (flipped_in_turn l.inventory.digests l.digest-iterator ≡ flipped_in_turn l.fn.inventory.digests (set.rising l.taken.digests))
