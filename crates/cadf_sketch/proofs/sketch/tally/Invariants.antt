use Rattle.cadf_sketch.proofs.Common.{◌≡◌, rising, tallied_all, tally_of}
use Rattle.cadf_sketch.proofs.sketch.tally.Given as goal

abbrev pub invariant-loop-digest : goal.invariant-loop-digest
invariant-loop-digest l = tallied_all l.tally l.digest-iterator ≡ tally_of (rising l.inventory.digests)
