use Rattle.cadf_sketch.proofs.Common.{rules, replicate, refl, get_or-replicate, rising, sketch_of, tally_of}
use Rattle.cadf_sketch.proofs.TallyLemmas.{tallied_digests, tallied_ones}
use Rattle.cadf_sketch.proofs.laws.counts_are_of_the_digests.Goals as goal

pub returns-clause-digests : goal.returns-clause-digests
unfolding sketch_of tally_of
returns-clause-digests c = λ n layout. tallied_digests (record { digests = 0; ones = replicate 64 0 }) (rising n.digests) refl

pub returns-clause-ones : goal.returns-clause-ones
unfolding sketch_of tally_of
returns-clause-ones c = search (rules, tallied_ones, get_or-replicate)
