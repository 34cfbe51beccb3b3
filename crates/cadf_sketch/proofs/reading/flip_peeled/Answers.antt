use Rattle.cadf_sketch.proofs.Common.{common_steps, ◌≡◌, ◌*◌, ◌⊎◌, length, subst, arith, apart, flipped, HasNoLone}
use Rattle.cadf_sketch.proofs.FlipLemmas.{apart_twice}
use Rattle.cadf_sketch.proofs.PeelLemmas.{peels_same}
use Rattle.cadf_sketch.proofs.SketchInvariant.{peeled_are}
use Rattle.cadf_sketch.proofs.reading.flip_peeled.Goals as goal

pub of-requires : goal.of-requires
of-requires c = grind (arith, common_steps, peeled_are, peels_same)

pub returns-clause-peeled : goal.returns-clause-peeled
unfolding flipped
returns-clause-peeled c = record {
  taken = c.in_ok-found.found.items;
  rest = c.peel.new.cells;
  chain = grind (arith, common_steps);
  most = grind (arith, common_steps);
  stops = subst (λ l. HasNoLone l c.peel.new.cells ⊎ (length c.in_ok-found.found.items ≡ 3 * l.size)) c.layout-2.ensures.value c.in_ok-found.ensures.stops;
  flips = grind (arith, common_steps);
}

pub returns-clause-back : goal.returns-clause-back
returns-clause-back c = grind (arith, common_steps, apart, apart_twice)
