use Rattle.cadf_sketch.proofs.Common.{◌≡◌, ◌-◌, ◌+◌, ◌*◌, ◌≤◌, length, vec_len, Peels, Awaits, ArePlaces}
use Rattle.cadf_sketch.proofs.peel.peel.Given as goal

abbrev pub invariant-takes : goal.invariant-takes
invariant-takes l = record {
  most : vec_len l.taken ≤ length l.fn.cells;
  length : length l.cells ≡ length l.fn.cells;
  chain : Peels l.layout l.fn.cells l.taken.items l.cells;
  places : ArePlaces (3 * l.layout.size) l.pending.items;
  awaits : Awaits l.layout l.cells l.pending.items;
}

abbrev pub decreases-takes : goal.decreases-takes
decreases-takes l = 3 * (length l.fn.cells - vec_len l.taken) + vec_len l.pending
