use Rattle.cadf_sketch.proofs.Common.{◌≡◌, ◌≤◌, ◌*◌, ◌^◌, squares}
use Rattle.cadf_sketch.proofs.tally.squares.Given as goal

abbrev pub invariant-loop-bit : goal.invariant-loop-bit
invariant-loop-bit l = (l.sum ≡ squares l.ours l.theirs l.bit) × (l.sum ≤ l.bit * 2 ^ 48)
