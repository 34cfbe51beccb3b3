use Rattle.cadf_sketch.proofs.Common.{◌≡◌, ◌∙◌, ap, arith, squares}
use Rattle.cadf_sketch.proofs.tally.squares.Goals as goal

pub returns-clause-value : goal.returns-clause-value
returns-clause-value c =
    let all : c.loop-bit.bit ≡ 64 = omega (arith, c.loop-bit-test.false, c.loop-bit.auto.bit-end) in
    c.loop-bit.invariant.0 ∙ ap (squares c.args.ours.now c.args.theirs.now) all
