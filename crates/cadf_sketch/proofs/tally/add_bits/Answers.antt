use Rattle.cadf_sketch.proofs.Common.{common_steps, ◌≡◌, ◌-◌, ◌+◌, ◌/◌, ◌%◌, ◌^◌, ℕ, length, get_or, set, subst, arith}
use Rattle.cadf_sketch.proofs.TallyLemmas.{HasBitsBelow, one_more_bit, all_bits}
use Rattle.cadf_sketch.proofs.tally.add_bits.Goals as goal

pub loop-place-preserved : goal.loop-place-preserved
loop-place-preserved c =
    let place = c.loop-place.place in
    let old = c.args.ones.now in
    let w = c.args.word in
    let at : length old - 1 - place ≡ 63 - place = omega (arith, c.told-ones) in
    subst (λ (e : ℕ). HasBitsBelow (place + 1) old (set c.loop-place.ones place ((get_or c.loop-place.ones place 0 + w / 2 ^ e % 2) % 2 ^ 64)) w) at
    (one_more_bit place old c.loop-place.ones w (omega (arith, c.told-ones, c.loop-place-test.true)) c.loop-place.invariant)

pub returns : goal.returns
returns c = grind (arith, common_steps, all_bits)
