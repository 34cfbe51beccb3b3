use Rattle.cadf_sketch.proofs.Common.{common_steps, arith, ◌∙◌, ap, bytes_eq-Decides, rising, tally_of, cells_to_ask}
use Rattle.cadf_sketch.proofs.reading.read.Goals as goal

pub returns-then-ne-clause-err : goal.returns-then-ne-clause-err
returns-then-ne-clause-err c = grind (arith, common_steps, bytes_eq-Decides)

pub returns-then-eq-clause-log : goal.returns-then-eq-clause-log
returns-then-eq-clause-log c = grind (arith, common_steps, bytes_eq-Decides)

pub returns-then-eq-clause-digest : goal.returns-then-eq-clause-digest
returns-then-eq-clause-digest c = grind (arith, common_steps, bytes_eq-Decides)

pub returns-clause-err : goal.returns-clause-err
returns-clause-err c =
    let back = c.in_ok-flip.ensures.ok ∙ c.in_ok-taken.ensures.back in (
      record {
        log = grind (arith, common_steps, bytes_eq-Decides);
        theirs = c.flip_peeled.new.own;
        peeled = c.in_ok-taken.ensures.peeled;
        other = grind (arith, common_steps, bytes_eq-Decides);
      },
      c.cells_to_ask.ensures ∙ (λ i. cells_to_ask ((c.tally.ensures ∙ ap (λ s. tally_of (rising s)) back) i) (c.tally-2.ensures i)),
    )
