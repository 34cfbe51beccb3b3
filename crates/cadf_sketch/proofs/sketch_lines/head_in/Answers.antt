use Rattle.cadf_sketch.proofs.Common.{common_steps, ◌∙◌, arith, head_in_words, prefixed}
use Rattle.cadf_sketch.proofs.LineLemmas.{head_uncut, head_uncut_twice, no_layout, no_last, head_read}
use Rattle.cadf_sketch.proofs.sketch_lines.head_in.Goals as goal

pub returns-in_err-cells : goal.returns-in_err-cells
returns-in_err-cells c = grind (arith, common_steps, head_uncut)

pub returns-in_err-salt : goal.returns-in_err-salt
returns-in_err-salt c = grind (arith, common_steps, head_uncut_twice)

pub returns-in_err-layout : goal.returns-in_err-layout
returns-in_err-layout c = grind (arith, common_steps, no_layout)

pub returns-in_err-digest : goal.returns-in_err-digest
returns-in_err-digest c = grind (arith, common_steps, no_last)

pub returns : goal.returns
returns c =
    head_read _ _ _ _ _ c.in_ok-cells.ensures.cut.0 c.in_ok-cells.ensures.cut.1 c.in_ok-salt.ensures.cut.0 c.in_ok-salt.ensures.cut.1 _ _ c.in_ok-layout.ensures c.in_ok-digest.ensures
    ∙ prefixed head_in_words 83 32 c.args.line.now c.in_ok-words.words.now c.in_ok-words.ensures.cases.0 c.in_ok-words.ensures.cases.1
