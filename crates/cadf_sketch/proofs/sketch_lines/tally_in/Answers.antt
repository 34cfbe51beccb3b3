use Rattle.cadf_sketch.proofs.Common.{◌∙◌, counts_in_words, prefixed}
use Rattle.cadf_sketch.proofs.sketch_lines.tally_in.Goals as goal

pub returns : goal.returns
returns c = c.counts_in.ensures ∙ prefixed counts_in_words 67 32 c.args.line.now c.in_ok-strip_prefix.field-0.now c.in_ok-strip_prefix.ensures.cases.0 c.in_ok-strip_prefix.ensures.cases.1
