use Rattle.cadf.proofs.Common.{rules, sym, ◌∙◌}
use Rattle.cadf.proofs.Words.{not_plain, number_parsed}
use Rattle.cadf.proofs.given.number_given.Goals as goal

pub returns-then-not-is_plain : goal.returns-then-not-is_plain
returns-then-not-is_plain c = sym (not_plain c.args.word.now (search rules))

pub returns : goal.returns
returns c = c.ok.ensures.value ∙ number_parsed c.args.word.now c.parse.result (search rules) c.parse.ensures.value.0
