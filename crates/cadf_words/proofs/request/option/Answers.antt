use Rattle.cadf_words.proofs.Common.{◌∙◌, found_of, first_value-rows}
use Rattle.cadf_words.proofs.request.option.Goals as goal

pub returns : goal.returns
returns c = c.get_str.ensures ∙ first_value-rows (found_of c.args.matches.now) c.args.name.now
