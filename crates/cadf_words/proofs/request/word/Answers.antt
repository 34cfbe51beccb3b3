use Rattle.cadf_words.proofs.Common.{◌∙◌, found_of, first_value-rows}
use Rattle.cadf_words.proofs.Getters.{text_or_none}
use Rattle.cadf_words.proofs.request.word.Goals as goal

pub returns : goal.returns
returns c = text_or_none c.get_str.result _ _ c.unwrap_or_default.ensures (c.get_str.ensures ∙ first_value-rows (found_of c.args.matches.now) c.args.name.now)
