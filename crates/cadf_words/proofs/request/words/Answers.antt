use Rattle.cadf_words.proofs.Common.{◌∙◌, found_of, raw_values-rows}
use Rattle.cadf_words.proofs.Getters.{texts_or_none}
use Rattle.cadf_words.proofs.request.words.Goals as goal

pub returns : goal.returns
returns c = texts_or_none c.get_strs.result _ _ c.unwrap_or_default.ensures (c.get_strs.ensures ∙ raw_values-rows (found_of c.args.matches.now) c.args.name.now)
