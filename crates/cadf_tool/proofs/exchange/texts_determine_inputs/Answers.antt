use Rattle.cadf_tool.proofs.TwoTexts.{texts_tell_both}
use Rattle.cadf_tool.proofs.exchange.texts_determine_inputs.Goals as goal

pub returns : goal.returns
returns c = texts_tell_both
