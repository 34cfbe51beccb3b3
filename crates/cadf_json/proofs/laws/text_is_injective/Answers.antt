use Rattle.cadf_json.proofs.Texts.{text_tells_apart}
use Rattle.cadf_json.proofs.laws.text_is_injective.Goals as goal

pub returns : goal.returns
returns c = text_tells_apart
