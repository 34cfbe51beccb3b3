use Rattle.cadf_json.proofs.Spelled.{spelled_is_value}
use Rattle.cadf_json.proofs.laws.bytes_spell_values.Goals as goal

pub returns : goal.returns
returns c = spelled_is_value
