use Rattle.cadf_evidence.proofs.ToldFacts.{keys_are_so}
use Rattle.cadf_evidence.proofs.laws.told_keys_are_so.Goals as goal

pub returns : goal.returns
returns c = keys_are_so c.presence_is_sound.ensures
