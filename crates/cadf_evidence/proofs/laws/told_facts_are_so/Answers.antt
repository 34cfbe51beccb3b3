use Rattle.cadf_evidence.proofs.ToldFacts.{facts_are_so}
use Rattle.cadf_evidence.proofs.laws.told_facts_are_so.Goals as goal

pub returns : goal.returns
returns c = facts_are_so c.presence_is_sound.ensures
