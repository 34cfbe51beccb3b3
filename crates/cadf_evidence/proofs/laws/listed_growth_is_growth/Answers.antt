use Rattle.cadf_evidence.proofs.MadeProofs.{listed_growth}
use Rattle.cadf_evidence.proofs.laws.listed_growth_is_growth.Goals as goal

pub returns : goal.returns
returns c = listed_growth c.list_over_sets.ensures.facts c.list_over_sets.ensures.keys
