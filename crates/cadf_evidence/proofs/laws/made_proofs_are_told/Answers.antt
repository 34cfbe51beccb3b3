use Rattle.cadf_evidence.proofs.MadeProofs.{facts_proof_is_told, growth_proof_is_told, keys_proof_is_told}
use Rattle.cadf_evidence.proofs.laws.made_proofs_are_told.Goals as goal

pub returns-clause-facts : goal.returns-clause-facts
returns-clause-facts c = facts_proof_is_told c.presence_is_complete.ensures

pub returns-clause-keys : goal.returns-clause-keys
returns-clause-keys c = keys_proof_is_told c.presence_is_complete.ensures

pub returns-clause-growth : goal.returns-clause-growth
returns-clause-growth c = growth_proof_is_told c.growth_is_complete.ensures.accepted
