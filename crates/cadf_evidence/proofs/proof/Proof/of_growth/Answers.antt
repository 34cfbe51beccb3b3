use Rattle.cadf_evidence.proofs.SetsOfDigests.{listed_are_set}
use Rattle.cadf_evidence.proofs.proof.Proof.of_growth.Goals as goal

pub growth_parts-requires : goal.growth_parts-requires
growth_parts-requires c = listed_are_set c.in_ok-facts.field-0.items c.in_ok-facts.ensures.set

pub growth_parts-requires-2 : goal.growth_parts-requires-2
growth_parts-requires-2 c = listed_are_set c.in_ok-keys.field-0.items c.in_ok-keys.ensures.set

pub invariant_of-result : goal.invariant_of-result
invariant_of-result c = record { facts = c.in_ok-fact_parts.ensures.form; keys = c.in_ok-key_parts.ensures.form }
