use Rattle.cadf_evidence.proofs.proof.Proof.of.Goals as goal

pub invariant_of-result : goal.invariant_of-result
invariant_of-result c = record { facts = c.in_ok-parts.ensures.form; keys = tt }
