use Rattle.cadf_evidence.proofs.Common.{refl}
use Rattle.cadf_evidence.proofs.ProofLineLemmas.{accepts-proofs, proof_is}
use Rattle.cadf_evidence.proofs.laws.proof_is_read_back.Goals as goal

pub returns-clause-proof : goal.returns-clause-proof
returns-clause-proof c = proof_is c.args.proof.now c.type_invariant.ensures.log c.type_invariant.ensures.parts

pub returns-clause-read : goal.returns-clause-read
returns-clause-read c limit short =
    (accepts-proofs limit _ c.args.proof.now).1 (refl, short, proof_is c.args.proof.now c.type_invariant.ensures.log c.type_invariant.ensures.parts)
