use Rattle.cadf_evidence.proofs.Common.{refl}
use Rattle.cadf_evidence.proofs.SealLemmas.{accepts-seals, seal_is}
use Rattle.cadf_evidence.proofs.laws.seal_is_read_back.Goals as goal

pub returns-clause-seal : goal.returns-clause-seal
returns-clause-seal c = seal_is c.args.seal.now c.type_invariant.ensures.log c.type_invariant.ensures.roots

pub returns-clause-read : goal.returns-clause-read
returns-clause-read c limit short =
    (accepts-seals limit _ c.args.seal.now).1 (refl, short, seal_is c.args.seal.now c.type_invariant.ensures.log c.type_invariant.ensures.roots)
