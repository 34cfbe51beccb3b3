use Rattle.cadf_evidence.proofs.Common.{refl}
use Rattle.cadf_evidence.proofs.KeyFiles.{accepts-keys, keys_is}
use Rattle.cadf_evidence.proofs.laws.keys_are_read_back.Goals as goal

pub returns-clause-keys : goal.returns-clause-keys
returns-clause-keys c = keys_is c.args.keys.now c.type_invariant.ensures.log c.type_invariant.ensures.keys

pub returns-clause-read : goal.returns-clause-read
returns-clause-read c limit short =
    (accepts-keys limit _ c.args.keys.now).1 (refl, short, keys_is c.args.keys.now c.type_invariant.ensures.log c.type_invariant.ensures.keys)
