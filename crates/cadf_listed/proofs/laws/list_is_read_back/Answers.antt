use Rattle.cadf_listed.proofs.Common.{refl}
use Rattle.cadf_listed.proofs.ListLemmas.{accepts-lists, list_is}
use Rattle.cadf_listed.proofs.laws.list_is_read_back.Goals as goal

pub returns-clause-list : goal.returns-clause-list
returns-clause-list g c = list_is c.args.list.now c.type_invariant.ensures.log c.type_invariant.ensures.names

pub returns-clause-read : goal.returns-clause-read
returns-clause-read g c limit short =
    (accepts-lists g.K.ListKind.header g.K.ListKind.unbroken limit _ c.args.list.now).1
    (refl, short, list_is c.args.list.now c.type_invariant.ensures.log c.type_invariant.ensures.names)
