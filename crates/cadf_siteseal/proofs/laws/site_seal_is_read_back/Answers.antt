use Rattle.cadf_siteseal.proofs.Common.{refl}
use Rattle.cadf_siteseal.proofs.SealedItems.{seal_kind}
use Rattle.cadf_siteseal.proofs.SiteLemmas.{accepts-sites, site_is}
use Rattle.cadf_siteseal.proofs.laws.site_seal_is_read_back.Goals as goal

pub returns-clause-seal : goal.returns-clause-seal
returns-clause-seal c = site_is seal_kind c.args.seal.now c.type_invariant.ensures.log c.type_invariant.ensures.items

pub returns-clause-read : goal.returns-clause-read
returns-clause-read c limit short =
    (accepts-sites seal_kind limit _ c.args.seal.now).1
    (refl, short, site_is seal_kind c.args.seal.now c.type_invariant.ensures.log c.type_invariant.ensures.items)
