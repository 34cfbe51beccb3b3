use Rattle.cadf_siteseal.proofs.Common.{refl}
use Rattle.cadf_siteseal.proofs.TreeItems.{growth_kind}
use Rattle.cadf_siteseal.proofs.SiteLemmas.{accepts-sites, site_is}
use Rattle.cadf_siteseal.proofs.laws.site_growth_is_read_back.Goals as goal

pub returns-clause-growth : goal.returns-clause-growth
returns-clause-growth c = site_is growth_kind c.args.growth.now c.type_invariant.ensures.log c.type_invariant.ensures.items

pub returns-clause-read : goal.returns-clause-read
returns-clause-read c limit short =
    (accepts-sites growth_kind limit _ c.args.growth.now).1
    (refl, short, site_is growth_kind c.args.growth.now c.type_invariant.ensures.log c.type_invariant.ensures.items)
