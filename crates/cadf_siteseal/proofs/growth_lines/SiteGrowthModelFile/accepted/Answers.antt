use Rattle.cadf_siteseal.proofs.TreeItems.{growth_kind}
use Rattle.cadf_siteseal.proofs.SiteLemmas.{accepts-sites}
use Rattle.cadf_siteseal.proofs.growth_lines.SiteGrowthModelFile.accepted.Goals as goal

pub returns : goal.returns
returns c = accepts-sites growth_kind
