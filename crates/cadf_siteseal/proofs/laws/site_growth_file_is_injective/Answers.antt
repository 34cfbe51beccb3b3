use Rattle.cadf_siteseal.proofs.TreeItems.{growth_kind}
use Rattle.cadf_siteseal.proofs.SiteLemmas.{sites-tell}
use Rattle.cadf_siteseal.proofs.laws.site_growth_file_is_injective.Goals as goal

pub returns : goal.returns
returns c = sites-tell growth_kind
