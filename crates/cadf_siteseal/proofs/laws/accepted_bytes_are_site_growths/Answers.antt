use Rattle.cadf_siteseal.proofs.TreeItems.{growth_kind}
use Rattle.cadf_siteseal.proofs.SiteLemmas.{accepts-sites}
use Rattle.cadf_siteseal.proofs.laws.accepted_bytes_are_site_growths.Goals as goal

pub returns : goal.returns
returns c = accepts-sites growth_kind
