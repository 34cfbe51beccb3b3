use Rattle.cadf_siteseal.proofs.SealedItems.{seal_kind}
use Rattle.cadf_siteseal.proofs.SiteLemmas.{sites-tell}
use Rattle.cadf_siteseal.proofs.laws.site_seal_file_is_injective.Goals as goal

pub returns : goal.returns
returns c = sites-tell seal_kind
