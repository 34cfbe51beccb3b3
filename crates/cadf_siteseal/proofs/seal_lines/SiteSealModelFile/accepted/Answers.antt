use Rattle.cadf_siteseal.proofs.SealedItems.{seal_kind}
use Rattle.cadf_siteseal.proofs.SiteLemmas.{accepts-sites}
use Rattle.cadf_siteseal.proofs.seal_lines.SiteSealModelFile.accepted.Goals as goal

pub returns : goal.returns
returns c = accepts-sites seal_kind
