use Rattle.cadf_tool.proofs.SiteLines.{decided}
use Rattle.cadf_tool.proofs.rehearse.are_same.Goals as goal

pub returns : goal.returns
returns c = decided c.same.result c.args.site.now c.args.other.now c.same.ensures
