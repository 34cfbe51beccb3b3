use Rattle.cadf_listed.proofs.ListLemmas.{accepts-lists}
use Rattle.cadf_listed.proofs.lines.ListedModelFile.accepted.Goals as goal

pub returns : goal.returns
returns g c = accepts-lists g.K.ListKind.header g.K.ListKind.unbroken
