use Rattle.cadf_tree.proofs.Asking.{complete}
use Rattle.cadf_tree.proofs.laws.presence_is_complete.Goals as goal

pub returns : goal.returns
returns c = complete
