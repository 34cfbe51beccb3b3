use Rattle.cadf_listed.proofs.ListLemmas.{accepts-lists}
use Rattle.cadf_listed.proofs.laws.accepted_bytes_are_lists.Goals as goal

pub returns : goal.returns
returns c = accepts-lists
