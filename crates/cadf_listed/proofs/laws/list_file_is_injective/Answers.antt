use Rattle.cadf_listed.proofs.ListLemmas.{list-file-tells}
use Rattle.cadf_listed.proofs.laws.list_file_is_injective.Goals as goal

pub returns : goal.returns
returns c = list-file-tells
