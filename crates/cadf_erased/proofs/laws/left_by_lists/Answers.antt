use Rattle.cadf_erased.proofs.LeftSets.{left-again, left-lists}
use Rattle.cadf_erased.proofs.laws.left_by_lists.Goals as goal

pub returns : goal.returns
returns c = record { again = left-again; both = left-lists }
