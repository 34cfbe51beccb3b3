use Rattle.cadf_erased.proofs.LeftSets.{left_exactly, no_key_left, others_are_left}
use Rattle.cadf_erased.proofs.laws.left_is_what_is_not_omitted.Goals as goal

pub returns : goal.returns
returns c = record { atoms = left_exactly; keys = no_key_left; others = others_are_left }
