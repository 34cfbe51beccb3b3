use Rattle.cadf_tree.proofs.Common.{refl}
use Rattle.cadf_tree.proofs.Halving.{halve_code}
use Rattle.cadf_tree.proofs.pruning.left_half.Goals as goal

pub returns : goal.returns
returns c =
    halve_code c.args.digests.now _ _ _ c.number_of_zeros.result c.parting.result c.requires.rising c.requires.several refl refl c.parting.ensures.place c.number_of_zeros.ensures.number
