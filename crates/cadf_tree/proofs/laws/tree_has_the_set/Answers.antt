use Rattle.cadf_tree.proofs.Sorted.{leaves_are}
use Rattle.cadf_tree.proofs.laws.tree_has_the_set.Goals as goal

pub returns : goal.returns
returns c = leaves_are
