use Rattle.cadf_tree.proofs.Sorted.{set_rises}
use Rattle.cadf_tree.proofs.tree.root_of.Goals as goal

pub hash_of_tree-requires : goal.hash_of_tree-requires
hash_of_tree-requires c = set_rises c.args.digests.now c.requires
