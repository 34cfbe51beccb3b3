use Rattle.cadf_tree.proofs.Sorted.{set_rises}
use Rattle.cadf_tree.proofs.pruning.parts_of.Goals as goal

pub push_parts-requires-clause-rising : goal.push_parts-requires-clause-rising
push_parts-requires-clause-rising c = set_rises c.args.digests.now c.requires.digests
