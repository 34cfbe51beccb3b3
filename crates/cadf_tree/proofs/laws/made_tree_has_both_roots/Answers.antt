use Rattle.cadf_tree.proofs.Making.{made_read, made_roots}
use Rattle.cadf_tree.proofs.laws.made_tree_has_both_roots.Goals as goal

pub returns-clause-read : goal.returns-clause-read
returns-clause-read c = made_read

pub returns-clause-roots : goal.returns-clause-roots
returns-clause-roots c = made_roots
