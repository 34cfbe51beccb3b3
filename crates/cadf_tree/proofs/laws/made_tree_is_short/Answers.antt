use Rattle.cadf_tree.proofs.Measuring.{short, short_growth, short_presence}
use Rattle.cadf_tree.proofs.laws.made_tree_is_short.Goals as goal

pub returns-clause-tree : goal.returns-clause-tree
returns-clause-tree c = short

pub returns-clause-presence : goal.returns-clause-presence
returns-clause-presence c = short_presence

pub returns-clause-growth : goal.returns-clause-growth
returns-clause-growth c = short_growth
