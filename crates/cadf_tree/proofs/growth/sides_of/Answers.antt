use Rattle.cadf_tree.proofs.Walking.{sides_read}
use Rattle.cadf_tree.proofs.growth.sides_of.Goals as goal

pub returns-in-len1-up : goal.returns-in-len1-up
returns-in-len1-up c = sides_read _ _ _ c.in-len1-up.len_at_least c.summary_of.ensures c.whole_sides.ensures
