use Rattle.cadf_tree.proofs.parts.+summary_of.Given as goal

abbrev pub decreases-summary_of : goal.decreases-summary_of
decreases-summary_of l = l.room
