use Rattle.cadf_pathset.proofs.Common.{◌≡◌, ◌++◌, ◌+◌, length, texts_cmp, Agree, lists_ahead, sorted_without}
use Rattle.cadf_pathset.proofs.copier.copy_lacking.Given as goal

abbrev pub invariant-loop-more : goal.invariant-loop-more
invariant-loop-more l = record {
  left : l.ours.1 ++ sorted_without texts_cmp (lists_ahead l.more l.ours.0) (lists_ahead l.others l.theirs) ≡ l.fn.ours.1 ++ sorted_without texts_cmp l.fn.ours.0.1 l.fn.theirs.1;
  agrees : Agree l.agreed l.theirs.0 l.ours.0.0;
}

abbrev pub decreases-loop-more : goal.decreases-loop-more
decreases-loop-more l = length (lists_ahead l.more l.ours.0) + length (lists_ahead l.others l.theirs)

abbrev pub invariant-loop-more-2 : goal.invariant-loop-more-2
invariant-loop-more-2 l = l.ours.1 ++ lists_ahead l.more l.ours.0 ≡ l.fn.ours.1 ++ sorted_without texts_cmp l.fn.ours.0.1 l.fn.theirs.1

abbrev pub decreases-loop-more-2 : goal.decreases-loop-more-2
decreases-loop-more-2 l = length (lists_ahead l.more l.ours.0)
