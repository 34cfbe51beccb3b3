use Rattle.cadf_pathset.proofs.Common.{common_steps, ◌∙◌, ap, arith, texts_at, suffixes_after}
use Rattle.cadf_pathset.proofs.Behind.{after_first}
use Rattle.cadf_pathset.proofs.path_set.PathSet.suffix_set.Goals as goal

pub loop-text-init : goal.loop-text-init
loop-text-init c = ap (λ s. suffixes_after s (texts_at c.args.prefix.now)) (c.whole-suffixes.ensures ∙ c.self.view_is)

pub loop-text-preserved : goal.loop-text-preserved
loop-text-preserved c = grind (arith, common_steps, after_first)
