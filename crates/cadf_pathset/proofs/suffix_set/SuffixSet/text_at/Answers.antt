use Rattle.cadf_pathset.proofs.Common.{common_steps, arith}
use Rattle.cadf_pathset.proofs.Suffixes.{first_or_none}
use Rattle.cadf_pathset.proofs.suffix_set.SuffixSet.text_at.Goals as goal

pub returns : goal.returns
returns c = grind (arith, common_steps, first_or_none)
