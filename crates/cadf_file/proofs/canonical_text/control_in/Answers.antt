use Rattle.cadf_file.proofs.Common.{common_steps, arith}
use Rattle.cadf_file.proofs.CanonicalTexts.{no_control}
use Rattle.cadf_file.proofs.canonical_text.control_in.Goals as goal

pub returns-then-not-has_backslash-clause-none : goal.returns-then-not-has_backslash-clause-none
returns-then-not-has_backslash-clause-none c none x more low = grind (arith, common_steps, no_control)
