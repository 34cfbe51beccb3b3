use Rattle.cadf_file.proofs.Common.{common_steps, arith}
use Rattle.cadf_file.proofs.CanonicalTexts.{short_escape, long_escape}
use Rattle.cadf_file.proofs.canonical_text.escape_in.Goals as goal

pub returns-then-letter-gt0-clause-same : goal.returns-then-letter-gt0-clause-same
returns-then-letter-gt0-clause-same c = grind (arith, common_steps, short_escape)

pub returns-clause-same : goal.returns-clause-same
returns-clause-same c = grind (arith, common_steps, long_escape)
