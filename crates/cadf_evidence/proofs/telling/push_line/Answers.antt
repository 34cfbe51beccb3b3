use Rattle.cadf_evidence.proofs.Common.{rules}
use Rattle.cadf_evidence.proofs.AlikeLines.{line_more}
use Rattle.cadf_evidence.proofs.telling.push_line.Goals as goal

pub returns-then-eq : goal.returns-then-eq
returns-then-eq c = search (rules, line_more)
