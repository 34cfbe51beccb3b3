use Rattle.cadf_script.proofs.Common.{common_steps, arith}
use Rattle.cadf_script.proofs.Cuts.{place_of, place_within}
use Rattle.cadf_script.proofs.line.place_of.Goals as goal

pub returns-clause-place : goal.returns-clause-place
returns-clause-place c = grind (arith, common_steps, place_of)

pub returns-clause-within : goal.returns-clause-within
returns-clause-within c = grind (arith, common_steps, place_within)
