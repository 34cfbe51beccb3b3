use Rattle.cadf_linefile.proofs.Common.{common_steps, arith}
use Rattle.cadf_linefile.proofs.WritingLemmas.{on_ok, on_err}
use Rattle.cadf_linefile.proofs.model_file.write_model.Goals as goal

pub returns-clause-bytes : goal.returns-clause-bytes
returns-clause-bytes g c = grind (arith, common_steps, on_ok)

pub returns-clause-front : goal.returns-clause-front
returns-clause-front g c = grind (arith, common_steps, on_err)
