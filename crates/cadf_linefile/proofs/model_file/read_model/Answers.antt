use Rattle.cadf_linefile.proofs.Common.{common_steps, arith}
use Rattle.cadf_linefile.proofs.ModelLemmas.{are_whole, answered, reads}
use Rattle.cadf_linefile.proofs.model_file.read_model.Goals as goal

pub model_of-requires-whole : goal.model_of-requires-whole
model_of-requires-whole g c = grind (arith, common_steps, are_whole)

pub returns-clause-verdict : goal.returns-clause-verdict
returns-clause-verdict g c = grind (arith, common_steps, reads)

pub returns-clause-whole : goal.returns-clause-whole
returns-clause-whole g c same room bytes is = grind (arith, common_steps, answered)
