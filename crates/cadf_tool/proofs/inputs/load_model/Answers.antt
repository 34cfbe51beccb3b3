use Rattle.cadf_tool.proofs.Common.{common_steps, arith, transition_of}
use Rattle.cadf_tool.proofs.ModelReading.{if_model_read}
use Rattle.cadf_tool.proofs.inputs.load_model.Goals as goal

pub returns-clause-ok : goal.returns-clause-ok
returns-clause-ok g c =
    if_model_read g.M.ModelFile.kind g.M.ModelFile.holds (transition_of g.R.Source c.args.input.now c.read_model.new.source) c.accepted.ensures
    c.read_model.result c.map_err.result _ c.read_model.ensures.verdict c.map_err.ensures.cases

pub returns-clause-err : goal.returns-clause-err
returns-clause-err g c = grind (arith, common_steps)
