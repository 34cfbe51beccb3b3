use Rattle.cadf_tool.proofs.Common.{Ok, rules, transition_of}
use Rattle.cadf_tool.proofs.Rehearsals.{script_refused}
use Rattle.cadf_tool.proofs.Runs.{unwritten}
use Rattle.cadf_tool.proofs.rehearse.run_rehearse.Goals as goal

pub returns-in_err-turns-clause-final_sites : goal.returns-in_err-turns-clause-final_sites
returns-in_err-turns-clause-final_sites g c =
    unwritten _ _ c.from_residual.ensures.1 (script_refused (transition_of g.R.Source c.args.script.now c.turns.new.script) c.args.log.now c.args.sites
    c.in_err-turns.field-0.0 c.in_err-turns.ensures.err)

pub returns-in_err-left-clause-final_sites : goal.returns-in_err-left-clause-final_sites
returns-in_err-left-clause-final_sites g c = unwritten _ _ c.from_residual-in_err-left.ensures.1 (search rules)

pub returns-clause-final_sites : goal.returns-clause-final_sites
returns-clause-final_sites g c = record { expected = Ok c.in_ok-left.left.items; first = search rules; answer = search rules }
