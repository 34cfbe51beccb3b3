use Rattle.cadf.proofs.Common.{refl, inr}
use Rattle.cadf.proofs.Opening.{told, handed_on, untouched}
use Rattle.cadf.proofs.runner.run_request.Goals as goal

pub returns-clause-run : goal.returns-clause-run
returns-clause-run g c = inr (c.in-Ok.asked, c.run_asked.result, c.in-Ok.ensures, told c.run_asked.result c.map_err.result c.map_err.ensures.cases, c.run_asked.ensures.run)

pub returns-clause-memory : goal.returns-clause-memory
returns-clause-memory g c =
    handed_on c.args.request.now _ _ c.map_err.result c.in-Ok.asked c.run_asked.result c.in-Ok.ensures
    (told c.run_asked.result c.map_err.result c.map_err.ensures.cases) c.run_asked.ensures.memory

pub returns-in-Err-clause-memory : goal.returns-in-Err-clause-memory
returns-in-Err-clause-memory g c = untouched c.args.request.now _ _ _ refl
