use Rattle.cadf_json.proofs.Common.{common_steps, sym, ap, ◌∙◌, arith, count_trailing_zeros}
use Rattle.cadf_json.proofs.PlainRuns.{run_bound, run_through, run_stops}
use Rattle.cadf_json.proofs.plain_run.plain_length.Goals as goal

pub returns-then-found-ne0-clause-value : goal.returns-then-found-ne0-clause-value
returns-then-found-ne0-clause-value c =
    let found = c.stops-found in
    let run = run_stops c.args.text.now c.loop-at.at 8 (omega arith) (omega arith) (omega (arith, found.ensures))
    ∙ ap (count_trailing_zeros 64) (sym found.ensures) in
    omega (arith, run, c.loop-at.invariant.0)

pub returns-then-found-ne0-clause-bound : goal.returns-then-found-ne0-clause-bound
returns-then-found-ne0-clause-bound c =
    let found = c.stops-found in
    let run = run_stops c.args.text.now c.loop-at.at 8 (omega arith) (omega arith) (omega (arith, found.ensures))
    ∙ ap (count_trailing_zeros 64) (sym found.ensures) in
    omega (arith, run, run_bound c.args.text.now c.loop-at.at c.loop-at.invariant.1)

pub loop-at-preserved : goal.loop-at-preserved
loop-at-preserved c = grind (arith, common_steps, run_through)
