use Rattle.cadf_linefile.proofs.Common.{common_steps, arith}
use Rattle.cadf_linefile.proofs.stage.accept_line.Goals as goal

pub returns-clause-sound : goal.returns-clause-sound
returns-clause-sound g c = grind (arith, common_steps)

pub returns-clause-ok : goal.returns-clause-ok
returns-clause-ok g c = grind (arith, common_steps)

pub returns-clause-kept : goal.returns-clause-kept
returns-clause-kept g c = grind (arith, common_steps)

pub returns-then-not-starts_with-clause-sound : goal.returns-then-not-starts_with-clause-sound
returns-then-not-starts_with-clause-sound g c = grind (arith, common_steps)

pub returns-then-not-starts_with-clause-ok : goal.returns-then-not-starts_with-clause-ok
returns-then-not-starts_with-clause-ok g c = grind (arith, common_steps)

pub returns-then-not-starts_with-clause-kept : goal.returns-then-not-starts_with-clause-kept
returns-then-not-starts_with-clause-kept g c = grind (arith, common_steps)

pub returns-then-not-starts_with-clause-err : goal.returns-then-not-starts_with-clause-err
returns-then-not-starts_with-clause-err g c = grind (arith, common_steps)
