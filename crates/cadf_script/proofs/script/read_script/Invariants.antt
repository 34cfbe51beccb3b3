use Rattle.cadf_script.proofs.Common.{length, ◌-◌}
use Rattle.cadf_script.proofs.Lines.{HasRead}
use Rattle.cadf_script.proofs.script.read_script.Given as goal

abbrev pub invariant-lines : goal.invariant-lines
invariant-lines l = HasRead l.bytes l.start l.turns.items

abbrev pub decreases-lines : goal.decreases-lines
decreases-lines l = length l.bytes - l.start
