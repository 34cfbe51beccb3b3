use Rattle.cadf_evidence.proofs.Common.{◌≡◌, ◌++◌, drop, told, told_text}
use Rattle.cadf_evidence.proofs.telling.told_keys.Given as goal

abbrev pub invariant-loop-key : goal.invariant-loop-key
invariant-loop-key l = told_text l.lines.items ++ told l.absent (drop l.key-index l.asked) ≡ told l.absent l.asked
