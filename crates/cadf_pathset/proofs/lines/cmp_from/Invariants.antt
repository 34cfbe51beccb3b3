use Rattle.cadf_pathset.proofs.Common.{◌-◌, length, map, Agree, place}
use Rattle.cadf_pathset.proofs.lines.cmp_from.Given as goal

abbrev pub invariant-loop-agreed : goal.invariant-loop-agreed
invariant-loop-agreed g l = Agree l.agreed (place l.nodes l.line) (map g.W.AsStr.text l.path)

abbrev pub decreases-loop-agreed : goal.decreases-loop-agreed
decreases-loop-agreed g l = length l.line - l.agreed
