use Rattle.cadf_pathset.proofs.Common.{◌≡◌, length, carriers_in}
use Rattle.cadf_pathset.proofs.copier.copy_carriers.Given as goal

abbrev pub invariant-loop-copier : goal.invariant-loop-copier
invariant-loop-copier g l = carriers_in g.C.Carrier.carrier l.copier.1 l.copier.0.1 ≡ carriers_in g.C.Carrier.carrier l.fn.copier.1 l.fn.copier.0.1

abbrev pub decreases-loop-copier : goal.decreases-loop-copier
decreases-loop-copier g l = length l.copier.0.1
