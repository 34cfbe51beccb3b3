use Rattle.cadf_tree.proofs.Common.{◌≡◌, ◌-◌, parting_from}
use Rattle.cadf_tree.proofs.tree.parting.Given as goal

abbrev pub invariant-loop-place : goal.invariant-loop-place
invariant-loop-place l = parting_from 256 0 l.left l.right ≡ parting_from (256 - l.place) l.place l.left l.right
