use Rattle.cadf_pathset.proofs.Common.{◌≡◌, ◌++◌, drop, at_places}
use Rattle.cadf_pathset.proofs.path_vec.numbers_at.Given as goal

abbrev pub invariant-loop-place : goal.invariant-loop-place
invariant-loop-place l = l.found.items ++ at_places (drop l.place-index l.places) l.numbers ≡ at_places l.places l.numbers
