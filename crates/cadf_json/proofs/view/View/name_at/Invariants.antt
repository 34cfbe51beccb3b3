use Rattle.cadf_json.proofs.Common.{◌≡◌, slice_get, names_of, names_in}
use Rattle.cadf_json.proofs.view.View.name_at.Given as goal

abbrev pub invariant-loop-member : goal.invariant-loop-member
invariant-loop-member l =
    slice_get (names_in l.self) l.index ≡ slice_get (names_of l.member-iterator) l.left
