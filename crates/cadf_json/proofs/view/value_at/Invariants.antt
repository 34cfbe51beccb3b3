use Rattle.cadf_json.proofs.Common.{◌≡◌, slice_get, values_of}
use Rattle.cadf_json.proofs.view.value_at.Given as goal

abbrev pub invariant-loop-member : goal.invariant-loop-member
invariant-loop-member l =
    slice_get (values_of l.fn.members) l.index ≡ slice_get (values_of l.member-iterator) l.left
