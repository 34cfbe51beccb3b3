use Rattle.cadf_json.proofs.Common.{◌≡◌, slice_get, to_list}
use Rattle.cadf_json.proofs.view.item_at.Given as goal

abbrev pub invariant-loop-item : goal.invariant-loop-item
invariant-loop-item l =
    slice_get (to_list l.fn.items) l.index ≡ slice_get (to_list l.item-iterator) l.left
