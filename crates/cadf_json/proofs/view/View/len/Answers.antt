use Rattle.cadf_json.proofs.Common.{common_steps, ◌≡◌, length, slice_index_or, arith, ap, ◌∙◌, Null, Array, Object, parts_in}
use Rattle.cadf_json.proofs.Counts.{list_count, object_count}
use Rattle.cadf_json.proofs.view.View.len.Goals as goal

pub returns-in-Array : goal.returns-in-Array
returns-in-Array c =
    let is : slice_index_or c.self.inside.nodes.now 0 Null ≡ Array c.in-Array.extent = grind (arith, common_steps, slice_index_or) in
    list_count _ _ _ c.in-Array.extent c.self.invariant.0 is ∙ ap (λ d. length (parts_in d)) c.self.view_is

pub returns-in-Object : goal.returns-in-Object
returns-in-Object c =
    let is : slice_index_or c.self.inside.nodes.now 0 Null ≡ Object c.in-Object.extent = grind (arith, common_steps, slice_index_or) in
    object_count _ _ _ c.in-Object.extent c.self.invariant.0 is ∙ ap (λ d. length (parts_in d)) c.self.view_is
