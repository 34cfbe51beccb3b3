use Rattle.cadf_sketch.proofs.Common.{◌∙◌, ap, sym, subst, nat_eq, is_whole, told_lines, AreTold}
use Rattle.cadf_sketch.proofs.ToldLemmas.{whole_told}
use Rattle.cadf_sketch.proofs.sketch_lines.SketchModelFile.is_whole.Goals as goal

pub returns-in-Cells : goal.returns-in-Cells
returns-in-Cells c =
    let told = c.in-Cells.is in
    let are = subst AreTold told c.requires in
    (λ i. nat_eq ((c.len.ensures ∙ c.in-Cells.cells.ok.0) i) (c.cells.ensures i))
    ∙ sym (whole_told c.in-Cells.head c.in-Cells.field-1 c.in-Cells.cells.items are.head)
    ∙ ap (λ t. is_whole (told_lines t)) (sym told)
