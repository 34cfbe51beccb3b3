use Rattle.cadf_sketch.proofs.Common.{common_steps, arith, ◌≡◌, ◌∙◌, ◌∷◌, [], None, sym, subst, IfErr, CauseIs, on_ok, head_line, AreTold, AreCellsOf, cause_after}
use Rattle.cadf_sketch.proofs.ToldLemmas.{head_told, lines_told, tally_told, cell_cause, cell_told}
use Rattle.cadf_sketch.proofs.sketch_lines.SketchModelFile.put_line.Goals as goal

pub returns-in_ok-head-in-Nothing-clause-ok : goal.returns-in_ok-head-in-Nothing-clause-ok
returns-in_ok-head-in-Nothing-clause-ok c =
    let found = c.in_ok-head-in-Nothing in
    rw c.in-Nothing.is (head_told c.args.line.now found.head (sym found.ensures.ok_part ∙ c.head_in.ensures))

pub returns-in_ok-tally-in-Beginning-clause-ok : goal.returns-in_ok-tally-in-Beginning-clause-ok
returns-in_ok-tally-in-Beginning-clause-ok c =
    let h = c.in-Beginning.head in
    let l = c.args.line.now in
    let t = c.in_ok-tally-in-Beginning.tally in
    rw c.in-Beginning.is
    (subst (λ cs. (cause_after (head_line h ∷ []) l ≡ None) × (lines_told h t cs ≡ head_line h ∷ l ∷ []) × AreCellsOf h t cs) (sym c.new.ensures.items)
    (tally_told h l t (subst AreTold c.in-Beginning.is c.requires) (sym c.in_ok-tally-in-Beginning.ensures.ok_part ∙ c.tally_in.ensures)))

pub returns-in-Cells-clause-ok : goal.returns-in-Cells-clause-ok
returns-in-Cells-clause-ok c = grind (arith, common_steps, on_ok, cell_told)

pub returns-in-Cells-clause-err : goal.returns-in-Cells-clause-err
returns-in-Cells-clause-err c =
    let told = c.in-Cells.is in
    let are = subst AreTold told c.requires in
    rw told (subst (λ o. IfErr c.put_cell.result (λ e. CauseIs e o))
    (sym (cell_cause c.in-Cells.head c.in-Cells.field-1 c.in-Cells.cells.items c.args.line.now are.head)) c.put_cell.ensures.err)
