use Rattle.cadf_evidence.proofs.Common.{common_steps, ◌∙◌, ap, refl, arith, err_from_is_err_and, told_text}
use Rattle.cadf_evidence.proofs.AlikeLines.{line_next, line_written, front_line}
use Rattle.cadf_evidence.proofs.telling.FactLines.write.Goals as goal

pub loop-digest-preserved : goal.loop-digest-preserved
loop-digest-preserved g c = grind (arith, common_steps, line_written, line_next)

pub returns-in_err-write_line-clause-front : goal.returns-in_err-write_line-clause-front
returns-in_err-write_line-clause-front g c =
    let p = err_from_is_err_and c.from_residual.result c.from_residual.ensures.1 in
    rw p.1 (front_line _ _ _ c.as_slice-lines.result.now c.args.self.now _ _ _ _ c.loop-digest.digest-index _ _ _ c.loop-digest.invariant.0
    (ap told_text c.as_slice-lines.ensures.value ∙ c.self.view_is) c.as_slice.ensures.value c.as_slice-digest-items.ensures.value c.loop-digest-test.true refl
    c.in_err-write_line.ensures.front)
