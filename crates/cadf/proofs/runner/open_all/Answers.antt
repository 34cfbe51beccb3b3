use Rattle.cadf.proofs.Common.{map, ap, ◌∙◌, arith, map-append, length-map, err_from_is_err_and, source_state}
use Rattle.cadf.proofs.Opening.{one_more, not_opened, no_memory}
use Rattle.cadf.proofs.runner.open_all.Goals as goal

pub returns-in_default : goal.returns-in_default
returns-in_default g c = let h = not_opened c.args.names.now c.loop-name.name-index _ c.loop-name-test.true _ _ _ _ c.loop-name.invariant c.in_default.ensures.asked in
    (h.0, h.1, h.2, h.3, omega (arith, c.len.ensures, c.loop-name.files.ok, length-map c.loop-name.files.items (source_state g.O.File.Source), h.4), h.5)

pub returns-in_err-push : goal.returns-in_err-push
returns-in_err-push g c =
    let p = err_from_is_err_and c.from_residual.result c.from_residual.ensures.1 in rw (p.1, p.2) (no_memory c.args.names.now c.loop-name.name-index _ c.loop-name-test.true _ _ _ _ c.loop-name.invariant c.in-Ok.ensures.asked)

pub loop-name-preserved : goal.loop-name-preserved
loop-name-preserved g c = let h = one_more c.args.names.now c.loop-name.name-index _ c.loop-name-test.true _ _ _ _ c.loop-name.invariant _ c.in-Ok.ensures.asked c.in-Ok.ensures.opened in
    (h.0, ap (map (source_state g.O.File.Source)) c.in_ok-push.ensures.items ∙ map-append _ _ _ ∙ h.1)
