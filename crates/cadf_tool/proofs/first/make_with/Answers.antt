use Rattle.cadf_tool.proofs.Common.{None, join_from, err_from_is_err_and}
use Rattle.cadf_tool.proofs.Unions.{on_value, on_fault}
use Rattle.cadf_tool.proofs.first.make_with.Goals as goal

pub returns : goal.returns
returns g c ls union =
    on_value (g.F.First.work c.args.first) (join_from 2 None ls) c.in_ok-held.held c.make.result (c.in_ok-held.ensures 2 None ls union) c.make.ensures

pub returns-in_err-held : goal.returns-in_err-held
returns-in_err-held g c ls union =
    let p = err_from_is_err_and c.from_residual.result c.from_residual.ensures.1 in
    rw (p.1, p.2) (on_fault (g.F.First.work c.args.first) (join_from 2 None ls) c.in_err-held.field-0.0 (c.in_err-held.ensures 2 None ls union))
