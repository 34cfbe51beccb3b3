use Rattle.cadf_tool.proofs.Common.{None}
use Rattle.cadf_tool.proofs.Runs.{on_ok_more}
use Rattle.cadf_tool.proofs.UnionDeltas.{by_last}
use Rattle.cadf_tool.proofs.missing_by.part.Goals as goal

pub returns : goal.returns
returns g c froms count from = on_ok_more _ _ c.args.last.now c.lacked.result c.lacked.ensures (λ last.
    by_last g.A.Against.allows froms c.args.number last count c.end.result c.lacked.result (c.end.ensures 1 None froms from))
