use Rattle.cadf_tool.proofs.Common.{map, source_state, task}
use Rattle.cadf_tool.proofs.Accepted.{accepted}
use Rattle.cadf_tool.proofs.MadeByRuns.{run_ok}
use Rattle.cadf_tool.proofs.exchange.accepted_bytes_are_files.Goals as goal

pub returns : goal.returns
returns g c q old new first last run =
    let os = map (source_state g.R.Source) old in
    let ns = map (source_state g.R.Source) new in
    let r = run_ok ((task q).sources os ns) (task q).work (task q).tell g.W.Sink first last _ run in accepted q os ns r.value r.are
