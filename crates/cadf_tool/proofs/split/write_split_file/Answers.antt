use Rattle.cadf_tool.proofs.Common.{rules}
use Rattle.cadf_tool.proofs.split.write_split_file.Goals as goal

pub returns : goal.returns
returns g c = record { expected = c.join.result; first = c.join.ensures; answer = search rules }
