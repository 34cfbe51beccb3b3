use Rattle.cadf_pathset.proofs.Common.{common_steps, arith}
use Rattle.cadf_pathset.proofs.Compared.{cut_path}
use Rattle.cadf_pathset.proofs.cursor.read_line.Goals as goal

pub loop-path-init : goal.loop-path-init
loop-path-init c = grind (arith, common_steps, cut_path)
