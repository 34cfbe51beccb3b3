use Rattle.cadf_pathset.proofs.Copies.{node_is_last}
use Rattle.cadf_pathset.proofs.lines.is_of_last.Goals as goal

pub returns-in-len1-up : goal.returns-in-len1-up
returns-in-len1-up c e ls = node_is_last ls c.args.line.now c.args.numbers.now c.end_of.result c.end_of.ensures c.in-len1-up.len_at_least e
