use Rattle.cadf_tool.proofs.Common.{◌+◌, length, None, log_joined}
use Rattle.cadf_tool.proofs.UnionDeltas.{parted}
use Rattle.cadf_tool.proofs.missing.part.Goals as goal

pub returns : goal.returns
returns c froms tos from to =
    parted froms tos c.args.from from c.end.result c.end-2.result c.lacked_by.result c.names_log-is_named.result (c.end.ensures 1 None froms from)
    (c.end-2.ensures (length froms + 1) (log_joined c.args.from) tos to) (c.names_log-is_named.ensures (length froms + 1) (log_joined c.args.from) tos to)
    c.lacked_by.ensures.named c.lacked_by.ensures.unnamed
