use Rattle.cadf_pathset.proofs.Common.{common_steps, arith}
use Rattle.cadf_pathset.proofs.Threads.{place_of, self_line}
use Rattle.cadf_pathset.proofs.Agreement.{agree_turned}
use Rattle.cadf_pathset.proofs.cursor.turn.Goals as goal

pub read_line-requires-clause-line : goal.read_line-requires-clause-line
read_line-requires-clause-line c = grind (arith, common_steps, self_line)

pub read_line-requires-clause-known : goal.read_line-requires-clause-known
read_line-requires-clause-known c = grind (arith, common_steps, place_of)

pub cmp_from-shared-requires-clause-line : goal.cmp_from-shared-requires-clause-line
cmp_from-shared-requires-clause-line c = grind (arith, common_steps, self_line)

pub cmp_from-shared-requires-clause-known : goal.cmp_from-shared-requires-clause-known
cmp_from-shared-requires-clause-known c = grind (arith, common_steps, place_of, agree_turned)

pub returns-clause-shared : goal.returns-clause-shared
returns-clause-shared c = grind (arith, common_steps, place_of)

pub returns-clause-line : goal.returns-clause-line
returns-clause-line c = grind (arith, common_steps)

pub returns-clause-path : goal.returns-clause-path
returns-clause-path c = grind (arith, common_steps)

pub follow-requires-clause-line : goal.follow-requires-clause-line
follow-requires-clause-line c = grind (arith, common_steps, self_line)
