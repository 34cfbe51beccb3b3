use Rattle.cadf_pathset.proofs.Common.{common_steps, string_bytes, arith, take_all, IsUtf8-string_bytes}
use Rattle.cadf_pathset.proofs.Cuts.{texts_count, front_boundary, front_ends, front_texts}
use Rattle.cadf_pathset.proofs.nodes.Pool.truncate.Goals as goal

pub truncate-requires-then-count-len : goal.truncate-requires-then-count-len
truncate-requires-then-count-len c l = grind (arith, common_steps, front_boundary, string_bytes, IsUtf8-string_bytes)

pub invariant_of-self : goal.invariant_of-self
invariant_of-self c = grind (arith, common_steps, string_bytes, front_ends, IsUtf8-string_bytes)

pub returns-then-count-len : goal.returns-then-count-len
returns-then-count-len c = grind (arith, common_steps, front_texts, string_bytes, IsUtf8-string_bytes)

pub returns-else-count-len : goal.returns-else-count-len
returns-else-count-len c = grind (arith, common_steps, texts_count, string_bytes, take_all)
