use Rattle.cadf_json.proofs.Common.{common_steps, arith}
use Rattle.cadf_json.proofs.Walking.{object_parts}
use Rattle.cadf_json.proofs.view.View.members.Goals as goal

pub returns-then-is_object : goal.returns-then-is_object
returns-then-is_object c = grind (arith, common_steps, object_parts)

pub invariant_of-t-3 : goal.invariant_of-t-3
invariant_of-t-3 c = grind (arith, common_steps, object_parts)
