use Rattle.cadf_json.proofs.Common.{common_steps, is_some, arith}
use Rattle.cadf_json.proofs.Walking.{list_parts}
use Rattle.cadf_json.proofs.view.View.items.Goals as goal

pub invariant_of-result : goal.invariant_of-result
invariant_of-result c = grind (arith, common_steps, is_some, list_parts)

pub returns-then-is_list : goal.returns-then-is_list
returns-then-is_list c = grind (arith, common_steps, is_some, list_parts)
