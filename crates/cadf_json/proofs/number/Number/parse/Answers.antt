use Rattle.cadf_json.proofs.Common.{common_steps, arith, take_all, length-drop, number_of}
use Rattle.cadf_json.proofs.number.Number.parse.Goals as goal

pub returns-in-45 : goal.returns-in-45
unfolding number_of
returns-in-45 c = grind (arith, common_steps, take_all, length-drop)

pub returns-in_default : goal.returns-in_default
unfolding number_of
returns-in_default c = grind (arith, common_steps)
