use Rattle.cadf_json.proofs.Common.{common_steps, arith}
use Rattle.cadf_json.proofs.write.+write_value.Goals as goal

pub write_items-write_value-requires : goal.write_items-write_value-requires
write_items-write_value-requires t c = grind (arith, common_steps)

pub write_items-loop-item-preserved : goal.write_items-loop-item-preserved
write_items-loop-item-preserved t c = grind (arith, common_steps)

pub write_items-returns : goal.write_items-returns
write_items-returns t c = grind (arith, common_steps)

pub write_members-write_value-requires : goal.write_members-write_value-requires
write_members-write_value-requires t c = grind (arith, common_steps)

pub write_members-loop-member-preserved : goal.write_members-loop-member-preserved
write_members-loop-member-preserved t c = grind (arith, common_steps)

pub write_members-returns : goal.write_members-returns
write_members-returns t c = grind (arith, common_steps)

pub write_value-write_items-requires : goal.write_value-write_items-requires
write_value-write_items-requires t c = grind (arith, common_steps)

pub write_value-write_members-requires : goal.write_value-write_members-requires
write_value-write_members-requires t c = grind (arith, common_steps)

pub write_value-returns-in-Whole : goal.write_value-returns-in-Whole
write_value-returns-in-Whole t c = grind (arith, common_steps)

pub write_value-returns-in-Text : goal.write_value-returns-in-Text
write_value-returns-in-Text t c = grind (arith, common_steps)

pub write_value-returns-in-Array : goal.write_value-returns-in-Array
write_value-returns-in-Array t c = grind (arith, common_steps)

pub write_value-returns-in-Object : goal.write_value-returns-in-Object
write_value-returns-in-Object t c = grind (arith, common_steps)
