use Rattle.cadf_tool.proofs.ExchangeLaws.{part_as_whole, part_by_as_whole, part_by_sketch_as_whole}
use Rattle.cadf_tool.proofs.Common.{refl}
use Rattle.cadf_tool.proofs.exchange.delta_equals_full_merge.Goals as goal

pub returns-clause-by_file : goal.returns-clause-by_file
returns-clause-by_file c = part_as_whole

pub returns-clause-by_inventory : goal.returns-clause-by_inventory
returns-clause-by_inventory c = part_by_as_whole

pub returns-clause-by_sketch : goal.returns-clause-by_sketch
returns-clause-by_sketch c = part_by_sketch_as_whole

pub returns-clause-brings : goal.returns-clause-brings
returns-clause-brings c log means from to files = refl
