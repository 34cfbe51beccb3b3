use Rattle.cadf_tool.proofs.Common.{IsInventory, inventory_kind, accepts-inventories, transition_of}
use Rattle.cadf_tool.proofs.ModelReading.{if_model_read}
use Rattle.cadf_tool.proofs.inputs.load_inventory.Goals as goal

pub returns-clause-ok : goal.returns-clause-ok
returns-clause-ok g c =
    if_model_read inventory_kind IsInventory (transition_of g.R.Source c.args.input.now c.read_inventory.new.source) accepts-inventories
    c.read_inventory.result c.map_err.result _ c.read_inventory.ensures.verdict c.map_err.ensures.cases
