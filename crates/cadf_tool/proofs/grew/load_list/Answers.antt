use Rattle.cadf_tool.proofs.Common.{◌≡◌, true, rules, source_state}
use Rattle.cadf_tool.proofs.SealedGrowth.{list_read}
use Rattle.cadf_tool.proofs.grew.load_list.Goals as goal

pub returns : goal.returns
returns g c =
    let given : c.args.erased ≡ true = search rules in
    list_read (source_state g.R.Source) c.args.erased c.args.sources.now c.index-sources-0.result c.load_model.new.input
    c.in_ok-load_model.field-0 given (c.requires given) c.in_ok-load_model.ensures.ok c.in_ok-load_model.ensures.reads
