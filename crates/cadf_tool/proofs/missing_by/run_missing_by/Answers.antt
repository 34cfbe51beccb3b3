use Rattle.cadf_tool.proofs.Common.{rules, None, [], ◌∷◌, sym, ◌∙◌, input_spec, inventory_spec}
use Rattle.cadf_tool.proofs.Runs.{one_read, on_ok_more, second_run, stopped, worked_more}
use Rattle.cadf_tool.proofs.Unions.{first_place}
use Rattle.cadf_tool.proofs.UnionDeltas.{by_inventory, part_by_one, number_two}
use Rattle.cadf_tool.proofs.missing_by.run_missing_by.Goals as goal

pub returns-in_err-first : goal.returns-in_err-first
returns-in_err-first g c = stopped _ _ c.from_residual.ensures.1 (search rules)

pub returns : goal.returns
returns g c =
    let f = c.in_ok-first.ensures in
    let s = c.load_inventory-noted.ensures in
    second_run inventory_spec c.load_inventory-noted.result c.part.result (one_read 1 input_spec _ f.reads f.ok.0 f.ok.1) s.ok s.err s.reads
    (on_ok_more _ _ c.load_inventory-noted.result c.part.result (c.part.ensures (f.ok.0 ∷ []) (number_two f.ok.0) (f.ok.2 1 None [] first_place (c.new.ensures 1)))
    (λ noted. worked_more (λ r e. sym (part_by_one f.ok.0 noted) ∙ by_inventory (f.ok.0 ∷ [], noted) r e) c.part.result)) c.write_result.ensures
