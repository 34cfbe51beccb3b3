use Rattle.cadf_tool.proofs.Common.{arith, rules, map, source_state, seal_spec, proof_spec, list_if, IsRun, growth_line}
use Rattle.cadf_tool.proofs.SealedGrowth.{growth_told, list_unread, sealed_unread}
use Rattle.cadf_tool.proofs.SourceParts.{three_and_others_seen}
use Rattle.cadf_tool.proofs.grew.write_growth.Goals as goal

pub returns-in_err-sealed-clause-growth : goal.returns-in_err-sealed-clause-growth
returns-in_err-sealed-clause-growth g c =
    let s = c.split_at_mut-three.ensures in
    let see = source_state g.R.Source in
    let front = c.split_at_mut-three.result.0.now in
    let rest = c.split_at_mut-three.result.1.now in
    let front' = c.load_sealed.new.sources in
    three_and_others_seen see seal_spec seal_spec proof_spec (list_if c.args.erased)
    (λ s. IsRun s growth_line (λ text. text) g.W.Sink c.args.output.now c.args.output.now c.from_residual.result) c.args.sources.now front rest front' rest s.value s.front_len (search rules)
    (sealed_unread c.args.erased (map see front) (map see front') (map see rest) (map see rest) c.from_residual.result c.in_err-sealed.field-0.0 c.from_residual.ensures.1 c.in_err-sealed.ensures)

pub returns-in_err-list-clause-growth : goal.returns-in_err-list-clause-growth
returns-in_err-list-clause-growth g c =
    let s = c.split_at_mut-three.ensures in
    let see = source_state g.R.Source in
    let front = c.split_at_mut-three.result.0.now in
    let rest = c.split_at_mut-three.result.1.now in
    let front' = c.load_sealed.new.sources in
    let rest' = c.load_list.new.sources in
    three_and_others_seen see seal_spec seal_spec proof_spec (list_if c.args.erased)
    (λ s. IsRun s growth_line (λ text. text) g.W.Sink c.args.output.now c.args.output.now c.from_residual-in_err-list.result) c.args.sources.now front rest front' rest' s.value s.front_len (search rules)
    (list_unread c.args.erased (map see front) (map see front') (map see rest) (map see rest') c.from_residual-in_err-list.result c.in_err-list.field-0.0 c.from_residual-in_err-list.ensures.1
    c.in_ok-sealed.sealed c.in_ok-sealed.ensures c.in_err-list.ensures)

pub returns-clause-growth : goal.returns-clause-growth
returns-clause-growth g c =
    let s = c.split_at_mut-three.ensures in
    let see = source_state g.R.Source in
    let front = c.split_at_mut-three.result.0.now in
    let rest = c.split_at_mut-three.result.1.now in
    let front' = c.load_sealed.new.sources in
    let rest' = c.load_list.new.sources in
    three_and_others_seen see seal_spec seal_spec proof_spec (list_if c.args.erased)
    (λ s. IsRun s growth_line (λ text. text) g.W.Sink c.args.output.now c.tell_growth.new.output c.tell_growth.result) c.args.sources.now front rest front' rest' s.value s.front_len (search rules)
    (growth_told c.args.erased (map see front) (map see front') (map see rest) (map see rest') c.in_ok-sealed.sealed c.in_ok-list.list c.in_ok-sealed.ensures c.in_ok-list.ensures c.tell_growth.ensures.told)
