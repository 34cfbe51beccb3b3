use Rattle.cadf_tool.proofs.Common.{rules, arith, ◌+◌, ◌≡◌, length, None, sym, ap, ◌∙◌, source_state}
use Rattle.cadf_tool.proofs.LoadedLists.{all_count}
use Rattle.cadf_tool.proofs.Runs.{all_read, first_stopped, second_run, stopped}
use Rattle.cadf_tool.proofs.SourceParts.{and_last_run}
use Rattle.cadf_tool.proofs.missing_by.write_missing_by.Goals as goal

pub returns-in_err-union : goal.returns-in_err-union
returns-in_err-union g c =
    let s = c.split_at_mut-from.ensures in
    and_last_run (source_state g.R.Source) g.A.Against.spec (length c.args.sources.now) _ c.split_at_mut-from.result.0.now _ c.union_with.new.inputs
    c.index-last-0.result _ s.value (omega (arith, s.back_len, c.requires))
    (search rules) (omega (arith, s.front_len, c.requires)) (stopped _ _ c.from_residual.ensures.1 (first_stopped (search rules) (search rules)))

pub returns : goal.returns
returns g c =
    let s = c.split_at_mut-from.ensures in
    let u = c.in_ok-union.ensures in
    let r = c.load-last.ensures in
    let numbered : length c.args.sources.now ≡ length c.split_at_mut-from.result.0.now + 1 = omega (arith, s.front_len, c.requires) in
    and_last_run (source_state g.R.Source) g.A.Against.spec (length c.args.sources.now) _ _ _ _ c.index-last-0.result _ s.value
    (omega (arith, s.back_len, c.requires)) (search rules) numbered
    (second_run g.A.Against.spec c.load-last.result c.part.result (all_read 1 g.R.Source _ _ u.ok.0 u.reads u.ok.1) r.ok r.err r.reads
    (c.part.ensures u.ok.0 (numbered ∙ ap (λ n. n + 1) (sym (all_count g.R.Source _ _ u.ok.0 u.ok.1))) (u.ok.2 None (c.new.ensures 1))) c.write_result.ensures)
