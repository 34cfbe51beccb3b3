use Rattle.cadf_tool.proofs.Common.{rules, ◌+◌, None, sym, ◌∙◌, subst, source_state, IsJoinState, log_joined}
use Rattle.cadf_tool.proofs.LoadedLists.{all_count}
use Rattle.cadf_tool.proofs.Runs.{all_read, all_untouched, both_read, first_stopped, second_stopped, starved, stopped, worked_run}
use Rattle.cadf_tool.proofs.SourceParts.{in_two_run}
use Rattle.cadf_tool.proofs.missing.write_missing.Goals as goal

pub returns-in_err-first : goal.returns-in_err-first
returns-in_err-first g c =
    in_two_run (source_state g.R.Source) _ _ _ _ _ _ c.split_at_mut-from.ensures.value c.split_at_mut-from.ensures.front_len (search rules)
    (stopped _ _ c.from_residual.ensures.1 (first_stopped (search rules) (all_untouched (c.args.count + 1) g.R.Source _)))

pub returns-in_err-beside : goal.returns-in_err-beside
returns-in_err-beside g c =
    let f = c.in_ok-first.ensures in
    in_two_run (source_state g.R.Source) _ _ _ _ _ _ c.split_at_mut-from.ensures.value c.split_at_mut-from.ensures.front_len (search rules)
    (stopped _ _ c.from_residual-in_err-beside.ensures.1
    (first_stopped (starved c.in_err-beside.ensures.only (all_read 1 g.R.Source _ _ f.ok.0 f.reads f.ok.1)) (all_untouched (c.args.count + 1) g.R.Source _)))

pub returns-in_err-second : goal.returns-in_err-second
returns-in_err-second g c =
    let f = c.in_ok-first.ensures in
    in_two_run (source_state g.R.Source) _ _ _ _ _ _ c.split_at_mut-from.ensures.value c.split_at_mut-from.ensures.front_len (search rules)
    (stopped _ _ c.from_residual-in_err-second.ensures.1 (second_stopped (all_read 1 g.R.Source _ _ f.ok.0 f.reads f.ok.1) (search rules)))

pub returns : goal.returns
returns g c =
    let f = c.in_ok-first.ensures in
    let t = c.in_ok-second.ensures in
    in_two_run (source_state g.R.Source) _ _ _ _ _ _ c.split_at_mut-from.ensures.value c.split_at_mut-from.ensures.front_len (search rules)
    (worked_run c.part.result (both_read (all_read 1 g.R.Source _ _ f.ok.0 f.reads f.ok.1) (all_read _ g.R.Source _ _ t.ok.0 t.reads t.ok.1))
    (c.part.ensures f.ok.0 t.ok.0 (f.ok.2 None (c.new.ensures 1)) (subst (λ n. IsJoinState (n + 1) (log_joined c.in_ok-first.first) t.ok.0 c.in_ok-second.second)
    (sym (all_count g.R.Source _ _ f.ok.0 f.ok.1 ∙ c.split_at_mut-from.ensures.front_len))
    (t.ok.2 (log_joined c.in_ok-first.first) (c.in_ok-beside.ensures.ok (c.args.count + 1))))) c.write_result.ensures)
