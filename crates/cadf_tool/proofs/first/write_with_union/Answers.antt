use Rattle.cadf_tool.proofs.Common.{None, Ok, Err, refl, rules, ap, ◌∙◌, err_from_is_err_and, source_state}
use Rattle.cadf_tool.proofs.Runs.{one_read, all_read, all_untouched, both_read, first_stopped, second_stopped, stopped, worked_run}
use Rattle.cadf_tool.proofs.SourceParts.{first_and_others_run}
use Rattle.cadf_tool.proofs.first.write_with_union.Goals as goal

pub returns-in_err-read : goal.returns-in_err-read
returns-in_err-read g c =
    let s = c.split_at_mut-first.ensures in
    first_and_others_run (source_state g.R.Source) g.F.First.spec _ _ _ _ c.index-first-0.result _ s.value s.front_len
    (stopped _ _ c.from_residual.ensures.1 (first_stopped (search rules) (all_untouched 2 g.R.Source _)))

pub returns-in_err-union : goal.returns-in_err-union
returns-in_err-union g c =
    let s = c.split_at_mut-first.ensures in
    let f = c.in_ok-read.ensures in
    first_and_others_run (source_state g.R.Source) g.F.First.spec _ _ _ _ c.index-first-0.result _ s.value s.front_len
    (stopped _ _ c.from_residual-in_err-union.ensures.1 (second_stopped (one_read 1 g.F.First.spec _ f.reads c.in_ok-read.read f.ok) (search rules)))

pub returns-in_err-made : goal.returns-in_err-made
returns-in_err-made g c =
    let s = c.split_at_mut-first.ensures in
    let f = c.in_ok-read.ensures in
    let u = c.in_ok-union.ensures in
    let p = err_from_is_err_and _ c.from_residual-in_err-made.ensures.1 in
    first_and_others_run (source_state g.R.Source) g.F.First.spec _ _ _ _ c.index-first-0.result _ s.value s.front_len
    (worked_run (Err c.in_err-made.field-0.0)
    (both_read (one_read 1 g.F.First.spec _ f.reads c.in_ok-read.read f.ok) (all_read 2 g.R.Source _ _ u.ok.0 u.reads u.ok.1))
    (c.in_err-made.ensures u.ok.0 (u.ok.2 None (c.new.ensures 2))) (p.1 ∙ ap Err p.2, refl))

pub returns : goal.returns
returns g c =
    let s = c.split_at_mut-first.ensures in
    let f = c.in_ok-read.ensures in
    let u = c.in_ok-union.ensures in
    first_and_others_run (source_state g.R.Source) g.F.First.spec _ _ _ _ c.index-first-0.result _ s.value s.front_len
    (worked_run (Ok c.in_ok-made.made)
    (both_read (one_read 1 g.F.First.spec _ f.reads c.in_ok-read.read f.ok) (all_read 2 g.R.Source _ _ u.ok.0 u.reads u.ok.1))
    (c.in_ok-made.ensures u.ok.0 (u.ok.2 None (c.new.ensures 2))) c.write.ensures)
