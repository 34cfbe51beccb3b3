use Rattle.cadf_tool.proofs.Common.{arith, rules, refl, Ok, source_state, seal_spec, proof_spec, IsExpected}
use Rattle.cadf_tool.proofs.Runs.{one_read, both_read, first_stopped, second_stopped, read_whole, read_stopped}
use Rattle.cadf_tool.proofs.SourceParts.{three_seen}
use Rattle.cadf_tool.proofs.grew.load_sealed.Goals as goal

pub returns-in_err-earlier : goal.returns-in_err-earlier
returns-in_err-earlier g c =
    let s = c.split_at_mut-earlier.ensures in
    let f = c.split_at_mut-later.ensures in
    three_seen (source_state g.R.Source) seal_spec seal_spec proof_spec (λ s. IsExpected s Ok c.from_residual.result) _ _ _ _ _ c.index-earlier-0.result
    c.index-later-0.result c.index-proof-0.result _ _ _ s.value f.value s.front_len f.front_len (omega (arith, s.back_len, f.back_len, c.requires))
    (read_stopped _ _ c.from_residual.ensures.1 (first_stopped (search rules) (search rules)))

pub returns-in_err-later : goal.returns-in_err-later
returns-in_err-later g c =
    let s = c.split_at_mut-earlier.ensures in
    let f = c.split_at_mut-later.ensures in
    let first = c.in_ok-earlier.ensures in
    three_seen (source_state g.R.Source) seal_spec seal_spec proof_spec (λ s. IsExpected s Ok c.from_residual-in_err-later.result) _ _ _ _ _ c.index-earlier-0.result
    c.index-later-0.result c.index-proof-0.result _ _ _ s.value f.value s.front_len f.front_len (omega (arith, s.back_len, f.back_len, c.requires))
    (read_stopped _ _ c.from_residual-in_err-later.ensures.1
    (second_stopped (one_read 1 seal_spec _ first.reads c.in_ok-earlier.earlier first.ok) (first_stopped (search rules) (search rules))))

pub returns-in_err-proof : goal.returns-in_err-proof
returns-in_err-proof g c =
    let s = c.split_at_mut-earlier.ensures in
    let f = c.split_at_mut-later.ensures in
    let first = c.in_ok-earlier.ensures in
    let second = c.in_ok-later.ensures in
    three_seen (source_state g.R.Source) seal_spec seal_spec proof_spec (λ s. IsExpected s Ok c.from_residual-in_err-proof.result) _ _ _ _ _ c.index-earlier-0.result
    c.index-later-0.result c.index-proof-0.result _ _ _ s.value f.value s.front_len f.front_len (omega (arith, s.back_len, f.back_len, c.requires))
    (read_stopped _ _ c.from_residual-in_err-proof.ensures.1
    (second_stopped (one_read 1 seal_spec _ first.reads c.in_ok-earlier.earlier first.ok)
    (second_stopped (one_read 2 seal_spec _ second.reads c.in_ok-later.later second.ok) (search rules))))

pub returns : goal.returns
returns g c =
    let s = c.split_at_mut-earlier.ensures in
    let f = c.split_at_mut-later.ensures in
    let first = c.in_ok-earlier.ensures in
    let second = c.in_ok-later.ensures in
    let third = c.in_ok-proof.ensures in
    three_seen (source_state g.R.Source) seal_spec seal_spec proof_spec (λ s. IsExpected s Ok (Ok (c.in_ok-earlier.earlier, (c.in_ok-later.later, c.in_ok-proof.proof))))
    _ _ _ _ _ c.index-earlier-0.result
    c.index-later-0.result c.index-proof-0.result _ _ _ s.value f.value s.front_len f.front_len (omega (arith, s.back_len, f.back_len, c.requires))
    (read_whole (both_read (one_read 1 seal_spec _ first.reads c.in_ok-earlier.earlier first.ok)
    (both_read (one_read 2 seal_spec _ second.reads c.in_ok-later.later second.ok) (one_read 3 proof_spec _ third.reads c.in_ok-proof.proof third.ok))))
