use Rattle.cadf_tool.proofs.Common.{arith, rules, source_state, seal_spec, proof_spec}
use Rattle.cadf_tool.proofs.Runs.{one_read, both_read, first_stopped, second_stopped, last_run, stopped}
use Rattle.cadf_tool.proofs.SourceParts.{three_run}
use Rattle.cadf_tool.proofs.verify.write_verdict.Goals as goal

pub returns-in_err-seal-clause-verdict : goal.returns-in_err-seal-clause-verdict
returns-in_err-seal-clause-verdict g c =
    let s = c.split_at_mut-seal.ensures in
    let f = c.split_at_mut-facts.ensures in
    three_run (source_state g.R.Source) seal_spec g.Q.Question.spec proof_spec _ _ _ _ _ c.index-seal-0.result c.index-facts-0.result c.index-proof-0.result _ _ _ s.value f.value
    s.front_len f.front_len (omega (arith, s.back_len, f.back_len, c.requires)) (stopped _ _ c.from_residual.ensures.1 (first_stopped (search rules) (search rules)))

pub returns-in_err-asked-clause-verdict : goal.returns-in_err-asked-clause-verdict
returns-in_err-asked-clause-verdict g c =
    let s = c.split_at_mut-seal.ensures in
    let f = c.split_at_mut-facts.ensures in
    let seal = c.in_ok-seal.ensures in
    three_run (source_state g.R.Source) seal_spec g.Q.Question.spec proof_spec _ _ _ _ _ c.index-seal-0.result c.index-facts-0.result c.index-proof-0.result _ _ _ s.value f.value
    s.front_len f.front_len (omega (arith, s.back_len, f.back_len, c.requires)) (stopped _ _ c.from_residual-in_err-asked.ensures.1
    (second_stopped (one_read 1 seal_spec _ seal.reads c.in_ok-seal.seal seal.ok) (first_stopped (search rules) (search rules))))

pub returns-clause-verdict : goal.returns-clause-verdict
returns-clause-verdict g c =
    let s = c.split_at_mut-seal.ensures in
    let f = c.split_at_mut-facts.ensures in
    let seal = c.in_ok-seal.ensures in
    let facts = c.in_ok-asked.ensures in
    let proof = c.load_model-proof.ensures in
    let first = one_read 1 seal_spec _ seal.reads c.in_ok-seal.seal seal.ok in
    let second = one_read 2 g.Q.Question.spec _ facts.reads c.in_ok-asked.asked facts.ok in
    three_run (source_state g.R.Source) seal_spec g.Q.Question.spec proof_spec _ _ _ _ _ c.index-seal-0.result c.index-facts-0.result c.index-proof-0.result _ _ _ s.value f.value
    s.front_len f.front_len (omega (arith, s.back_len, f.back_len, c.requires))
    (last_run proof_spec (λ k. (c.in_ok-seal.seal, (c.in_ok-asked.asked, k))) c.load_model-proof.result c.verdict.result
    (λ k read. both_read first (both_read second read)) (λ fault stop. second_stopped first (second_stopped second stop)) proof.ok proof.err proof.reads
    c.verdict.ensures c.write_lines.ensures.written)
