use Rattle.cadf_evidence.proofs.Common.{◌∙◌, [], sym, subst, CauseIs}
use Rattle.cadf_evidence.proofs.ProofLineLemmas.{fact_cause, fact_first, keys_first, only_keys}
use Rattle.cadf_evidence.proofs.proof_lines.first_parts.Goals as goal

pub returns-then-starts_keys-clause-ok : goal.returns-then-starts_keys-clause-ok
returns-then-starts_keys-clause-ok c =
    keys_first c.new-facts.result.items c.new.result.items c.args.line.now c.new-facts.ensures.items c.new.ensures.items
    (only_keys c.args.line.now (sym c.starts_keys.ensures ∙ c.if-starts_keys.true))

pub returns-in-Ok-clause-ok : goal.returns-in-Ok-clause-ok
returns-in-Ok-clause-ok c = fact_first _ _ c.args.line.now c.new-facts.ensures.items c.in-Ok.ensures.ok

pub returns-in-Err-clause-err : goal.returns-in-Err-clause-err
returns-in-Err-clause-err c =
    subst (CauseIs _) (sym (fact_cause [] c.args.line.now (sym c.starts_keys.ensures ∙ c.if-starts_keys.false))) c.in-Err.ensures.err
