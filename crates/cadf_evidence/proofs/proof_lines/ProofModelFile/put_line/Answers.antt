use Rattle.cadf_evidence.proofs.Common.{◌∙◌, sym, subst, IfErr, on_ok_then, CauseIs, AreTold}
use Rattle.cadf_evidence.proofs.ProofLineLemmas.{fact_put, fact_cause, key_put, key_cause, keys_put, only_keys}
use Rattle.cadf_evidence.proofs.proof_lines.ProofModelFile.put_line.Goals as goal

pub returns-then-not-starts_keys-clause-ok : goal.returns-then-not-starts_keys-clause-ok
returns-then-not-starts_keys-clause-ok c =
    rw c.in-Facts.is (on_ok_then c.put_part.result
    (fact_put c.in-Facts.facts.items c.put_part.new.parts.items c.args.line.now (subst AreTold c.in-Facts.is c.requires).facts) c.put_part.ensures.ok)

pub returns-then-not-starts_keys-clause-err : goal.returns-then-not-starts_keys-clause-err
returns-then-not-starts_keys-clause-err c =
    rw c.in-Facts.is (subst (λ o. IfErr c.put_part.result (λ e. CauseIs e o))
    (sym (fact_cause c.in-Facts.facts.items c.args.line.now (sym c.starts_keys.ensures ∙ c.if-not-starts_keys.true))) c.put_part.ensures.err)

pub returns-in-Keys-clause-ok : goal.returns-in-Keys-clause-ok
returns-in-Keys-clause-ok c =
    rw c.in-Keys.is (on_ok_then c.put_part-in-Keys.result
    (key_put c.in-Keys.field-0.items c.in-Keys.keys.items c.put_part-in-Keys.new.parts.items c.args.line.now (subst AreTold c.in-Keys.is c.requires))
    c.put_part-in-Keys.ensures.ok)

pub returns-in-Keys-clause-err : goal.returns-in-Keys-clause-err
returns-in-Keys-clause-err c =
    rw c.in-Keys.is (subst (λ o. IfErr c.put_part-in-Keys.result (λ e. CauseIs e o))
    (sym (key_cause c.in-Keys.field-0.items c.in-Keys.keys.items c.args.line.now)) c.put_part-in-Keys.ensures.err)

pub returns-else-not-starts_keys-clause-ok : goal.returns-else-not-starts_keys-clause-ok
returns-else-not-starts_keys-clause-ok c =
    rw c.in-Facts.is (rw c.replace-facts.ensures.value (keys_put c.in-Facts.facts.items c.new-in-Facts.result.items c.args.line.now
    (subst AreTold c.in-Facts.is c.requires).facts (only_keys c.args.line.now (sym c.starts_keys.ensures ∙ c.if-not-starts_keys.false))
    c.new-in-Facts.ensures.items))
