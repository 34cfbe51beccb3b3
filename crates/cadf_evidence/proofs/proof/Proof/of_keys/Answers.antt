use Rattle.cadf_evidence.proofs.Common.{sym, subst, AreParts}
use Rattle.cadf_evidence.proofs.proof.Proof.of_keys.Goals as goal

pub invariant_of-result : goal.invariant_of-result
invariant_of-result c = record { facts = subst AreParts (sym c.new.ensures.items) tt; keys = c.in_ok-parts.ensures.form }
