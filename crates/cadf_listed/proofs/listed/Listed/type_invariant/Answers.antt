use Rattle.cadf_listed.proofs.Common.{subst, AreNames}
use Rattle.cadf_listed.proofs.ListLemmas.{are_names}
use Rattle.cadf_listed.proofs.listed.Listed.type_invariant.Goals as goal

pub returns-clause-names : goal.returns-clause-names
returns-clause-names g c = subst (λ l. AreNames l.names) c.self.view_is (are_names _ c.self.invariant)
