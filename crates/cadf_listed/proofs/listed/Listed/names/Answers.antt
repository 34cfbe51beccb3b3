use Rattle.cadf_listed.proofs.Common.{◌∙◌, ap, sym, subst, rising, rising_again, AreRisingNames}
use Rattle.cadf_listed.proofs.listed.Listed.names.Goals as goal

pub returns-clause-names : goal.returns-clause-names
returns-clause-names g c = c.shown.ensures ∙ sym (rising_again _ c.self.invariant.1) ∙ ap (λ l. rising l.names) c.self.view_is

pub returns-clause-all : goal.returns-clause-all
returns-clause-all g c = subst AreRisingNames (sym c.shown.ensures) c.self.invariant
