use Rattle.cadf_rehearsal.proofs.Common.{subst, sym, OnOk, Turn, TurnsTo}
use Rattle.cadf_rehearsal.proofs.federation.Federation.take.Goals as goal

pub returns-in-Deliver-clause-ok : goal.returns-in-Deliver-clause-ok
returns-in-Deliver-clause-ok c =
    subst (λ (t : Turn). OnOk c.deliver.result (TurnsTo c.args.self.now c.args.number t c.deliver.new.self))
    (sym c.in-Deliver.is) c.deliver.ensures.ok
