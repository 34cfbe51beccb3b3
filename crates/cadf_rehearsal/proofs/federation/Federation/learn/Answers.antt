use Rattle.cadf_rehearsal.proofs.Common.{common_steps, Ok, Err, ap, subst, ◌∙◌, cond, arith, world_of, IsOfLog, document_atoms}
use Rattle.cadf_rehearsal.specs.Schedule as schedule
use Rattle.cadf_rehearsal.specs.declared.fault.RehearseFault.TheVariants as fault
use Rattle.cadf_rehearsal.proofs.Turns.{at_site, site_log, site_takes, site_later, of_log, of_other_log}
use Rattle.cadf_rehearsal.proofs.federation.Federation.learn.Goals as goal

pub returns-in-Ok-clause-ok : goal.returns-in-Ok-clause-ok
returns-in-Ok-clause-ok c log one =
    let f = c.args.self.now in
    let site = c.index_mut.result.now in
    let same = site_log log f c.args.site site one (omega arith) c.index_mut.ensures.value in
    let named = subst (λ x. IsOfLog x c.args.document.now.log) same c.in-Ok.ensures.ok.0 in
    at_site f c.args.site c.args.number _ _ (omega arith)
    (ap (λ t. cond t (Ok (schedule.adds (world_of f) c.args.site (document_atoms c.args.document.now))) (Err (fault.OtherLog c.args.number)))
    (of_log log c.args.document.now.log named)
    ∙ ap Ok (site_takes f c.args.site site c.take_document.new.self _ (omega arith) c.index_mut.ensures.value c.in-Ok.ensures.ok.1))

pub returns-in-Ok-clause-later : goal.returns-in-Ok-clause-later
returns-in-Ok-clause-later c = grind (arith, common_steps, site_later, site_log)

pub returns-in-Err-OtherLog-clause-err : goal.returns-in-Err-OtherLog-clause-err
returns-in-Err-OtherLog-clause-err c log one = grind (arith, common_steps, site_log, at_site, of_other_log)
