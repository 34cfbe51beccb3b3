use Rattle.cadf_rehearsal.proofs.Common.{common_steps, Ok, ap, sym, ◌∙◌, arith, digests_of, atom_digest, world_of}
use Rattle.cadf_join.specs.Sets as set
use Rattle.cadf_rehearsal.specs.Schedule as schedule
use Rattle.cadf_rehearsal.proofs.Turns.{at_site, site_log, kept_later}
use Rattle.cadf_rehearsal.proofs.Seen.{at_or_read, seen_posted}
use Rattle.cadf_rehearsal.proofs.federation.Federation.ask.Goals as goal

pub returns-clause-ok : goal.returns-clause-ok
returns-clause-ok c log one =
    let f = c.args.self.now in
    let own = at_or_read _ set.empty f.sites.items c.args.site c.index.result.now (omega arith) c.index.ensures in
    at_site f c.args.site c.args.number _ _ (omega arith) (ap Ok (
    ap (λ s. schedule.makes (world_of f) (schedule.Inventory c.args.site (digests_of atom_digest s))) own
    ∙ ap (λ d. schedule.makes (world_of f) (schedule.Inventory c.args.site d)) (sym (ap (λ i. i.digests) c.in_ok-held.ensures))
    ∙ seen_posted _ _ _ f.sites.items _ f.messages.items _ _ (ap (λ v. v.items) c.post.ensures.rest) c.in_ok-post.ensures.ok))

pub returns-clause-later : goal.returns-clause-later
returns-clause-later c = grind (arith, common_steps, kept_later, site_log)
