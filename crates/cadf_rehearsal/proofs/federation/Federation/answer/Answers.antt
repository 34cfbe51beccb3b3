use Rattle.cadf_rehearsal.proofs.Common.{common_steps, length, Ok, ap, sym, subst, ◌∙◌, inr, arith, ◌≢◌, missing_by, atom_digest, IsLogFault, world_of, log_of_message, message_of}
use Rattle.cadf_join.specs.Sets as set
use Rattle.cadf_rehearsal.specs.Schedule as schedule
use Rattle.cadf_rehearsal.proofs.Turns.{at_site, at_message, site_log, message_log, kept_later}
use Rattle.cadf_rehearsal.proofs.Seen.{at_or_read, seen_posted}
use Rattle.cadf_rehearsal.proofs.Turns.{not_answered}
use Rattle.cadf_rehearsal.proofs.federation.Federation.answer.Goals as goal

pub returns-in_default : goal.returns-in_default
returns-in_default c =
    let f = c.args.self.now in
    let x = c.index.result.now in
    record {
      ok = tt;
      later = tt;
      err = λ log one.
          let answer = schedule.answered atom_digest log (length f.sites.items) c.args.number (world_of f) c.args.site in
          inr (at_site f c.args.site c.args.number _ _ (omega arith)
          (at_message f c.args.message c.args.number x answer _ (omega arith) (omega arith) c.index.ensures
          (not_answered log f c.args.number c.args.site x c.in_default.not-Asked)));
    }

pub returns-clause-ok : goal.returns-clause-ok
returns-clause-ok c log one =
    let f = c.args.self.now in
    let x = c.index.result.now in
    let answer = schedule.answered atom_digest log (length f.sites.items) c.args.number (world_of f) c.args.site in
    let own = at_or_read _ set.empty f.sites.items c.args.site c.index-in-Asked.result.now (omega arith) c.index-in-Asked.ensures in
    at_site f c.args.site c.args.number _ _ (omega arith)
    (at_message f c.args.message c.args.number x answer _ (omega arith) (omega arith) c.index.ensures
    (ap (λ m. answer (message_of m)) c.in-Asked.is
    ∙ ap Ok (
    ap (λ s. schedule.makes (world_of f) (schedule.PartFor c.in-Asked.asker (missing_by atom_digest s c.in-Asked.held.digests))) own
    ∙ ap (λ s. schedule.makes (world_of f) (schedule.PartFor c.in-Asked.asker s)) (sym (ap (λ h. h.atoms) c.in-Ok.ensures.ok.1))
    ∙ seen_posted _ _ _ f.sites.items _ f.messages.items _ _ (ap (λ v. v.items) c.post.ensures.rest) c.in_ok-post.ensures.ok)))

pub returns-clause-later : goal.returns-clause-later
returns-clause-later c = grind (arith, common_steps, kept_later, site_log)

-- the site and the asker are of one log
pub unreachable-requires : goal.unreachable-requires
unreachable-requires c =
    let f = c.args.self.now in
    let own = site_log c.requires.0 f c.args.site c.index-in-Asked.result.now c.requires.1 (omega arith) c.index-in-Asked.ensures in
    let asked = message_log c.requires.0 f c.args.message c.index.result.now c.requires.1 (omega arith) (omega arith) c.index.ensures in
    let other : c.index-in-Asked.result.now.log ≢ c.in-Asked.held.log = subst (IsLogFault _ _) c.in-Err-OtherLog.field-0-is c.in-Err-OtherLog.ensures.err in
    other (own ∙ sym asked ∙ ap log_of_message c.in-Asked.is)
