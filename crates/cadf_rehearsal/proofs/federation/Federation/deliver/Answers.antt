use Rattle.cadf_rehearsal.proofs.Common.{rules, ◌≡◌, Ok, Err, ap, sym, ◌∙◌, cond, eq-eqb, ne_eqb, inr, arith, world_of, message_of, log_of_message}
use Rattle.cadf_rehearsal.specs.Schedule as schedule
use Rattle.cadf_rehearsal.specs.declared.fault.RehearseFault.TheVariants as fault
use Rattle.cadf_rehearsal.proofs.Turns.{at_site, at_message, site_log, message_log, site_takes, site_later}
use Rattle.cadf_rehearsal.proofs.federation.Federation.deliver.Goals as goal

pub returns-then-asker-site-clause-err : goal.returns-then-asker-site-clause-err
returns-then-asker-site-clause-err c log one =
    let f = c.args.self.now in
    let x = c.index.result.now in
    let deliver = schedule.delivered c.args.number (world_of f) c.args.site in
    inr (at_site f c.args.site c.args.number _ _ (omega arith)
    (at_message f c.args.message c.args.number x deliver _ (omega arith) (omega arith) c.index.ensures
    (ap (λ m. deliver (message_of m)) c.in-PartFor.is
    ∙ ap (λ b. cond b (Ok (schedule.adds (world_of f) c.args.site c.in-PartFor.part.atoms)) (Err (fault.WrongAddressee c.args.number)))
    (ne_eqb c.in-PartFor.asker c.args.site c.if-asker-site.true))))

pub joined-requires : goal.joined-requires
joined-requires c =
    let f = c.args.self.now in
    let x = c.index.result.now in
    sym (ap log_of_message c.in-PartFor.is)
    ∙ message_log c.requires.0 f c.args.message x c.requires.1 (omega arith) (omega arith) c.index.ensures
    ∙ sym (site_log c.requires.0 f c.args.site c.index_mut.result.now c.requires.1 (omega arith) c.index_mut.ensures.value)

pub joined-requires-in-Whole : goal.joined-requires-in-Whole
joined-requires-in-Whole c =
    let f = c.args.self.now in
    let x = c.index.result.now in
    sym (ap log_of_message c.in-Whole.is)
    ∙ message_log c.requires.0 f c.args.message x c.requires.1 (omega arith) (omega arith) c.index.ensures
    ∙ sym (site_log c.requires.0 f c.args.site c.index_mut-in-Whole.result.now c.requires.1 (omega arith) c.index_mut-in-Whole.ensures.value)

pub returns-in-Asked-clause-ok : goal.returns-in-Asked-clause-ok
returns-in-Asked-clause-ok c log one =
    let f = c.args.self.now in
    let x = c.index.result.now in
    let deliver = schedule.delivered c.args.number (world_of f) c.args.site in
    at_site f c.args.site c.args.number _ _ (omega arith)
    (at_message f c.args.message c.args.number x deliver _ (omega arith) (omega arith) c.index.ensures
    (ap (λ m. deliver (message_of m)) c.in-Asked.is))

pub returns-in_ok-joined-in-PartFor-clause-ok : goal.returns-in_ok-joined-in-PartFor-clause-ok
returns-in_ok-joined-in-PartFor-clause-ok c log one =
    let f = c.args.self.now in
    let x = c.index.result.now in
    let deliver = schedule.delivered c.args.number (world_of f) c.args.site in
    let adds = schedule.adds (world_of f) c.args.site c.in-PartFor.part.atoms in
    let same : c.in-PartFor.asker ≡ c.args.site = omega arith in
    at_site f c.args.site c.args.number _ _ (omega arith)
    (at_message f c.args.message c.args.number x deliver _ (omega arith) (omega arith) c.index.ensures
    (ap (λ m. deliver (message_of m)) c.in-PartFor.is
    ∙ ap (λ b. cond b (Ok adds) (Err (fault.WrongAddressee c.args.number))) (eq-eqb c.in-PartFor.asker c.args.site same)
    ∙ ap Ok (site_takes f c.args.site c.index_mut.result.now c.joined.new.site _ (omega arith) c.index_mut.ensures.value c.in_ok-joined-in-PartFor.ensures.ok)))

pub returns-in_ok-joined-in-PartFor-clause-later : goal.returns-in_ok-joined-in-PartFor-clause-later
returns-in_ok-joined-in-PartFor-clause-later c = search (rules, site_later, site_log)

pub returns-in_ok-joined-in-Whole-clause-ok : goal.returns-in_ok-joined-in-Whole-clause-ok
returns-in_ok-joined-in-Whole-clause-ok c log one =
    let f = c.args.self.now in
    let x = c.index.result.now in
    let deliver = schedule.delivered c.args.number (world_of f) c.args.site in
    at_site f c.args.site c.args.number _ _ (omega arith)
    (at_message f c.args.message c.args.number x deliver _ (omega arith) (omega arith) c.index.ensures
    (ap (λ m. deliver (message_of m)) c.in-Whole.is
    ∙ ap Ok (site_takes f c.args.site c.index_mut-in-Whole.result.now c.joined-in-Whole.new.site _ (omega arith) c.index_mut-in-Whole.ensures.value
    c.in_ok-joined-in-Whole.ensures.ok)))

pub returns-in_ok-joined-in-Whole-clause-later : goal.returns-in_ok-joined-in-Whole-clause-later
returns-in_ok-joined-in-Whole-clause-later c = search (rules, site_later, site_log)
