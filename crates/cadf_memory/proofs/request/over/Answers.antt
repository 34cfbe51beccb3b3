use Rattle.cadf_memory.proofs.Common.{common_steps, err_from_is_err_and, arith, rules, refl, sym, ap, ◌∙◌, ◌≡◌, subst, map, length, true, accepts, bytes_in, unread, slice_state}
use Rattle.cadf_memory.proofs.Outcomes.{no_memory, counted, outcome}
use Rattle.cadf_memory.proofs.request.over.Goals as goal

pub returns-in_err-sources-clause-err : goal.returns-in_err-sources-clause-err
returns-in_err-sources-clause-err c = grind (arith, common_steps, err_from_is_err_and, no_memory)

pub run-run-requires : goal.run-run-requires
run-run-requires c =
    subst (λ n. accepts c.args.request.now n ≡ true) (sym (ap length c.deref_mut.ensures.value ∙ counted _ c.args.inputs.now c.in_ok-sources.ensures)) c.requires

pub returns : goal.returns
returns c =
    let ran = outcome _ _ c.new-buffer.result c.run-run.new.output refl refl _ _ _ c.new-buffer.ensures.before c.new-buffer.ensures.text
    c.told.ensures.same (λ same. search rules) c.args.request.now (bytes_in c.args.inputs.now) _ c.run-run.new.sources
    (subst (λ ss. map slice_state ss ≡ map unread (bytes_in c.args.inputs.now)) (sym c.deref_mut.ensures.value) c.in_ok-sources.ensures) (search rules)
    c.run-run.ensures.run in
    record { ok = ran.ok; err = ran.err; only = c.told.ensures.only }
