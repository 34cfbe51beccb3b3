use Rattle.cadf_siteseal.proofs.Common.{◌∙◌, ◌∷◌, ◌++◌, Ok, drop, sym, ap, subst, option_map, grown, SiteFaultIs, named}
use Rattle.cadf_siteseal.proofs.JudgedParts.{said}
use Rattle.cadf_siteseal.proofs.judged.window_text.Goals as goal

pub returns-in-Ok-clause-ok : goal.returns-in-Ok-clause-ok
returns-in-Ok-clause-ok c =
    said c.args.earlier.now c.args.later.now _ c.args.name.now (drop c.args.from c.args.items.now) c.log-log.result.now c.in_ok-old.old c.in_ok-new.new c.in_ok-proof.proof
    c.log-log.ensures c.in_ok-old.ensures c.in_ok-new.ensures c.in_ok-proof.ensures
    ∙ ap (named c.args.name.now) c.in-Ok.ensures.ok
    ∙ ap Ok (sym (c.in_ok-named_line-in-Ok.ensures ∙ ap (λ s. c.args.name.now ++ 58 ∷ 32 ∷ s) c.as_slice.ensures.value))

pub returns-clause-err : goal.returns-clause-err
returns-clause-err c =
    let list = option_map (λ l. l.now) c.args.list in
    let r = grown c.in_ok-old.old c.in_ok-new.new c.in_ok-proof.proof list in
    subst (SiteFaultIs c.named_fault.result)
    (ap (λ n. named n r) c.in_ok-copy-in-Err.ensures
    ∙ sym (said c.args.earlier.now c.args.later.now list c.args.name.now (drop c.args.from c.args.items.now) c.log-log.result.now c.in_ok-old.old c.in_ok-new.new
    c.in_ok-proof.proof c.log-log.ensures c.in_ok-old.ensures c.in_ok-new.ensures c.in_ok-proof.ensures))
    (c.named_fault.ensures r c.in-Err.ensures.err)
