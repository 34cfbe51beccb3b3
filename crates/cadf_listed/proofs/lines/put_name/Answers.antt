use Rattle.cadf_listed.proofs.Common.{◌≡◌, ◌∙◌, ap, sym, arith, common_steps, last_or, None, is_above_digest}
use Rattle.cadf_listed.proofs.ListLemmas.{cause_not, cause_order, cause_shape, last_is}
use Rattle.cadf_listed.proofs.lines.put_name.Goals as goal

pub returns-in_default-clause-err : goal.returns-in_default-clause-err
returns-in_default-clause-err c = cause_shape c.args.names.now.items c.args.line.now (sym (rw c.in_default.is at c.name_in.ensures))

pub returns-then-not-is_above-clause-err : goal.returns-then-not-is_above-clause-err
returns-then-not-is_above-clause-err c =
    let names : c.deref.result.now ≡ c.args.names.now.items = grind (arith, common_steps) in
    let last = c.last.ensures.value ∙ last_is c.deref.result.now ∙ ap (last_or None) names in
    cause_order c.args.names.now.items c.args.line.now c.in-Some.name (sym (rw c.in-Some.is at c.name_in.ensures))
    (ap (is_above_digest c.in-Some.name) (sym last) ∙ sym (rw c.if-not-is_above.true at c.is_above.ensures))

pub returns-clause-ok : goal.returns-clause-ok
returns-clause-ok c =
    let names : c.deref.result.now ≡ c.args.names.now.items = grind (arith, common_steps) in
    let last = c.last.ensures.value ∙ last_is c.deref.result.now ∙ ap (last_or None) names in
    let read = sym (rw c.in-Some.is at c.name_in.ensures) in (
      cause_not c.args.names.now.items c.args.line.now c.in-Some.name read
          (ap (is_above_digest c.in-Some.name) (sym last) ∙ sym (rw c.if-not-is_above.false at c.is_above.ensures)),
      (c.in-Some.name, read, c.in_ok-push.ensures.items),
    )
