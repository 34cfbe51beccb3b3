use Rattle.cadf_evidence.proofs.Common.{◌≡◌, ◌∙◌, map, ap, sym, arith, common_steps, None, option_map, last_or, line, is_above_digest}
use Rattle.cadf_evidence.proofs.KeyFiles.{cause_not, cause_order, cause_shape, last_is}
use Rattle.cadf_evidence.proofs.key_lines.put_key.Goals as goal

pub returns-in_default-clause-err : goal.returns-in_default-clause-err
returns-in_default-clause-err c = cause_shape (map line c.args.keys.now.items) c.args.line.now (sym (rw c.in_default.is at c.in_ok-key.ensures))

pub returns-then-not-branch-clause-err : goal.returns-then-not-branch-clause-err
returns-then-not-branch-clause-err c =
    let keys : c.deref.result.now ≡ c.args.keys.now.items = grind (arith, common_steps) in
    let last = ap (option_map line) c.last.ensures.value ∙ last_is c.deref.result.now ∙ ap (λ qs. last_or None (map line qs)) keys in
    cause_order (map line c.args.keys.now.items) c.args.line.now c.in-Some.key (sym (rw c.in-Some.is at c.in_ok-key.ensures))
    (ap (is_above_digest c.args.line.now) (sym last) ∙ sym (rw c.if-not-branch.true at c.in_ok-is_above.ensures))

pub returns-clause-ok : goal.returns-clause-ok
returns-clause-ok c =
    let keys : c.deref.result.now ≡ c.args.keys.now.items = grind (arith, common_steps) in
    let last = ap (option_map line) c.last.ensures.value ∙ last_is c.deref.result.now ∙ ap (λ qs. last_or None (map line qs)) keys in
    let read = sym (rw c.in-Some.is at c.in_ok-key.ensures) in (
      cause_not (map line c.args.keys.now.items) c.args.line.now c.in-Some.key read
          (ap (is_above_digest c.args.line.now) (sym last) ∙ sym (rw c.if-not-branch.false at c.in_ok-is_above.ensures)),
      (c.in-Some.key, read, c.in_ok-push.ensures.items),
    )
