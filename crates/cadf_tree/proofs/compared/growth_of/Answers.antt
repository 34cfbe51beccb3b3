use Rattle.cadf_tree.proofs.Common.{common_steps, ◌≡◌, ◌∙◌, false, ap, sym, subst, arith, length, IsSet, change_shown, compared, digests_of, kinds_of}
use Rattle.cadf_tree.proofs.Comparing.{shown_length, union_set}
use Rattle.cadf_tree.proofs.compared.growth_of.Goals as goal

pub parts_of-requires-clause-digests : goal.parts_of-requires-clause-digests
parts_of-requires-clause-digests c =
    let all : c.deref-3.result.now ≡ digests_of (compared c.args.earlier.now c.args.later.now) = grind (arith, common_steps) in
    subst IsSet (sym all) (union_set c.args.earlier.now c.args.later.now c.requires.earlier c.requires.later)

pub parts_of-requires-clause-same : goal.parts_of-requires-clause-same
parts_of-requires-clause-same c =
    let all : c.deref-3.result.now ≡ digests_of (compared c.args.earlier.now c.args.later.now) = grind (arith, common_steps) in
    let kinds : c.deref-4.result.now ≡ change_shown false (kinds_of (compared c.args.earlier.now c.args.later.now)) = grind (arith, common_steps) in
    ap length kinds ∙ shown_length false (compared c.args.earlier.now c.args.later.now) ∙ sym (ap length all)
