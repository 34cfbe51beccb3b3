use Rattle.cadf_tree.proofs.Common.{common_steps, ◌≡◌, ◌∙◌, IfOk, ap, subst, arith, length, None, tree_of, made_parts, walked_kinds}
use Rattle.cadf_tree.proofs.Asking.{kinds_length, walked_is}
use Rattle.cadf_tree.proofs.asked.presence_of.Goals as goal

pub parts_of-requires-clause-same : goal.parts_of-requires-clause-same
parts_of-requires-clause-same c =
    let walked : c.deref.result.now ≡ walked_kinds c.args.digests.now c.args.asked.now = grind (arith, common_steps) in
    ap length (walked ∙ walked_is c.args.digests.now c.args.asked.now c.requires.digests c.requires.asked) ∙ kinds_length c.args.asked.now None c.args.digests.now

pub returns : goal.returns
returns c =
    let walked : c.deref.result.now ≡ walked_kinds c.args.digests.now c.args.asked.now = grind (arith, common_steps) in
    subst (λ ks. IfOk c.parts_of.result (λ parts. parts.items ≡ made_parts (tree_of c.args.digests.now) ks))
    (walked ∙ walked_is c.args.digests.now c.args.asked.now c.requires.digests c.requires.asked) c.parts_of.ensures
