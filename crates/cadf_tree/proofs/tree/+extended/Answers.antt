use Rattle.cadf_tree.proofs.Common.{common_steps, ◌≡◌, ◌∙◌, ◌∷◌, ap, arith}
use Rattle.cadf_tree.proofs.Steps.{go_code}
use Rattle.cadf_tree.proofs.tree.+extended.Goals as goal

pub returns-clause-hash : goal.returns-clause-hash
returns-clause-hash t c =
    let rest : c.args.rest.now ≡ c.in-Some.next.now ∷ c.in-Some.others.now = grind (arith, common_steps) in
    c.extended-2.ensures.hash ∙ ap (λ x. x.0)
    (go_code c.args.first.now c.args.hash c.in-Some.next.now c.in-Some.others.now c.args.rest.now c.args.shared c.parting-place.result c.hash_of_leaf.result c.hash_of_node.result
    c.extended.result.0 c.extended.result.1.now rest c.parting-place.ensures.place (grind (arith, common_steps)) c.hash_of_leaf.ensures c.extended.ensures.hash c.extended.ensures.rest c.hash_of_node.ensures)

pub returns-clause-rest : goal.returns-clause-rest
returns-clause-rest t c =
    let rest : c.args.rest.now ≡ c.in-Some.next.now ∷ c.in-Some.others.now = grind (arith, common_steps) in
    c.extended-2.ensures.rest ∙ ap (λ x. x.1)
    (go_code c.args.first.now c.args.hash c.in-Some.next.now c.in-Some.others.now c.args.rest.now c.args.shared c.parting-place.result c.hash_of_leaf.result c.hash_of_node.result
    c.extended.result.0 c.extended.result.1.now rest c.parting-place.ensures.place (grind (arith, common_steps)) c.hash_of_leaf.ensures c.extended.ensures.hash c.extended.ensures.rest c.hash_of_node.ensures)
