use Rattle.cadf_tree.proofs.Common.{common_steps, ◌≡◌, ◌∷◌, arith}
use Rattle.cadf_tree.proofs.OnePass.{root_none, root_code}
use Rattle.cadf_tree.proofs.tree.hash_of_tree.Goals as goal

pub returns-in_default : goal.returns-in_default
returns-in_default c = grind (arith, common_steps, root_none)

pub returns : goal.returns
returns c =
    let all : c.args.digests.now ≡ c.in-Some.first.now ∷ c.in-Some.rest.now = grind (arith, common_steps) in
    root_code c.in-Some.first.now c.in-Some.rest.now c.args.digests.now c.hash_of_leaf.result c.extended.result.0 all c.requires c.hash_of_leaf.ensures c.extended.ensures.hash
