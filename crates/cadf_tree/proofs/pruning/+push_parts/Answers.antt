use Rattle.cadf_tree.proofs.Common.{common_steps, ◌≡◌, ◌<◌, length, false, arith, any_shown}
use Rattle.cadf_tree.proofs.Halving.{none_code, one_code, hidden_code}
use Rattle.cadf_tree.proofs.pruning.+push_parts.Goals as goal

pub returns-then-is_empty : goal.returns-then-is_empty
returns-then-is_empty t c =
    let none : length c.args.digests.now ≡ 0 = grind (arith, common_steps) in
    none_code c.args.parts.now.items c.args.digests.now c.args.kinds.now none

pub returns-then-digests-eq1 : goal.returns-then-digests-eq1
returns-then-digests-eq1 t c =
    let one : length c.args.digests.now ≡ 1 = grind (arith, common_steps) in
    one_code c.args.parts.now.items c.push.new.self.items c.args.digests.now c.args.kinds.now c.leaf_part.result _ _ one c.requires.same c.leaf_part.ensures c.in_ok-push.ensures.items

pub returns-then-not-any_shown : goal.returns-then-not-any_shown
returns-then-not-any_shown t c =
    let some : 0 < length c.args.digests.now = grind (arith, common_steps) in
    let none : any_shown c.args.kinds.now ≡ false = grind (arith, common_steps) in
    hidden_code c.args.parts.now.items c.push-then-not-any_shown.new.self.items c.args.digests.now c.args.kinds.now c.hash_of_tree.result c.requires.rising some none c.hash_of_tree.ensures
    c.in_ok-push-2.ensures.items
