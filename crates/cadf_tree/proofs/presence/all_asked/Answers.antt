use Rattle.cadf_tree.proofs.Common.{common_steps, ◌≡◌, ◌<◌, length, true, arith, Node}
use Rattle.cadf_tree.proofs.Walking.{asked_loop}
use Rattle.cadf_tree.proofs.presence.all_asked.Goals as goal

pub loop-index-preserved : goal.loop-index-preserved
loop-index-preserved c =
    let low : c.loop-index.index < length c.args.parts.now = grind (arith, common_steps) in
    let is : c.is_asked.result ≡ true = grind (arith, common_steps) in
    asked_loop c.args.parts.now c.args.digests.now c.loop-index.before c.latest-before.result c.loop-index.index Node _ c.is_asked.result low c.loop-index.invariant c.is_asked.ensures is
    c.latest-before.ensures
