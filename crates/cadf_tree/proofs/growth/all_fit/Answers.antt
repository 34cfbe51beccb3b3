use Rattle.cadf_tree.proofs.Common.{None, sym, fits}
use Rattle.cadf_tree.proofs.Walking.{walk_items}
use Rattle.cadf_tree.proofs.growth.all_fit.Goals as goal

pub loop-part-init : goal.loop-part-init
loop-part-init c = sym (walk_items (fits c.args.rule.now) None c.args.parts.now)
