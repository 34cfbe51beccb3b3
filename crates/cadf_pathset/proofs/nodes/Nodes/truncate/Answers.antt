use Rattle.cadf_pathset.proofs.Common.{common_steps, arith}
use Rattle.cadf_pathset.proofs.FirstNodes.{lists_front, nodes_cut}
use Rattle.cadf_pathset.proofs.nodes.Nodes.truncate.Goals as goal

pub invariant_of-self : goal.invariant_of-self
invariant_of-self c =
    let s = c.self.inside in
    rw (c.truncate.ensures.items, c.truncate-2.ensures) (nodes_cut s.parents.items s.texts c.args.count c.self.invariant)

pub returns : goal.returns
returns c = grind (arith, common_steps, lists_front)
