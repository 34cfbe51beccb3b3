use Rattle.cadf_evidence.proofs.Common.{◌≡◌, arith, common_steps, on_ok_then, Both, Leaf}
use Rattle.cadf_evidence.proofs.LeafSets.{leaf_inserted}
use Rattle.cadf_evidence.proofs.shown_parts.put_leaf.Goals as goal

pub returns-in-Leaf-Both-default : goal.returns-in-Leaf-Both-default
returns-in-Leaf-Both-default c =
    let is : c.args.part.now ≡ Leaf Both c.in-Leaf-Both-default.digest = grind (arith, common_steps) in
    on_ok_then c.put.result (λ e. leaf_inserted c.args.leaves.now.digests c.put.new.self.digests c.in-Leaf-Both-default.digest c.args.part.now is e) c.put.ensures.ok
