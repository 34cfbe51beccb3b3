-- What is wrong with the parts of a proof, as it is told.
--     proof_fault e    the fault of parts that are refused so
--     input_of e       the input that it is told of, of an earlier seal, a later one and a proof
use Rattle.std.specs.Prelude.{ℕ}
use Rattle.cadf_tree.specs.declared.growth.TreeFault.{TreeFault}
use Rattle.cadf_tree.specs.declared.growth.TreeFault.TheVariants as tree
use Rattle.cadf_evidence.specs.declared.fault.ProofFault.{ProofFault}
use Rattle.cadf_evidence.specs.declared.fault.ProofFault.TheVariants.{OtherCount, OtherRoot, NoTree, Order, NeighbourHidden, NotNeeded}

abbrev pub proof_fault : TreeFault → ProofFault
proof_fault tree.OtherCount = OtherCount
proof_fault tree.NoTree = NoTree
proof_fault tree.OtherEarlierRoot = OtherRoot
proof_fault tree.OtherLaterRoot = OtherRoot
proof_fault tree.Order = Order
proof_fault tree.NeighbourHidden = NeighbourHidden
proof_fault tree.NotNeeded = NotNeeded

abbrev pub input_of : TreeFault → ℕ
input_of tree.OtherCount = 3
input_of tree.NoTree = 3
input_of tree.OtherEarlierRoot = 1
input_of tree.OtherLaterRoot = 2
input_of tree.Order = 3
input_of tree.NeighbourHidden = 3
input_of tree.NotNeeded = 3
