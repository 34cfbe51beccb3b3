use Rattle.cadf_pathset.proofs.Common.{◌≡◌, ◌++◌, drop, map, all_texts, rest_of}
use Rattle.cadf_join.specs.Sets as set
use Rattle.cadf_pathset.proofs.suffix_set.SuffixSet.lists.Given as goal

abbrev pub invariant-loop-node : goal.invariant-loop-node
invariant-loop-node l = all_texts l.lists.items ++ map (rest_of l.self-inside.nodes.now l.self-inside.depth) (drop l.node-index l.node-items) ≡ set.rising l.self
