use Rattle.cadf_pathset.proofs.Common.{◌≡◌, ◌++◌, drop, chain_texts, texts_at}
use Rattle.cadf_pathset.proofs.path_set.continued.Given as goal

abbrev pub invariant-loop-text : goal.invariant-loop-text
invariant-loop-text l = chain_texts l.list.items ++ texts_at (drop l.text-index l.path) ≡ chain_texts l.prefix ++ texts_at l.path
