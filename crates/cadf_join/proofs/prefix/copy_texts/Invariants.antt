use Rattle.cadf_join.proofs.Common.{◌≡◌, ◌++◌, drop, chain_texts}
use Rattle.cadf_join.proofs.prefix.copy_texts.Given as goal

abbrev pub invariant-loop-text : goal.invariant-loop-text
invariant-loop-text l = chain_texts l.list.items ++ chain_texts (drop l.text-index l.prefix) ≡ chain_texts l.prefix
