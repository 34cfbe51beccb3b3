use Rattle.cadf_pathset.proofs.Common.{ap, sym, ◌∙◌, length, chains_of_chains, saturated}
use Rattle.cadf_join.specs.Sets as set
use Rattle.cadf_pathset.proofs.chain_tree.ChainTreeJoin.list_count.Goals as goal

pub returns : goal.returns
returns c = c.count.ensures ∙ ap (λ s. saturated (length (set.rising s))) (sym (chains_of_chains c.args.self.now c.type_invariant.ensures.no_empty_list))
