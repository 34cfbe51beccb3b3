use Rattle.cadf_pathset.proofs.Common.{common_steps, ◌≡◌, ap, sym, ◌∙◌, arith, chains_of_chains, Contents, all_texts, chains}
use Rattle.cadf_pathset.proofs.chain_tree.ChainTreeJoin.append_lists.Goals as goal

pub returns : goal.returns
returns c =
    let old = all_texts c.args.lists.now.items in
    let is : ◌≡◌ {A = Contents} c.self.inside.chains (chains c.args.self.now) = sym (chains_of_chains c.self.inside.chains c.self.invariant.no_empty_list)
    ∙ ap chains c.self.view_is in
    grind (arith, common_steps)
