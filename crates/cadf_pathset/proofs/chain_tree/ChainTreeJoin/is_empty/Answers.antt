use Rattle.cadf_pathset.proofs.Common.{◌≡◌, false, ap, sym, ◌∙◌, [], chains}
use Rattle.cadf_join.specs.Sets as set
use Rattle.cadf_join.specs.laws.Chains as chain_laws
use Rattle.cadf_pathset.proofs.chain_tree.ChainTreeJoin.is_empty.Goals as goal

pub returns : goal.returns
returns c =
    let s = c.args.self.now in
    let none : set.contains s [] ≡ false = ap (λ x. set.contains x []) (sym c.self.view_is) ∙ c.self.invariant.no_empty_list in (
      λ yes. ap chains (sym c.self.view_is ∙ c.is_empty.ensures.0 yes) ∙ chain_laws.chains-empty,
      λ e. c.is_empty.ensures.1 (c.self.view_is ∙ sym (chain_laws.chains_of_chains s none) ∙ e),
    )
