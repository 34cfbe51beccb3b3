use Rattle.cadf_pathset.proofs.Common.{ap, subst, sym, ◌∙◌, IfSome, is_some, not, IsLeastWith, texts_total, chains, HasNoEmptyList}
use Rattle.cadf_join.specs.Sets as set
use Rattle.cadf_join.specs.laws.Contents as laws
use Rattle.cadf_join.specs.laws.Sets as sets
use Rattle.cadf_join.specs.laws.Chains as chain_laws
use Rattle.cadf_pathset.proofs.Chained.{least_is}
use Rattle.cadf_pathset.proofs.chain_tree.ChainTreeJoin.missing_from.Goals as goal

pub invariant_of-result : goal.invariant_of-result
invariant_of-result c =
    let s = c.self.inside.chains in
    let o = c.other.inside.chains in
    let left = least_is (set.difference s o) c.in-Some.chains
    (subst (λ r. IfSome r (IsLeastWith (λ z. Unit {0}) (set.difference s o))) c.in-Some.is c.in_ok-chains.ensures.least) in
    chain_laws.are_chains_within c.in-Some.chains s
    (sets.IsWithin-trans _ _ _ (sets.IsWithin-same left) (sets.IsWithin-difference texts_total s o)) c.self.invariant

pub returns-in-Some-clause-some : goal.returns-in-Some-clause-some
returns-in-Some-clause-some c =
    let ours = sym (chain_laws.chains_of_chains c.self.inside.chains c.self.invariant.no_empty_list) ∙ ap chains c.self.view_is in
    let theirs = sym (chain_laws.chains_of_chains c.other.inside.chains c.other.invariant.no_empty_list) ∙ ap chains c.other.view_is in
    sym (ap is_some c.in-Some.is) ∙ c.in_ok-chains.ensures.some ∙ (λ i. not (set.is_subset (ours i) (theirs i)))

pub returns-in-Some-clause-least : goal.returns-in-Some-clause-least
returns-in-Some-clause-least c =
    let s = c.self.inside.chains in
    let o = c.other.inside.chains in
    let left = least_is (set.difference s o) c.in-Some.chains
    (subst (λ r. IfSome r (IsLeastWith (λ z. Unit {0}) (set.difference s o))) c.in-Some.is c.in_ok-chains.ensures.least) in
    laws.least_exact HasNoEmptyList _ _
    (ap chains left ∙ chain_laws.chains-difference s o ∙ (λ i. set.difference (chains (c.self.view_is i)) (chains (c.other.view_is i))))
    (chain_laws.chains_have_no_empty_list c.in-Some.chains)

pub returns-in-None-clause-some : goal.returns-in-None-clause-some
returns-in-None-clause-some c =
    let ours = sym (chain_laws.chains_of_chains c.self.inside.chains c.self.invariant.no_empty_list) ∙ ap chains c.self.view_is in
    let theirs = sym (chain_laws.chains_of_chains c.other.inside.chains c.other.invariant.no_empty_list) ∙ ap chains c.other.view_is in
    sym (ap is_some c.in-None.is) ∙ c.in_ok-chains.ensures.some ∙ (λ i. not (set.is_subset (ours i) (theirs i)))
