use Rattle.cadf_pathset.proofs.Common.{◌≡◌, [], ap, ◌∙◌, filter_map, longest, longest_of, texts_found, if_ok_then, strip}
use Rattle.cadf_join.specs.Sets as set
use Rattle.cadf_pathset.proofs.Chained.{all_stripped}
use Rattle.cadf_pathset.proofs.chain_tree.ChainTree.longest.Goals as goal

pub returns : goal.returns
returns c =
    let all = set.rising c.self.inside.chains in
    if_ok_then c.longest_suffix.result (λ found. texts_found found ≡ longest_of (filter_map (strip []) all)) (λ found. texts_found found ≡ longest c.args.self.now)
    (λ found e. e ∙ ap longest_of (all_stripped all) ∙ ap longest c.self.view_is) c.longest_suffix.ensures
