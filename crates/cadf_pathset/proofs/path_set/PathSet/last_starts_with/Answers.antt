use Rattle.cadf_pathset.proofs.Common.{ap, sym, ◌∙◌, rising-from_list, texts_total, texts_same, chain_texts, last_starts_with}
use Rattle.cadf_join.specs.Sets as set
use Rattle.cadf_pathset.proofs.path_set.PathSet.last_starts_with.Goals as goal

pub returns : goal.returns
returns c =
    c.last_starts_with.ensures
    ∙ ap (λ ls. last_starts_with ls (chain_texts c.args.prefix.now))
    (sym (rising-from_list texts_total texts_same c.self.inside.rows c.self.invariant) ∙ ap set.rising c.self.view_is)
