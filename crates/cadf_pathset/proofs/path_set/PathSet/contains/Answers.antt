use Rattle.cadf_pathset.proofs.Common.{◌∙◌, texts_at}
use Rattle.cadf_pathset.proofs.Halving.{found_is_held}
use Rattle.cadf_pathset.proofs.path_set.PathSet.contains.Goals as goal

pub returns : goal.returns
returns c =
    c.is_ok.ensures.value
    ∙ found_is_held (texts_at c.args.list.now) c.self.inside.rows c.args.self.now c.seek.result c.self.view_is c.seek.ensures.held c.seek.ensures.below
    c.seek.ensures.above
