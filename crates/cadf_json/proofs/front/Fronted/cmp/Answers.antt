use Rattle.cadf_json.proofs.Common.{nat_cmp, ap₂, ◌∙◌, slice_cmp}
use Rattle.cadf_json.proofs.Fronts.{by_fronts}
use Rattle.cadf_json.proofs.front.Fronted.cmp.Goals as goal

pub returns-in_default : goal.returns-in_default
returns-in_default c =
    by_fronts c.self.inside.text.now c.other.inside.text.now c.self.inside.front c.other.inside.front c.cmp.result c.self.invariant c.other.invariant
    c.cmp.ensures c.in_default.not-Equal
    ∙ ap₂ (slice_cmp nat_cmp) c.self.view_is c.other.view_is
