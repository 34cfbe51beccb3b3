use Rattle.cadf_listed.proofs.Common.{◌≡◌, ◌∙◌, ap, sym, set_again}
use Rattle.cadf_join.specs.Sets as set
use Rattle.cadf_listed.proofs.Searching.{found, missing}
use Rattle.cadf_listed.proofs.listed.Listed.has.Goals as goal

pub returns-in-Ok : goal.returns-in-Ok
returns-in-Ok g c =
    let same : set.from_list c.names.result.now ≡ c.args.self.now.names = ap set.from_list c.names.ensures.names ∙ set_again c.args.self.now.names in
    sym (found c.args.name.now c.names.result.now c.in-Ok.field-0 c.in-Ok.ensures.bound c.in-Ok.ensures.ok) ∙ ap (λ s. set.contains s c.args.name.now) same

pub returns-in-Err : goal.returns-in-Err
returns-in-Err g c =
    let same : set.from_list c.names.result.now ≡ c.args.self.now.names = ap set.from_list c.names.ensures.names ∙ set_again c.args.self.now.names in
    sym (missing c.args.name.now c.names.result.now c.in-Err.field-0 c.names.ensures.all.1 c.in-Err.ensures.position)
    ∙ ap (λ s. set.contains s c.args.name.now) same
