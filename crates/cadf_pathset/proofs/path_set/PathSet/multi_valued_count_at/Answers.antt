use Rattle.cadf_pathset.proofs.Common.{common_steps, ap, ◌∙◌, arith, length, filter, multi_valued_keys}
use Rattle.cadf_pathset.proofs.Several.{has_two, several_of}
use Rattle.cadf_pathset.proofs.path_set.PathSet.multi_valued_count_at.Goals as goal

pub loop-next-init : goal.loop-next-init
loop-next-init c =
    let all = ap (λ ps. length (filter has_two ps)) c.first_section-next.ensures ∙ several_of c.suffix_set.result
    ∙ ap (λ s. length (multi_valued_keys s)) c.suffix_set.ensures in
    grind (arith, common_steps)
