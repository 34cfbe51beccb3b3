use Rattle.cadf_pathset.proofs.Common.{common_steps, ap, sym, ◌∙◌, arith, texts_total, texts_same, rising-from_list, with_carriers_by, chosen_of}
use Rattle.cadf_join.specs.Sets as set
use Rattle.cadf_pathset.proofs.Copies.{chosen_rises}
use Rattle.cadf_pathset.proofs.path_set.PathSet.chosen_with_carriers.Goals as goal

pub with_carriers-requires : goal.with_carriers-requires
with_carriers-requires g c = grind (arith, common_steps, chosen_rises)

pub returns : goal.returns
returns g c =
    c.in_ok-rows.ensures.set
    ∙ ap (λ ls. with_carriers_by g.C.Carrier.carrier (set.from_list ls)) (c.in_ok-lists.ensures
    ∙ ap (chosen_of c.args.flags.now)
    (sym (rising-from_list texts_total texts_same c.self.inside.rows c.self.invariant) ∙ ap set.rising c.self.view_is))
