use Rattle.cadf_pathset.proofs.Common.{ap, sym, subst, ◌∙◌, IsStrictlySortedBy, texts_cmp, texts_total, texts_same, with_carriers_by}
use Rattle.cadf_join.specs.Sets as set
use Rattle.cadf_pathset.proofs.Merges.{without_rises, without_is_difference}
use Rattle.cadf_pathset.proofs.path_set.PathSet.missing_with_carriers.Goals as goal

pub with_carriers-requires : goal.with_carriers-requires
with_carriers-requires g c =
    subst (IsStrictlySortedBy texts_cmp) (sym c.in_ok-lacking.ensures)
    (without_rises texts_total texts_same c.self.inside.rows c.other.inside.rows c.self.invariant)

pub returns : goal.returns
returns g c =
    c.in_ok-rows.ensures.set
    ∙ ap (with_carriers_by g.C.Carrier.carrier) (ap set.from_list c.in_ok-lacking.ensures
    ∙ without_is_difference texts_total texts_same c.self.inside.rows c.other.inside.rows c.self.invariant c.other.invariant
    ∙ (λ i. set.difference (c.self.view_is i) (c.other.view_is i)))
