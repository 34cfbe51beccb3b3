use Rattle.cadf_siteseal.proofs.Common.{◌∙◌, sym, ap, subst, HaveRoots, last_roots}
use Rattle.cadf_siteseal.proofs.PartProofs.{last_are}
use Rattle.cadf_siteseal.proofs.site_parts.last_seal.Goals as goal

pub part_seal-requires : goal.part_seal-requires
part_seal-requires c =
    subst HaveRoots (sym (c.last_roots.ensures ∙ ap (last_roots c.args.name.now) c.items.ensures))
    (last_are c.args.seal.now.unit _ c.args.name.now c.args.seal.now.items c.type_invariant.ensures.items)
