use Rattle.cadf_siteseal.proofs.Common.{◌∙◌, sym, ap, subst, HaveRoots, held_roots}
use Rattle.cadf_siteseal.proofs.PartProofs.{held_are}
use Rattle.cadf_siteseal.proofs.site_parts.held_seal.Goals as goal

pub part_seal-requires : goal.part_seal-requires
part_seal-requires c =
    subst HaveRoots (sym (c.held_roots.ensures ∙ ap (held_roots c.args.name.now) c.items.ensures))
    (held_are c.args.seal.now.unit _ c.args.name.now c.args.seal.now.items c.type_invariant.ensures.items)
