use Rattle.cadf_siteseal.proofs.Common.{◌≡◌, drop, first_some, gone_by}
use Rattle.cadf_siteseal.proofs.site_parts.gone_roots.Given as goal

abbrev pub invariant-loop-item : goal.invariant-loop-item
invariant-loop-item l = first_some (gone_by l.name) (drop l.item-index l.items) ≡ first_some (gone_by l.name) l.items
