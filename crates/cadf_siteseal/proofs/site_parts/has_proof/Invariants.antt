use Rattle.cadf_siteseal.proofs.Common.{◌≡◌, drop, has_proof}
use Rattle.cadf_siteseal.proofs.site_parts.has_proof.Given as goal

abbrev pub invariant-loop-item : goal.invariant-loop-item
invariant-loop-item l = has_proof l.name (drop l.item-index l.items) ≡ has_proof l.name l.items
