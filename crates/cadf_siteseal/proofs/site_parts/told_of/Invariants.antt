use Rattle.cadf_siteseal.proofs.Common.{◌≡◌, ◌++◌, map, drop, told_lines, item_line, own}
use Rattle.cadf_evidence.specs.ProofLines.{AreTold}
use Rattle.cadf_siteseal.proofs.site_parts.told_of.Given as goal

abbrev pub invariant-loop-index : goal.invariant-loop-index
invariant-loop-index l = (told_lines l.told ++ map item_line (own (drop l.index l.items)) ≡ map item_line (own (drop l.from l.items))) × AreTold l.told
