use Rattle.cadf_siteseal.proofs.Common.{◌≡◌, ◌++◌, flat_map, drop, went_line}
use Rattle.cadf_siteseal.proofs.judged.push_went.Given as goal

abbrev pub invariant-loop-item : goal.invariant-loop-item
invariant-loop-item l =
    l.text.items ++ flat_map (went_line l.new) (drop l.item-index l.old) ≡ l.fn.text.items ++ flat_map (went_line l.new) l.old
