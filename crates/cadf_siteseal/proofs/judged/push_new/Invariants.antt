use Rattle.cadf_siteseal.proofs.Common.{◌≡◌, ◌++◌, option_map, flat_map, drop, new_line}
use Rattle.cadf_siteseal.proofs.judged.push_new.Given as goal

abbrev pub invariant-loop-item : goal.invariant-loop-item
invariant-loop-item l =
    l.text.items ++ flat_map (new_line l.old (option_map (λ x. x.now) l.list)) (drop l.item-index l.new) ≡ l.fn.text.items ++ flat_map (new_line l.old (option_map (λ x. x.now) l.list)) l.new
