use Rattle.cadf_siteseal.proofs.Common.{◌≡◌, option_map, drop, least, least_of, went_name}
use Rattle.cadf_siteseal.proofs.judged.gone_name.Given as goal

abbrev pub invariant-loop-item : goal.invariant-loop-item
invariant-loop-item l = least_of (went_name (option_map (λ x. x.now) l.kept) l.old l.new) l.found (drop l.item-index l.old) ≡ least (went_name (option_map (λ x. x.now) l.kept) l.old l.new) l.old
