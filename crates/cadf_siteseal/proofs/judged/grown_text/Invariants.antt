use Rattle.cadf_siteseal.proofs.Common.{◌≡◌, Ok, option_map, drop, both_texts, grown_text}
use Rattle.cadf_siteseal.proofs.judged.grown_text.Given as goal

abbrev pub invariant-loop-index : goal.invariant-loop-index
invariant-loop-index l = both_texts (Ok l.text.items) (grown_text l.earlier l.later (option_map (λ x. x.now) l.list) (drop l.index l.items)) ≡ grown_text l.earlier l.later (option_map (λ x. x.now) l.list) l.items
