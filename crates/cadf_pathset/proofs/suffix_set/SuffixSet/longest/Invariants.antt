use Rattle.cadf_pathset.proofs.Common.{◌≡◌, [], get_or, drop, option_map, longest_of, longest_with}
use Rattle.cadf_join.specs.Sets as set
use Rattle.cadf_pathset.proofs.suffix_set.SuffixSet.longest.Given as goal

abbrev pub invariant-loop-number : goal.invariant-loop-number
invariant-loop-number l =
    longest_with (option_map (λ n. get_or (set.rising l.self) n []) l.best) (drop l.number (set.rising l.self)) ≡ longest_of (set.rising l.self)
