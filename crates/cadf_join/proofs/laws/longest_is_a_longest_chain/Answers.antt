use Rattle.cadf_join.proofs.Longest.{longest_is, longest_none}
use Rattle.cadf_join.proofs.laws.longest_is_a_longest_chain.Goals as goal

pub returns : goal.returns
returns c = record { some = longest_is; none = longest_none }
