use Rattle.cadf_evidence.proofs.Common.{name_is}
use Rattle.cadf_evidence.proofs.key_list.Key.of_line.Goals as goal

pub invariant_of-result : goal.invariant_of-result
invariant_of-result c = (c.in-Some.ensures.known, name_is _ c.type_invariant.ensures)
