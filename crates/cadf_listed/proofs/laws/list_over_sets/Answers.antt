use Rattle.cadf_listed.proofs.MarkedNames.{facts_over, keys_over}
use Rattle.cadf_listed.proofs.laws.list_over_sets.Goals as goal

pub returns : goal.returns
returns c = record { facts = facts_over; keys = keys_over }
