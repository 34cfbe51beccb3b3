use Rattle.cadf_erased.proofs.LeftSets.{left_grounded, left_replica}
use Rattle.cadf_erased.proofs.laws.left_is_a_replica.Goals as goal

pub returns : goal.returns
returns c = record { grounded = left_grounded; replica = left_replica }
