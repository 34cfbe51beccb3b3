use Rattle.cadf_pathset.proofs.Common.{common_steps, arith}
use Rattle.cadf_pathset.proofs.Membership.{in_suffixes, in_carriers}
use Rattle.cadf_pathset.proofs.laws.membership_laws.Goals as goal

pub returns : goal.returns
returns c = grind (arith, common_steps, in_suffixes, in_carriers)
