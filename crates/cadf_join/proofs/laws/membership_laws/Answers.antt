use Rattle.cadf_join.proofs.Common.{common_steps, arith}
use Rattle.cadf_join.proofs.Membership.{in_under, in_section, in_singles, in_heads, in_joined, in_chains}
use Rattle.cadf_join.proofs.laws.membership_laws.Goals as goal

pub returns : goal.returns
returns c = grind (arith, common_steps, in_under, in_section, in_singles, in_heads, in_joined, in_chains)
