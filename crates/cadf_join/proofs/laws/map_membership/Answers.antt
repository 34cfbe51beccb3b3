use Rattle.cadf_join.proofs.Membership.{in_contents}
use Rattle.cadf_join.proofs.laws.map_membership.Goals as goal

pub returns : goal.returns
returns g c = in_contents g.V.Join.contents
