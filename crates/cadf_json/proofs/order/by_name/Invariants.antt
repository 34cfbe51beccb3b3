use Rattle.cadf_json.proofs.Common.{length, [], Members, MembersStand, put_named}
use Rattle.cadf_json.proofs.ByName.{Naming}
use Rattle.cadf_json.proofs.order.by_name.Given as goal

abbrev pub invariant-members : goal.invariant-members
invariant-members l = (ms : Members) → MembersStand l.texts ms l.members → Naming l.texts (length l.members) (put_named l.named.items []) l.rest ms

abbrev pub decreases-members : goal.decreases-members
decreases-members l = length l.rest
