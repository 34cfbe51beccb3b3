use Rattle.cadf_json.proofs.Common.{subst, Stands}
use Rattle.cadf_json.proofs.order.put_in_order.Goals as goal

pub returns-then-rising : goal.returns-then-rising
returns-then-rising c = λ d h. subst (λ e. Stands c.args.flat.now.texts.items e c.args.flat.now.nodes.items) (h.same c.if-rising.true) h.stands
