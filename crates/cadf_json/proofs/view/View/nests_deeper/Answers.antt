use Rattle.cadf_json.proofs.Common.{common_steps, ◌≡◌, ℕ, ◌≤◌, not, nat_le, nat_lt, arith}
use Rattle.cadf_json.proofs.Depths.{nests_within}
use Rattle.cadf_json.proofs.view.View.nests_deeper.Goals as goal

shallow : (limit nodes deep : ℕ) → nodes ≤ limit → deep ≤ nodes → nat_lt limit nodes ≡ not (nat_le deep limit)
shallow limit nodes deep few within = grind arith

pub returns-else-self-limit : goal.returns-else-self-limit
returns-else-self-limit c = grind (arith, common_steps, shallow, nests_within)
