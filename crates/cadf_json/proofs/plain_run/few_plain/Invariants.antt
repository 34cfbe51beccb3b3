use Rattle.cadf_json.proofs.Common.{◌≡◌, ◌+◌, ◌-◌, ◌≤◌, length, drop, prefix_len, is_plain}
use Rattle.cadf_json.proofs.plain_run.few_plain.Given as goal

abbrev pub invariant-loop-at : goal.invariant-loop-at
invariant-loop-at l = (l.at + prefix_len is_plain (drop l.at l.text) ≡ prefix_len is_plain l.text) × (l.at ≤ length l.text)

abbrev pub decreases-loop-at : goal.decreases-loop-at
decreases-loop-at l = length l.text - l.at
