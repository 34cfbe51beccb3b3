use Rattle.cadf_json.proofs.Common.{◌≡◌, ◌≤◌, max, items_depth, members_depth, items_in, members_in}
use Rattle.cadf_json.proofs.Depths.{weight, items_weight, members_weight}
use Rattle.cadf_json.proofs.view.+depth_of.Given as goal

abbrev pub decreases-depth_of : goal.decreases-depth_of
decreases-depth_of l = weight l.view.now

abbrev pub invariant-loop-item : goal.invariant-loop-item
invariant-loop-item l =
    (items_depth (items_in l.view) ≡ max l.deepest (items_depth l.item-iterator))
    × (items_weight l.item-iterator ≤ weight l.view)

abbrev pub invariant-loop-member : goal.invariant-loop-member
invariant-loop-member l =
    (max (items_depth (items_in l.view)) (members_depth (members_in l.view)) ≡ max l.deepest (members_depth l.member-iterator))
    × (members_weight l.member-iterator ≤ weight l.view)
