use Rattle.cadf_json.proofs.Common.{◌≡◌, ◌≤◌, ◌+◌, ◌*◌, ◌++◌, array, object, items_text, members_text, items_in, members_in, text}
use Rattle.cadf_json.proofs.Depths.{weight, items_weight, members_weight}
use Rattle.cadf_json.proofs.write.+write_value.Given as goal

abbrev pub decreases-write_value : goal.decreases-write_value
decreases-write_value l = 2 * weight l.view.now

abbrev pub decreases-write_items : goal.decreases-write_items
decreases-write_items l = 2 * items_weight (items_in l.view.now) + 1

abbrev pub decreases-write_members : goal.decreases-write_members
decreases-write_members l = 2 * members_weight (members_in l.view.now) + 1

abbrev pub invariant-write_items-loop-item : goal.invariant-write_items-loop-item
invariant-write_items-loop-item l =
    (l.out.items ++ items_text l.later l.item-iterator ≡ l.fn.out.items ++ text (array (items_in l.view)))
    × (items_weight l.item-iterator ≤ items_weight (items_in l.view))

abbrev pub invariant-write_members-loop-member : goal.invariant-write_members-loop-member
invariant-write_members-loop-member l =
    (l.out.items ++ members_text l.later l.member-iterator ≡ l.fn.out.items ++ text (object (members_in l.view)))
    × (members_weight l.member-iterator ≤ members_weight (members_in l.view))
