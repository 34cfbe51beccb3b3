use Rattle.cadf_json.proofs.Common.{◌≡◌, ◌+◌, ◌-◌, ◌*◌, ◌≤◌, length, drop, Items, Members, ItemsStand, MembersStand, lasts}
use Rattle.cadf_json.proofs.Copying.{ItemsCopied, MembersCopied}
use Rattle.cadf_json.proofs.order.+copy_value.Given as goal

abbrev pub decreases-copy_items : goal.decreases-copy_items
decreases-copy_items l = 2 * length l.items.now + 1

abbrev pub decreases-copy_members : goal.decreases-copy_members
decreases-copy_members l = 2 * length l.members.now + 1

abbrev pub decreases-copy_value : goal.decreases-copy_value
decreases-copy_value l = 2 * length l.value.now

abbrev pub invariant-copy_items-items : goal.invariant-copy_items-items
invariant-copy_items-items l =
    ((ds : Items) → ItemsStand l.texts ds l.items → ItemsCopied l.texts ds l.rest l.fn.out.items l.out.items)
    × (l.at ≡ length l.fn.out.items) × (length l.rest ≤ length l.items)

abbrev pub decreases-copy_items-items : goal.decreases-copy_items-items
decreases-copy_items-items l = length l.rest

abbrev pub invariant-copy_members-members : goal.invariant-copy_members-members
invariant-copy_members-members l =
    ((ms : Members) → MembersStand l.texts ms l.members
    → MembersCopied l.texts (length l.members) ms (lasts (drop l.at l.sorted)) l.fn.out.items l.out.items l.kept)
    × (l.start ≡ length l.fn.out.items)

abbrev pub decreases-copy_members-members : goal.decreases-copy_members-members
decreases-copy_members-members l = length l.sorted - l.at
