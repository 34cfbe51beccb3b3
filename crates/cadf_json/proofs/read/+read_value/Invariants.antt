use Rattle.cadf_json.proofs.Common.{◌≡◌, ◌+◌, ◌*◌, length, option_map, value}
use Rattle.cadf_json.proofs.Loops.{ItemsRead, MembersRead}
use Rattle.cadf_json.proofs.read.+read_value.Given as goal

abbrev pub decreases-read_value : goal.decreases-read_value
decreases-read_value l = 2 * l.depth

abbrev pub decreases-read_items : goal.decreases-read_items
decreases-read_items l = 2 * l.depth + 1

abbrev pub decreases-read_members : goal.decreases-read_members
decreases-read_members l = 2 * l.depth + 1

abbrev pub invariant-read_items-items : goal.invariant-read_items-items
invariant-read_items-items l =
    ItemsRead (value l.depth) l.initial.reader l.reader l.fn.flat.nodes.items l.flat.nodes.items l.fn.flat.texts.items l.flat.texts.items l.count l.rising
    × (l.at ≡ length l.fn.flat.nodes.items)

abbrev pub decreases-read_items-items : goal.decreases-read_items-items
decreases-read_items-items l = length l.reader

abbrev pub invariant-read_members-members : goal.invariant-read_members-members
invariant-read_members-members l =
    MembersRead (λ ms. ms) (value l.depth) l.initial.reader l.reader l.fn.flat.nodes.items l.flat.nodes.items l.fn.flat.texts.items l.flat.texts.items l.count
    (option_map (λ s. s.now) l.last) l.rising
    × (l.at ≡ length l.fn.flat.nodes.items)

abbrev pub decreases-read_members-members : goal.decreases-read_members-members
decreases-read_members-members l = length l.reader
