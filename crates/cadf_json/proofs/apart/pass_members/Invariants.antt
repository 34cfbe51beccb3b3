use Rattle.cadf_json.proofs.Common.{◌≡◌, length, option_map, value, HaveUtf8}
use Rattle.cadf_json.proofs.TakenApart.{Apart}
use Rattle.cadf_json.proofs.apart.pass_members.Given as goal

abbrev pub invariant-members : goal.invariant-members
invariant-members g l =
    Apart g.T.ItemVisitor.took l.taker l.name (value l.depth) l.initial.reader l.reader l.fn.flat.nodes.items l.flat.nodes.items l.fn.flat.texts.items l.flat.texts.items
    l.count (option_map (λ s. s.now) l.last) l.rising
    × (l.at ≡ length l.fn.flat.nodes.items) × HaveUtf8 l.reader

abbrev pub decreases-members : goal.decreases-members
decreases-members g l = length l.reader
