use Rattle.cadf_json.proofs.Common.{◌≡◌, get, get_member}
use Rattle.cadf_json.proofs.view.View.member.Given as goal

abbrev pub invariant-loop-member : goal.invariant-loop-member
invariant-loop-member l =
    get l.name l.self ≡ get_member l.name l.member-iterator
