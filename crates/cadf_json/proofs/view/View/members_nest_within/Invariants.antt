use Rattle.cadf_json.proofs.Common.{◌≡◌, nat_le, depth, members_in, all_members, limit_for, limits_of}
use Rattle.cadf_json.proofs.view.View.members_nest_within.Given as goal

abbrev pub invariant-loop-member : goal.invariant-loop-member
invariant-loop-member l =
    all_members (λ k d. nat_le (depth d) (limit_for (limits_of l.limits) l.others k)) l.member-iterator
    ≡ all_members (λ k d. nat_le (depth d) (limit_for (limits_of l.limits) l.others k)) (members_in l.self)
