-- A member by its name.
use Rattle.cadf_json.proofs.Common.{common_steps, ◌≡◌, ℕ, List, Option, Some, true, false, bytes_eq, Ordering, nat_cmp, ◌∙◌, arith, is_eq-slice_cmp, slice_cmp, match_ordering, Data, Members, member, get, get_member, members_in}
use Rattle.std.proofs.Common.{is_eq}
use Rattle.cadf_json.proofs.Rewriting.{pass_by}

here_at : (o : Ordering) (a : Option Data) (e : Data) → is_eq o ≡ true → match_ordering o a (Some e) a ≡ Some e
here_at o a e h = grind (arith, common_steps)

pub member_here : (k l : List ℕ) (e : Data) (ms : Members) → bytes_eq k l ≡ true → get_member k (member l e ms) ≡ Some e
member_here k l e ms h = here_at (slice_cmp nat_cmp k l) (get_member k ms) e (is_eq-slice_cmp k l ∙ h)

pub member_passed : (k l : List ℕ) (e : Data) (ms : Members) → bytes_eq k l ≡ false → get_member k (member l e ms) ≡ get_member k ms
member_passed k l e ms h = pass_by k l (get_member k ms) (Some e) h

pub member_in : (k : List ℕ) (d : Data) → get k d ≡ get_member k (members_in d)
member_in k d = grind (arith, common_steps)
