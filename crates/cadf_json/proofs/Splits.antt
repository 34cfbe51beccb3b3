-- Names that compare as equal.
use Rattle.cadf_json.proofs.Common.{common_steps, ◌≡◌, ℕ, List, Ordering, Equal, nat_cmp, refl, sym, ap, ◌∙◌, arith, bytes_eq-Decides, is_eq-slice_cmp, slice_cmp}
use Rattle.std.proofs.Common.{is_eq}
use Rattle.cadf_json.proofs.Orders.{greater-from_less, less-from_greater}

pub same_name : (k l : List ℕ) → slice_cmp nat_cmp k l ≡ Equal → k ≡ l
same_name k l is = (bytes_eq-Decides k l).0 (sym (is_eq-slice_cmp k l) ∙ ap is_eq is)

itself_at : (o : Ordering) (k : List ℕ) → slice_cmp nat_cmp k k ≡ o → slice_cmp nat_cmp k k ≡ Equal
itself_at o k is = grind (arith, common_steps, greater-from_less, less-from_greater)

pub itself : (k : List ℕ) → slice_cmp nat_cmp k k ≡ Equal
itself k = itself_at _ k refl
