-- The first node of a list or an object has the count of its items or members.
use Rattle.cadf_json.proofs.Common.{common_steps, ◌≡◌, ℕ, suc, List, length, refl, sym, ap, ◌∙◌, arith, slice_index_or, Data, Items, no_items, item, Members, no_members, member, to_list, values_of, parts_in, Extent, Node, Null, Truth, Whole, Fraction, Text, Array, Object, Stands, items_count, members_count}

count_items : (ds : Items) → items_count ds ≡ length (to_list ds)
count_items no_items = refl
count_items (item d ds) = ap suc (count_items ds)

count_members : (ms : Members) → members_count ms ≡ length (values_of ms)
count_members no_members = refl
count_members (member k d ms) = ap suc (count_members ms)

-- what the node counts
abbrev count_in : Node → ℕ
count_in Null = 0
count_in (Truth b) = 0
count_in (Whole p) = 0
count_in Fraction = 0
count_in (Text p) = 0
count_in (Array e) = e.count
count_in (Object e) = e.count

abbrev first_count : List Node → ℕ
first_count xs = count_in (slice_index_or xs 0 Null)

counts : (t : List ℕ) (d : Data) (xs : List Node) → Stands t d xs → first_count xs ≡ length (parts_in d)
counts t d xs given = grind (arith, common_steps, count_items, count_members)

pub list_count : (t : List ℕ) (d : Data) (xs : List Node) (e : Extent) → Stands t d xs → slice_index_or xs 0 Null ≡ Array e → e.count ≡ length (parts_in d)
list_count t d xs e h is = sym (ap count_in is) ∙ counts t d xs h

pub object_count : (t : List ℕ) (d : Data) (xs : List Node) (e : Extent) → Stands t d xs → slice_index_or xs 0 Null ≡ Object e → e.count ≡ length (parts_in d)
object_count t d xs e h is = sym (ap count_in is) ∙ counts t d xs h
