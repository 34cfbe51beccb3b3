-- How deep the parts of a value nest, and how many they are, lists and objects counted twice.
use Rattle.cadf_json.proofs.Common.{◌≡◌, ℕ, suc, ◌+◌, ◌≤◌, max, is_some, true, List, length, ap, arith, length-append, common_steps, Data, null, boolean, number, string, array, object, Items, no_items, item, Members, no_members, member, depth, items_depth, members_depth, Node, Stands, ItemsStand, MembersStand, as_array, is_object, items_in, members_in}

abbrev mutual
  pub weight : Data → ℕ
  weight null = 0
  weight (boolean b) = 0
  weight (number n) = 0
  weight (string s) = 0
  weight (array ds) = suc (items_weight ds)
  weight (object ms) = suc (members_weight ms)

  pub items_weight : Items → ℕ
  items_weight no_items = 0
  items_weight (item d ds) = suc (weight d + items_weight ds)

  pub members_weight : Members → ℕ
  members_weight no_members = 0
  members_weight (member k d ms) = suc (weight d + members_weight ms)

pub items_weigh : (d : Data) → items_weight (items_in d) ≤ weight d
items_weigh d = grind (arith, common_steps)

pub members_weigh : (d : Data) → members_weight (members_in d) ≤ weight d
members_weigh d = grind (arith, common_steps)

pub list_nests : (d : Data) → is_some (as_array d) ≡ true → depth d ≡ suc (max (items_depth (items_in d)) (members_depth (members_in d)))
list_nests d h = grind (arith, common_steps)

pub object_nests : (d : Data) → is_object d ≡ true → depth d ≡ suc (max (items_depth (items_in d)) (members_depth (members_in d)))
object_nests d h = grind (arith, common_steps)

-- a value nests no deeper than it has nodes
mutual
  pub nests_within : (t : List ℕ) (d : Data) (xs : List Node) → Stands t d xs → depth d ≤ length xs
  nests_within t null xs h = omega arith
  nests_within t (boolean b) xs h = omega arith
  nests_within t (number n) xs h = omega arith
  nests_within t (string s) xs h = omega arith
  nests_within t (array ds) xs (e, (ys, (is, extent, h))) = omega (arith, ap length is, items_within t ds ys h)
  nests_within t (object ms) xs (e, (ys, (is, extent, h))) = omega (arith, ap length is, members_within t ms ys h)

  items_within : (t : List ℕ) (ds : Items) (xs : List Node) → ItemsStand t ds xs → items_depth ds ≤ length xs
  items_within t no_items xs h = omega arith
  items_within t (item d ds) xs (ys, (zs, (is, h, k))) =
      omega (arith, ap length is, length-append ys zs, nests_within t d ys h, items_within t ds zs k)

  members_within : (t : List ℕ) (ms : Members) (xs : List Node) → MembersStand t ms xs → members_depth ms ≤ length xs
  members_within t no_members xs h = omega arith
  members_within t (member k d ms) xs (p, (ys, (zs, (is, at, h, j)))) =
      omega (arith, ap length is, length-append ys zs, nests_within t d ys h, members_within t ms zs j)
