-- The items and members that a walk has not yet returned.
--     members_at t xs        the members whose names and values are these nodes
--     AreItemsLeft t xs      the nodes are those of items of a value
--     AreMembersLeft t xs    the nodes are those of members of a value
use Rattle.std.specs.Prelude.{ℕ, ◌≤◌, List}
use Rattle.serde_json.specs.Data.{Items, no_items, item, Members, no_members, member, items_depth}
use Rattle.cadf_json.specs.Flat.{ItemsStand, MembersStand, name_of, node_values}
use Rattle.cadf_json.specs.Value.{ItemsAreWhole, AreMembers}
use Rattle.cadf_json.specs.declared.node.Node.{Node}

-- a name and a value for each member
abbrev pub paired : Items → Members
paired no_items = no_members
paired (item k no_items) = no_members
paired (item k (item d ds)) = member (name_of k) d (paired ds)

abbrev pub members_at : List ℕ → List Node → Members
members_at t xs = paired (node_values t xs)

pub record AreItemsLeft (t : List ℕ) (xs : List Node) : Type 0 where
  pub stand : ItemsStand t (node_values t xs) xs
  pub whole : ItemsAreWhole (node_values t xs)
  pub shallow : items_depth (node_values t xs) ≤ 126

pub record AreMembersLeft (t : List ℕ) (xs : List Node) : Type 0 where
  pub stand : MembersStand t (members_at t xs) xs
  pub are_members : AreMembers (members_at t xs)
