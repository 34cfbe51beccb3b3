-- The pruned tree that is made of a set's tree.
--     first_kind ks        the kind as which the first leaf is shown. None: it isn't shown, and is in both sets
--     any_shown ks         some leaf is shown
--     made t ks            the tree t, with those leaves shown of which ks, from left to right, says the kind: a subtree without such a leaf is
--                          its hash
--     preorder p           the parts of p
--     leaf_part d k        the part of a tree of one leaf
--     made_parts o ks      the parts of that tree; of none no part
--     side on ds ks        the digests of one side: those that aren't shown, and those of a kind that is on
--     shown_in ks          how many leaves are shown
--     MadeIsRead           the parts are read as that tree
--     MadeHasBothRoots     each side of it has the root of the digests of that side
--     MadeIsShort          there are at most two parts for each digest, and one and 512 for each leaf that is shown
use Rattle.std.specs.Prelude.{◌≡◌, ◌≤◌, ◌+◌, ◌*◌, ℕ, Bool, true, false, if◌then◌else◌, List, [], ◌∷◌, ◌++◌, length, take, drop, Option, None, Some, option_map}
use Rattle.std.specs.List.{filter, list_any}
use Rattle.cadf_tree.specs.Tree.{Text, Tree, Tip, Branch, hash, leaf_hash, tree_hash, tree_of, IsSet}
use Rattle.cadf_tree.specs.Pruned.{Pruned, Hidden, Shown, Fork, side_root, read_all}
use Rattle.cadf_tree.specs.declared.parts.Kind.{Kind}
use Rattle.cadf_tree.specs.declared.parts.Part.{Part}
use Rattle.cadf_tree.specs.declared.parts.Part.TheVariants.{Node, Hash, Leaf}

abbrev pub Kinds : Type 0
Kinds = List (Option Kind)

abbrev pub first_kind : Kinds → Option Kind
first_kind [] = None
first_kind (k ∷ ks) = k

abbrev pub is_shown : Option Kind → Bool
is_shown None = false
is_shown (Some k) = true

abbrev pub any_shown : Kinds → Bool
any_shown ks = list_any is_shown ks

abbrev pub size : Tree → ℕ
size (Tip d) = 1
size (Branch l r) = size l + size r

abbrev pub made_leaf : Text → Option Kind → Pruned
made_leaf d None = Hidden (leaf_hash d)
made_leaf d (Some k) = Shown k d

unfoldable pub made : Tree → Kinds → Pruned
made (Tip d) ks = made_leaf d (first_kind ks)
made (Branch l r) ks = if any_shown ks then Fork (made l (take (size l) ks)) (made r (drop (size l) ks)) else Hidden (hash (Branch l r))

abbrev pub preorder : Pruned → List Part
preorder (Hidden h) = Hash h ∷ []
preorder (Shown k d) = Leaf k d ∷ []
preorder (Fork l r) = Node ∷ preorder l ++ preorder r

abbrev pub leaf_part : Text → Option Kind → Part
leaf_part d None = Hash (leaf_hash d)
leaf_part d (Some k) = Leaf k d

abbrev pub made_of : Option Tree → Kinds → Option Pruned
made_of o ks = option_map (λ t. made t ks) o

abbrev pub all_parts : Option Pruned → List Part
all_parts None = []
all_parts (Some p) = preorder p

abbrev pub made_parts : Option Tree → Kinds → List Part
made_parts o ks = all_parts (made_of o ks)

-- ---- both sides

abbrev pub is_on : (Kind → Bool) → Option Kind → Bool
is_on on None = true
is_on on (Some k) = on k

abbrev pub side : (Kind → Bool) → List Text → Kinds → List Text
side on [] ks = []
side on (d ∷ ds) [] = d ∷ side on ds []
side on (d ∷ ds) (k ∷ ks) = if is_on on k then d ∷ side on ds ks else side on ds ks

-- ---- laws

abbrev pub MadeIsRead : Type 0
MadeIsRead = (ds : List Text) (ks : Kinds) → read_all (made_parts (tree_of ds) ks) ≡ Some (made_of (tree_of ds) ks)

abbrev pub MadeHasBothRoots : Type 0
MadeHasBothRoots = (on : Kind → Bool) (ds : List Text) (ks : Kinds) → IsSet ds → length ks ≡ length ds
    → side_root on (made_of (tree_of ds) ks) ≡ tree_hash (tree_of (side on ds ks))

abbrev pub shown_in : Kinds → ℕ
shown_in ks = length (filter is_shown ks)

abbrev pub MadeIsShort : Type 0
MadeIsShort = (ds : List Text) (ks : Kinds) → IsSet ds → length ks ≡ length ds
    → (length (made_parts (tree_of ds) ks) ≤ 2 * length ds) × (length (made_parts (tree_of ds) ks) ≤ 1 + 512 * shown_in ks)
