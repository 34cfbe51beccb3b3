-- What a pruned tree says of two roots, the earlier and the later one.
--     may_hide below hidden   so many leaves may be below so many hashes: at least one below each
--     hidden_leaves n shown hidden   how many of n leaves are below hashes, if so many are shown and there are so many hashes. None: there is
--                                    no such tree
--     counts_agree a b ps            by both roots as many leaves are below the hashes
--     all_beside fit ps              every two parts beside each other fit
--     rise x y                       leaves that are beside each other rise
--     is_seen x y                    what changed isn't beside a hash
--     fits r x y                     the same by the name of the rule
--     all_needed before ps           each leaf of both sets is beside one that changed; before: the part before these changed
--     has_spare t, sides t           some node has two hashes as halves; this and the hash of both sides
--     roots_fault a b s, order_fault ps spare, sides_fault a b ps s   what is wrong with the hashes of both sides, with the order of the parts,
--                                    and with either
--     tree_fault a b ps              why the parts show nothing under these roots
--     verdict a b ps                 how many leaves were added and are gone, or why the parts don't show it
use Rattle.std.specs.Prelude.{◌+◌, ◌-◌, ℕ, nat_eq, nat_le, nat_lt, Bool, true, false, not, ◌&&◌, ◌||◌, if◌then◌else◌, List, [], ◌∷◌, Option, None, Some, option_map, Result, Ok, Err}
use Rattle.std.specs.Option.{option_or}
use Rattle.std.specs.Cmp.Lexicographic.{pointwise}
use Rattle.cadf_tree.specs.Tree.{Text, root_hash, less}
use Rattle.cadf_tree.specs.Pruned.{Pruned, is_earlier, is_later, side_root, is_spare, read_all, number, items}
use Rattle.cadf_tree.specs.declared.tree.Root.{Root}
use Rattle.cadf_tree.specs.declared.parts.Kind.TheVariants.{Both, Added, Gone}
use Rattle.cadf_tree.specs.declared.parts.Part.{Part}
use Rattle.cadf_tree.specs.declared.parts.Part.TheVariants.{Node, Hash, Leaf}
use Rattle.cadf_tree.specs.declared.growth.Growth.{Growth}
use Rattle.cadf_tree.specs.declared.growth.Sides.{Sides}
use Rattle.cadf_tree.specs.declared.growth.Beside.{Beside}
use Rattle.cadf_tree.specs.declared.growth.Beside.TheVariants.{Rising, Seen}
use Rattle.cadf_tree.specs.declared.growth.TreeFault.{TreeFault}
use Rattle.cadf_tree.specs.declared.growth.TreeFault.TheVariants.{OtherCount, NoTree, OtherEarlierRoot, OtherLaterRoot, Order, NeighbourHidden, NotNeeded}

abbrev pub is_text : Text → Text → Bool
is_text x y = pointwise nat_eq x y

-- ---- counts

abbrev pub may_hide : ℕ → ℕ → Bool
may_hide below hidden = if nat_eq hidden 0 then nat_eq below 0 else nat_le hidden below

abbrev pub hidden_leaves : ℕ → ℕ → ℕ → Option ℕ
hidden_leaves n shown hidden = if nat_lt n shown then None else if may_hide (n - shown) hidden then Some (n - shown) else None

abbrev pub are_equal : Option ℕ → Option ℕ → Bool
are_equal None m = false
are_equal (Some n) None = false
are_equal (Some n) (Some m) = nat_eq n m

abbrev pub counts_agree : Root → Root → List Part → Bool
counts_agree a b ps =
    are_equal (hidden_leaves a.count (number (Some Both) ps + number (Some Gone) ps) (number None ps))
    (hidden_leaves b.count (number (Some Both) ps + number (Some Added) ps) (number None ps))

-- ---- what is beside each other

abbrev pub all_beside : (Part → Part → Bool) → List Part → Bool
all_beside fit [] = true
all_beside fit (x ∷ []) = true
all_beside fit (x ∷ y ∷ ps) = fit x y && all_beside fit (y ∷ ps)

abbrev pub rise : Part → Part → Bool
rise Node y = true
rise (Hash g) y = true
rise (Leaf k d) Node = true
rise (Leaf k d) (Hash h) = true
rise (Leaf k d) (Leaf l e) = less d e

abbrev pub is_hash : Part → Bool
is_hash Node = false
is_hash (Hash h) = true
is_hash (Leaf k d) = false

abbrev pub has_changed : Part → Bool
has_changed Node = false
has_changed (Hash h) = false
has_changed (Leaf Both d) = false
has_changed (Leaf Added d) = true
has_changed (Leaf Gone d) = true

abbrev pub is_seen : Part → Part → Bool
is_seen x y = not ((is_hash x && has_changed y) || (has_changed x && is_hash y))

abbrev pub fits : Beside → Part → Part → Bool
fits Rising x y = rise x y
fits Seen x y = is_seen x y

abbrev pub first_changed : List Part → Bool
first_changed [] = false
first_changed (x ∷ xs) = has_changed x

abbrev pub all_needed : Bool → List Part → Bool
all_needed before [] = true
all_needed before (x ∷ xs) = (is_hash x || (has_changed x || (before || first_changed xs))) && all_needed (has_changed x) xs

abbrev pub has_spare : Option Pruned → Bool
has_spare None = false
has_spare (Some p) = is_spare p

abbrev pub sides : Option Pruned → Sides
sides t = record { earlier = side_root is_earlier t; later = side_root is_later t; spare = has_spare t }

-- ---- what is said

abbrev pub fault_unless : Bool → TreeFault → Option TreeFault
fault_unless true fault = None
fault_unless false fault = Some fault

abbrev pub roots_fault : Root → Root → Sides → Option TreeFault
roots_fault a b s =
    option_or (fault_unless (is_text (root_hash a.count s.earlier) a.hash) OtherEarlierRoot)
    (fault_unless (is_text (root_hash b.count s.later) b.hash) OtherLaterRoot)

abbrev pub order_fault : List Part → Bool → Option TreeFault
order_fault ps spare =
    option_or (fault_unless (all_beside rise (items ps)) Order)
    (option_or (fault_unless (all_beside is_seen (items ps)) NeighbourHidden) (fault_unless (not spare) NotNeeded))

abbrev pub sides_fault : Root → Root → List Part → Option Sides → Option TreeFault
sides_fault a b ps None = Some NoTree
sides_fault a b ps (Some s) = option_or (roots_fault a b s) (order_fault ps s.spare)

abbrev pub tree_fault : Root → Root → List Part → Option TreeFault
tree_fault a b ps = option_or (fault_unless (counts_agree a b ps) OtherCount) (sides_fault a b ps (option_map sides (read_all ps)))

abbrev pub growth_unless : Option TreeFault → List Part → Result Growth TreeFault
growth_unless None ps = Ok (record { added = number (Some Added) ps; gone = number (Some Gone) ps })
growth_unless (Some fault) ps = Err fault

abbrev pub verdict : Root → Root → List Part → Result Growth TreeFault
verdict a b ps = growth_unless (option_or (tree_fault a b ps) (fault_unless (all_needed false (items ps)) NotNeeded)) ps
