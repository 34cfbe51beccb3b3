-- The pruned tree of two sets, the earlier and the later one: what two roots are compared by.
--     Pruned                 the hash of a subtree that both trees have, a leaf of this kind that is shown, or a node with two halves
--     is_earlier k, is_later k    digests of this kind are in the earlier set, and in the later one
--     joined l r             the hash of a node with these halves; of one that is missing, the other one
--     side_hash on p         the hash of p without the leaves that are not on
--     side_root on o         that of a tree or none
--     is_spare p             some node has two hashes as halves: one hash says the same
--     summary p              what is computed of p
--     read n ps              the first tree in the parts ps, in preorder, with at most n levels; and the parts that are left. None: there is none
--     read_all ps            the tree that all parts are, of at most 256 nodes one below the other: none of no part. None: they are no tree
--     is_of w part           the part is a leaf of this kind; without one, it is a hash
--     number w ps            how many of ps are so
--     leaves_of k ps         the digests of the leaves of this kind
--     items ps               the parts from left to right: without the nodes
use Rattle.std.specs.Prelude.{ℕ, zero, suc, Bool, true, false, ◌&&◌, ◌||◌, if◌then◌else◌, List, [], ◌∷◌, length, Option, None, Some, option_map, unwrap_or}
use Rattle.std.specs.List.{filter}
use Rattle.sha2.specs.Sha256.{sha256}
use Rattle.cadf_tree.specs.Tree.{Text, leaf_hash, node_hash}
use Rattle.cadf_tree.specs.declared.parts.Kind.{Kind}
use Rattle.cadf_tree.specs.declared.parts.Kind.TheVariants.{Both, Added, Gone}
use Rattle.cadf_tree.specs.declared.parts.Part.{Part}
use Rattle.cadf_tree.specs.declared.parts.Part.TheVariants.{Node, Hash, Leaf}
use Rattle.cadf_tree.specs.declared.parts.Summary.{Summary}

pub data Pruned : Type 0 where
  Hidden : Text → Pruned
  Shown : Kind → Text → Pruned
  Fork : Pruned → Pruned → Pruned

-- ---- both sets

abbrev pub is_earlier : Kind → Bool
is_earlier Both = true
is_earlier Added = false
is_earlier Gone = true

abbrev pub is_later : Kind → Bool
is_later Both = true
is_later Added = true
is_later Gone = false

abbrev pub joined : Option Text → Option Text → Option Text
joined None r = r
joined (Some l) None = Some l
joined (Some l) (Some r) = Some (node_hash l r)

abbrev pub side_hash : (Kind → Bool) → Pruned → Option Text
side_hash on (Hidden h) = Some h
side_hash on (Shown k d) = if on k then Some (leaf_hash d) else None
side_hash on (Fork l r) = joined (side_hash on l) (side_hash on r)

abbrev pub side_root : (Kind → Bool) → Option Pruned → Text
side_root on None = sha256 []
side_root on (Some p) = unwrap_or (side_hash on p) (sha256 [])

abbrev pub is_hidden : Pruned → Bool
is_hidden (Hidden h) = true
is_hidden (Shown k d) = false
is_hidden (Fork l r) = false

abbrev pub is_spare : Pruned → Bool
is_spare (Hidden h) = false
is_spare (Shown k d) = false
is_spare (Fork l r) = (is_hidden l && is_hidden r) || (is_spare l || is_spare r)

abbrev pub summary : Pruned → Summary
summary p = record { earlier = side_hash is_earlier p; later = side_hash is_later p; hidden = is_hidden p; spare = is_spare p }

-- ---- preorder

abbrev pub Read : Type 0
Read = Option (Pruned × List Part)

abbrev pub beside_read : Pruned → Read → Read
beside_read l None = None
beside_read l (Some r) = Some (Fork l r.0, r.1)

abbrev pub both_read : Read → (List Part → Read) → Read
both_read None right = None
both_read (Some l) right = beside_read l.0 (right l.1)

abbrev pub read : ℕ → List Part → Read
read zero ps = None
read (suc n) [] = None
read (suc n) (Node ∷ ps) = both_read (read n ps) (λ rest. read n rest)
read (suc n) (Hash h ∷ ps) = Some (Hidden h, ps)
read (suc n) (Leaf k d ∷ ps) = Some (Shown k d, ps)

abbrev pub summaries : Read → Option (Summary × List Part)
summaries r = option_map (λ p. (summary p.0, p.1)) r

-- no part is left
abbrev pub whole : Read → Option (Option Pruned)
whole None = None
whole (Some (p, [])) = Some (Some p)
whole (Some (p, x ∷ xs)) = None

abbrev pub read_all : List Part → Option (Option Pruned)
read_all [] = Some None
read_all (x ∷ xs) = whole (read 257 (x ∷ xs))

-- ---- parts

abbrev pub is_of : Option Kind → Part → Bool
is_of w Node = false
is_of None (Hash h) = true
is_of None (Leaf k d) = false
is_of (Some k) (Hash h) = false
is_of (Some Both) (Leaf Both d) = true
is_of (Some Both) (Leaf Added d) = false
is_of (Some Both) (Leaf Gone d) = false
is_of (Some Added) (Leaf Both d) = false
is_of (Some Added) (Leaf Added d) = true
is_of (Some Added) (Leaf Gone d) = false
is_of (Some Gone) (Leaf Both d) = false
is_of (Some Gone) (Leaf Added d) = false
is_of (Some Gone) (Leaf Gone d) = true

abbrev pub number : Option Kind → List Part → ℕ
number w ps = length (filter (is_of w) ps)

abbrev pub leaves_of : Kind → List Part → List Text
leaves_of k [] = []
leaves_of k (Node ∷ ps) = leaves_of k ps
leaves_of k (Hash h ∷ ps) = leaves_of k ps
leaves_of k (Leaf l d ∷ ps) = if is_of (Some k) (Leaf l d) then d ∷ leaves_of k ps else leaves_of k ps

abbrev pub items : List Part → List Part
items [] = []
items (Node ∷ ps) = items ps
items (Hash h ∷ ps) = Hash h ∷ items ps
items (Leaf k d ∷ ps) = Leaf k d ∷ items ps
