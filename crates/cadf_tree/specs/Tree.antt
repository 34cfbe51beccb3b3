-- The tree of a set of digests, and its root.
--     leaf_text d, node_text l r   what is hashed of a leaf, and of a node whose halves have these hashes
--     root_text n h                what is hashed of a tree with n leaves and this hash
--     Tree                         a leaf, or a node with two halves
--     hash t, leaves t             its hash, and its leaves from left to right
--     tree_hash o, all_leaves o    the same of a tree or none
--     beside s t                   a node with these halves; the other one, if one of them is none
--     bit i d                      bit i of a digest, from the highest of its first byte
--     zeros i ds, ones i ds        those of ds in which this bit is 0, and those in which it is 1
--     divided n i ds               the tree of ds, divided by each of the n bits from bit i on: a part without leaves is left out
--     tree_of ds                   the tree by all bits
--     root ds                      the root of the set of these digests
--     less d e                     d is before e in the order of bytes
--     IsDigest d                   d has the form of a digest: 32 bytes
--     IsSet ds                     ds are digests, each less than the next ones
use Rattle.std.specs.Prelude.{◌≡◌, ◌<◌, ◌/◌, ◌%◌, ◌^◌, ◌-◌, ℕ, zero, suc, nat_eq, Bool, not, List, [], ◌∷◌, ◌++◌, length, get_or, Option, None, Some}
use Rattle.std.specs.Int.{w64, to_be_bytes}
use Rattle.std.specs.List.{filter, AllByRecursion}
use Rattle.std.specs.List.Sorted.{IsStrictlySortedBy}
use Rattle.std.specs.Ordering.{nat_cmp, is_lt}
use Rattle.std.specs.Cmp.Lexicographic.{slice_cmp}
use Rattle.sha2.specs.Sha256.{sha256}
use Rattle.cadf_tree.specs.declared.tree.Root.{Root}

abbrev pub Text : Type 0
Text = List ℕ

abbrev pub leaf_text : Text → Text
leaf_text d = 0 ∷ d

abbrev pub node_text : Text → Text → Text
node_text l r = 1 ∷ l ++ r

abbrev pub root_text : ℕ → Text → Text
root_text n h = 2 ∷ to_be_bytes w64 n ++ h

abbrev pub leaf_hash : Text → Text
leaf_hash d = sha256 (leaf_text d)

abbrev pub node_hash : Text → Text → Text
node_hash l r = sha256 (node_text l r)

abbrev pub root_hash : ℕ → Text → Text
root_hash n h = sha256 (root_text n h)

-- ---- trees

pub data Tree : Type 0 where
  Tip : Text → Tree
  Branch : Tree → Tree → Tree

abbrev pub hash : Tree → Text
hash (Tip d) = leaf_hash d
hash (Branch l r) = node_hash (hash l) (hash r)

abbrev pub leaves : Tree → List Text
leaves (Tip d) = d ∷ []
leaves (Branch l r) = leaves l ++ leaves r

abbrev pub tree_hash : Option Tree → Text
tree_hash None = sha256 []
tree_hash (Some t) = hash t

abbrev pub all_leaves : Option Tree → List Text
all_leaves None = []
all_leaves (Some t) = leaves t

abbrev pub beside : Option Tree → Option Tree → Option Tree
beside None t = t
beside (Some s) None = Some s
beside (Some s) (Some t) = Some (Branch s t)

-- ---- the tree of a set

unfoldable pub bit : ℕ → Text → Bool
bit i d = nat_eq (get_or d (i / 8) 0 / 2 ^ (7 - i % 8) % 2) 1

abbrev pub zeros : ℕ → List Text → List Text
zeros i ds = filter (λ d. not (bit i d)) ds

abbrev pub ones : ℕ → List Text → List Text
ones i ds = filter (λ d. bit i d) ds

abbrev pub first_leaf : List Text → Option Tree
first_leaf [] = None
first_leaf (d ∷ ds) = Some (Tip d)

unfoldable pub divided : ℕ → ℕ → List Text → Option Tree
divided zero i ds = first_leaf ds
divided (suc n) i ds = beside (divided n (suc i) (zeros i ds)) (divided n (suc i) (ones i ds))

unfoldable pub tree_of : List Text → Option Tree
tree_of ds = divided 256 0 ds

abbrev pub root : List Text → Root
root ds = record { count = length ds; hash = root_hash (length ds) (tree_hash (tree_of ds)) }

-- ---- sets

abbrev pub less : Text → Text → Bool
less d e = is_lt (slice_cmp nat_cmp d e)

pub record IsDigest (d : Text) : Type 0 where
  pub size : length d ≡ 32
  pub bytes : (place : ℕ) → get_or d place 0 < 256

pub record IsSet (ds : List Text) : Type 0 where
  pub digests : AllByRecursion IsDigest ds
  pub rising : IsStrictlySortedBy (slice_cmp nat_cmp) ds
