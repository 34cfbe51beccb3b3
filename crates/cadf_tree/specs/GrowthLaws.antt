-- What follows if parts are accepted and one of both roots, or each, is that of a set.
--     DoNotCollide Q             no two of these texts have one digest
--     Hashes t x                 the text x is hashed for the hash of t
--     IsHashedFor ds x           it is hashed for the root of the set ds
--     SideHashes on p x          it is hashed for the hash of p without the leaves that are not on
--     IsHashedBy on n ps x       it is hashed for the root of this side of the tree that the parts are, if that has n leaves
--     HaveHashes ps              the hashes among ps have 32 bytes
--     Marked                     a digest, and in which of both sets it is
--     those on ms                the digests of the kinds that are on
--     AreRising ds               each digest is less than the next one
--     IsDifference old new added gone   both lists rise and differ by these digests alone: all are in one rising list, each with its kind
--     GrownFrom old b ps         the later root is that of a tree whose leaves differ from the earlier set by what the parts show
--     GrownTo a new ps           the earlier root is that of a tree whose leaves differ from the later set by what the parts show
--     EarlierIsHonest, LaterIsHonest, BothAreHonest   what is accepted is so, if the earlier root, the later one or each is that of a set
use Rattle.std.specs.Prelude.{◌≡◌, ◌⊎◌, Bool, true, false, if◌then◌else◌, List, [], ◌∷◌, ◌++◌, length, ℕ, Option, None, Some, Ok}
use Rattle.std.specs.List.{AllByRecursion}
use Rattle.sha2.specs.Sha256.{sha256}
use Rattle.cadf_tree.specs.Tree.{Text, Tree, Tip, Branch, leaf_text, node_text, root_text, root_hash, hash, tree_hash, all_leaves, tree_of, root, less, IsSet}
use Rattle.cadf_tree.specs.Pruned.{Pruned, Hidden, Shown, Fork, is_earlier, is_later, side_hash, side_root, read_all, leaves_of}
use Rattle.cadf_tree.specs.Grown.{verdict}
use Rattle.cadf_tree.specs.declared.tree.Root.{Root}
use Rattle.cadf_tree.specs.declared.growth.Growth.{Growth}
use Rattle.cadf_tree.specs.declared.parts.Kind.{Kind}
use Rattle.cadf_tree.specs.declared.parts.Kind.TheVariants.{Both, Added, Gone}
use Rattle.cadf_tree.specs.declared.parts.Part.{Part}
use Rattle.cadf_tree.specs.declared.parts.Part.TheVariants.{Node, Hash, Leaf}

-- ---- what is hashed

abbrev pub DoNotCollide : (Text → Type 0) → Type 0
DoNotCollide Q = (x y : Text) → Q x → Q y → sha256 x ≡ sha256 y → x ≡ y

abbrev pub Hashes : Tree → Text → Type 0
Hashes (Tip d) x = x ≡ leaf_text d
Hashes (Branch l r) x = (x ≡ node_text (hash l) (hash r)) ⊎ (Hashes l x ⊎ Hashes r x)

abbrev pub TreeHashes : Option Tree → Text → Type 0
TreeHashes None x = x ≡ []
TreeHashes (Some t) x = Hashes t x

abbrev pub IsHashedFor : List Text → Text → Type 0
IsHashedFor ds x = (x ≡ root_text (length ds) (tree_hash (tree_of ds))) ⊎ TreeHashes (tree_of ds) x

abbrev pub JoinedHashes : Option Text → Option Text → Text → Type 0
JoinedHashes None r x = ⊥
JoinedHashes (Some l) None x = ⊥
JoinedHashes (Some l) (Some r) x = x ≡ node_text l r

abbrev pub SideHashes : (Kind → Bool) → Pruned → Text → Type 0
SideHashes on (Hidden h) x = ⊥
SideHashes on (Shown k d) x = x ≡ leaf_text d
SideHashes on (Fork l r) x = JoinedHashes (side_hash on l) (side_hash on r) x ⊎ (SideHashes on l x ⊎ SideHashes on r x)

abbrev pub AllSideHashes : (Kind → Bool) → Option Pruned → Text → Type 0
AllSideHashes on None x = ⊥
AllSideHashes on (Some p) x = SideHashes on p x

-- the root of no leaves is always among them
abbrev pub IsHashedOf : (Kind → Bool) → ℕ → Option (Option Pruned) → Text → Type 0
IsHashedOf on n None x = ⊥
IsHashedOf on n (Some t) x = (x ≡ []) ⊎ ((x ≡ root_text n (side_root on t)) ⊎ AllSideHashes on t x)

abbrev pub IsHashedBy : (Kind → Bool) → ℕ → List Part → Text → Type 0
IsHashedBy on n ps x = IsHashedOf on n (read_all ps) x

abbrev pub HasHash : Part → Type 0
HasHash Node = Unit {0}
HasHash (Hash h) = length h ≡ 32
HasHash (Leaf k d) = Unit {0}

abbrev pub HaveHashes : List Part → Type 0
HaveHashes ps = AllByRecursion HasHash ps

-- ---- differences

abbrev pub Marked : Type 0
Marked = Kind × Text

abbrev pub all_kinds : Kind → Bool
all_kinds k = true

abbrev pub is_added : Kind → Bool
is_added Both = false
is_added Added = true
is_added Gone = false

abbrev pub is_gone : Kind → Bool
is_gone Both = false
is_gone Added = false
is_gone Gone = true

abbrev pub those : (Kind → Bool) → List Marked → List Text
those on [] = []
those on (m ∷ ms) = (if on m.0 then m.1 ∷ [] else []) ++ those on ms

abbrev pub AreRising : List Text → Type 0
AreRising [] = Unit {0}
AreRising (d ∷ []) = Unit {0}
AreRising (d ∷ e ∷ ds) = (less d e ≡ true) × AreRising (e ∷ ds)

pub record IsDifference (old new added gone : List Text) : Type 0 where
  pub all : List Marked
  pub rising : AreRising (those all_kinds all)
  pub old_is : those is_earlier all ≡ old
  pub new_is : those is_later all ≡ new
  pub added_is : those is_added all ≡ added
  pub gone_is : those is_gone all ≡ gone

-- ---- laws

pub record GrownFrom (old : List Text) (b : Root) (ps : List Part) : Type 0 where
  pub later : Option Tree
  pub is : root_hash b.count (tree_hash later) ≡ b.hash
  pub difference : IsDifference old (all_leaves later) (leaves_of Added ps) (leaves_of Gone ps)

pub record GrownTo (a : Root) (new : List Text) (ps : List Part) : Type 0 where
  pub earlier : Option Tree
  pub is : root_hash a.count (tree_hash earlier) ≡ a.hash
  pub difference : IsDifference (all_leaves earlier) new (leaves_of Added ps) (leaves_of Gone ps)

abbrev pub EarlierIsHonest : Type 0
EarlierIsHonest = (old : List Text) (b : Root) (ps : List Part) (g : Growth) → IsSet old → HaveHashes ps
    → DoNotCollide (λ x. IsHashedFor old x ⊎ IsHashedBy is_earlier (length old) ps x) → verdict (root old) b ps ≡ Ok g → GrownFrom old b ps

abbrev pub LaterIsHonest : Type 0
LaterIsHonest = (a : Root) (new : List Text) (ps : List Part) (g : Growth) → IsSet new → HaveHashes ps
    → DoNotCollide (λ x. IsHashedFor new x ⊎ IsHashedBy is_later (length new) ps x) → verdict a (root new) ps ≡ Ok g → GrownTo a new ps

abbrev pub IsHashedForBoth : List Text → List Text → List Part → Text → Type 0
IsHashedForBoth old new ps x =
    (IsHashedFor old x ⊎ IsHashedBy is_earlier (length old) ps x) ⊎ (IsHashedFor new x ⊎ IsHashedBy is_later (length new) ps x)

abbrev pub BothAreHonest : Type 0
BothAreHonest = (old new : List Text) (ps : List Part) (g : Growth) → IsSet old → IsSet new → HaveHashes ps
    → DoNotCollide (IsHashedForBoth old new ps) → verdict (root old) (root new) ps ≡ Ok g
    → IsDifference old new (leaves_of Added ps) (leaves_of Gone ps)
