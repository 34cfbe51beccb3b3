-- The parts that are made to show how one set came of another one.
--     all_of k ds            these digests, each of this kind
--     before o ns, from o ns those of ns before the first that isn't below o, and the others
--     starts_with o ns       o is the first of ns
--     past o ns              ns without it
--     compared os ns         the digests of both sets, rising, each with its kind
--     kinds_of ms, digests_of ms      the kinds, and the digests
--     is_changed k, starts_changed ks   k is of one of the sets alone; so is the first of ks
--     change_shown before ks each is shown if it changed or is beside one that changed; before: the one before these changed
--     growth_parts old new   the parts that show how the set new came of the set old
--     IsShownGrowth, GrowthIsComplete   they are accepted under the roots of both sets, and show their difference
--     changes_in ps          how many digests were added or are gone, by the parts
--     GrowthIsShort          there are at most one of them and 1536 for each digest that was added or is gone
--     UnchangedIsAHash       of a set that didn't change they are its tree's hash; hash_part ds: that part, and of no digests no part
use Rattle.std.specs.Prelude.{◌≡◌, ◌≤◌, ◌+◌, ◌*◌, ℕ, Bool, true, false, ◌||◌, if◌then◌else◌, List, [], ◌∷◌, ◌++◌, length, None, Some, Ok}
use Rattle.cadf_tree.specs.Tree.{Text, tree_hash, tree_of, root, less, IsSet}
use Rattle.cadf_tree.specs.Pruned.{leaves_of}
use Rattle.cadf_tree.specs.Grown.{is_text, verdict}
use Rattle.cadf_tree.specs.GrowthLaws.{Marked, IsDifference, all_kinds, those}
use Rattle.cadf_tree.specs.Made.{Kinds, made_parts}
use Rattle.cadf_tree.specs.declared.parts.Kind.{Kind}
use Rattle.cadf_tree.specs.declared.parts.Kind.TheVariants.{Both, Added, Gone}
use Rattle.cadf_tree.specs.declared.parts.Part.{Part}
use Rattle.cadf_tree.specs.declared.parts.Part.TheVariants.{Hash}

-- ---- both sets

abbrev pub all_of : Kind → List Text → List Marked
all_of k [] = []
all_of k (d ∷ ds) = (k, d) ∷ all_of k ds

abbrev pub before : Text → List Text → List Text
before o [] = []
before o (n ∷ ns) = if less n o then n ∷ before o ns else []

abbrev pub from : Text → List Text → List Text
from o [] = []
from o (n ∷ ns) = if less n o then from o ns else n ∷ ns

abbrev pub starts_with : Text → List Text → Bool
starts_with o [] = false
starts_with o (n ∷ ns) = is_text n o

abbrev pub past : Text → List Text → List Text
past o [] = []
past o (n ∷ ns) = if is_text n o then ns else n ∷ ns

abbrev pub compared : List Text → List Text → List Marked
compared [] ns = all_of Added ns
compared (o ∷ os) ns = all_of Added (before o ns) ++ (if starts_with o (from o ns) then Both else Gone, o) ∷ compared os (past o (from o ns))

abbrev pub digests_of : List Marked → List Text
digests_of ms = those all_kinds ms

abbrev pub kinds_of : List Marked → List Kind
kinds_of [] = []
kinds_of (m ∷ ms) = m.0 ∷ kinds_of ms

-- ---- what is shown

abbrev pub is_changed : Kind → Bool
is_changed Both = false
is_changed Added = true
is_changed Gone = true

abbrev pub starts_changed : List Kind → Bool
starts_changed [] = false
starts_changed (k ∷ ks) = is_changed k

abbrev pub change_shown : Bool → List Kind → Kinds
change_shown before [] = []
change_shown before (k ∷ ks) = (if is_changed k || (before || starts_changed ks) then Some k else None) ∷ change_shown (is_changed k) ks

abbrev pub growth_parts : List Text → List Text → List Part
growth_parts old new = made_parts (tree_of (digests_of (compared old new))) (change_shown false (kinds_of (compared old new)))

-- ---- laws

pub record IsShownGrowth (old new : List Text) (ps : List Part) : Type 0 where
  pub difference : IsDifference old new (leaves_of Added ps) (leaves_of Gone ps)
  pub accepted : verdict (root old) (root new) ps ≡ Ok (record { added = length (leaves_of Added ps); gone = length (leaves_of Gone ps) })

abbrev pub GrowthIsComplete : Type 0
GrowthIsComplete = (old new : List Text) → IsSet old → IsSet new → IsShownGrowth old new (growth_parts old new)

abbrev pub hash_part : List Text → List Part
hash_part [] = []
hash_part (d ∷ ds) = Hash (tree_hash (tree_of (d ∷ ds))) ∷ []

abbrev pub UnchangedIsAHash : Type 0
UnchangedIsAHash = (ds : List Text) → IsSet ds → growth_parts ds ds ≡ hash_part ds

abbrev pub changes_in : List Part → ℕ
changes_in ps = length (leaves_of Added ps) + length (leaves_of Gone ps)

abbrev pub GrowthIsShort : Type 0
GrowthIsShort = (old new : List Text) → IsSet old → IsSet new → length (growth_parts old new) ≤ 1 + 1536 * changes_in (growth_parts old new)
