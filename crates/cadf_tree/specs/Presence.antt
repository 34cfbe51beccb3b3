-- What a pruned tree says of digests, if both its roots are that of one set: nothing changed, so all its leaves are of both.
--     is_leaf x f               the part is this digest
--     is_past b f               f may be next to the part b that is before it: b is a leaf below f, or none
--     is_ahead a f              f may be next to the part a that is after it: a is a leaf above f, or none
--     is_present ps f           f is a leaf
--     is_absent before ps f     f would be between two leaves beside each other, or at an end; before: the part before these
--     state ps f                whether f is in the set. None: the parts don't show it
--     needs b x a f             f needs the leaf x, which is between b and a: it is x, or it would be beside x
--     all_asked before ps fs    each leaf is one that some of fs needs
--     shown r ps fs             why the parts don't show what these digests need, and no more, under the root r
--     PresenceIsSound           the state of a digest is so, if the root is that of a set and what is hashed doesn't collide
use Rattle.std.specs.Prelude.{◌≡◌, ◌⊎◌, Bool, true, false, ◌&&◌, ◌||◌, if◌then◌else◌, List, [], ◌∷◌, length, Option, None, Some}
use Rattle.std.specs.Option.{option_or}
use Rattle.std.specs.List.{list_any}
use Rattle.cadf_tree.specs.Tree.{Text, root, less, IsSet}
use Rattle.cadf_tree.specs.Pruned.{items, is_earlier}
use Rattle.cadf_tree.specs.Grown.{is_text, is_hash, fault_unless, tree_fault}
use Rattle.cadf_tree.specs.GrowthLaws.{DoNotCollide, IsHashedFor, IsHashedBy, HaveHashes}
use Rattle.cadf_tree.specs.declared.tree.Root.{Root}
use Rattle.cadf_tree.specs.declared.growth.TreeFault.{TreeFault}
use Rattle.cadf_tree.specs.declared.growth.TreeFault.TheVariants.{NotNeeded}
use Rattle.cadf_tree.specs.declared.parts.Kind.TheVariants.{Both, Added, Gone}
use Rattle.cadf_tree.specs.declared.parts.Part.{Part}
use Rattle.cadf_tree.specs.declared.parts.Part.TheVariants.{Node, Hash, Leaf}

abbrev pub is_leaf : Part → Text → Bool
is_leaf Node f = false
is_leaf (Hash h) f = false
is_leaf (Leaf Both d) f = is_text d f
is_leaf (Leaf Added d) f = false
is_leaf (Leaf Gone d) f = false

abbrev pub is_past : Option Part → Text → Bool
is_past None f = true
is_past (Some Node) f = false
is_past (Some (Hash h)) f = false
is_past (Some (Leaf k d)) f = less d f

abbrev pub is_ahead : Option Part → Text → Bool
is_ahead None f = true
is_ahead (Some Node) f = false
is_ahead (Some (Hash h)) f = false
is_ahead (Some (Leaf k d)) f = less f d

abbrev pub is_present : List Part → Text → Bool
is_present ps f = list_any (λ x. is_leaf x f) ps

abbrev pub is_absent : Option Part → List Part → Text → Bool
is_absent before [] f = is_past before f
is_absent before (x ∷ xs) f = (is_past before f && is_ahead (Some x) f) || is_absent (Some x) xs f

abbrev pub state : List Part → Text → Option Bool
state ps f = if is_present (items ps) f then Some true else if is_absent None (items ps) f then Some false else None

-- ---- what digests need

abbrev pub needs : Option Part → Part → Option Part → Text → Bool
needs b Node a f = false
needs b (Hash h) a f = false
needs b (Leaf Both d) a f = is_text d f || ((is_past b f && less f d) || (less d f && is_ahead a f))
needs b (Leaf Added d) a f = false
needs b (Leaf Gone d) a f = false

abbrev pub first_part : List Part → Option Part
first_part [] = None
first_part (x ∷ xs) = Some x

abbrev pub all_asked : Option Part → List Part → List Text → Bool
all_asked before [] fs = true
all_asked before (x ∷ xs) fs = (is_hash x || list_any (needs before x (first_part xs)) fs) && all_asked (Some x) xs fs

abbrev pub shown : Root → List Part → List Text → Option TreeFault
shown r ps fs = option_or (tree_fault r r ps) (fault_unless (all_asked None (items ps) fs) NotNeeded)

-- ---- the law

abbrev pub member : Text → List Text → Bool
member f ds = list_any (λ d. is_text d f) ds

abbrev pub PresenceIsSound : Type 0
PresenceIsSound = (ds : List Text) (ps : List Part) → IsSet ds → HaveHashes ps → DoNotCollide (λ x. IsHashedFor ds x ⊎ IsHashedBy is_earlier (length ds) ps x)
    → tree_fault (root ds) (root ds) ps ≡ None → (f : Text) (b : Bool) → state ps f ≡ Some b → member f ds ≡ b
