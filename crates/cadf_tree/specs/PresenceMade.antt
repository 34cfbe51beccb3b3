-- The parts that are made to show whether digests are in a set.
--     first_digest ds           the first of ds
--     is_above b f, is_below a f, is_between b a f   f is above b, below a, or both, if there is a b or an a
--     kind_if z                 of both sets, or not shown
--     asked_kinds before ds fs  each of ds is shown if one of fs is between the digests beside it: it is this one, or would be beside it; before:
--                               the digest before these
--     above b fs                those of fs from the first on that is above b
--     starts_below fs a         the first of fs is below a, if there is an a
--     walked_kinds ds fs        the same of fs that rise, in one pass over both
--     presence_parts ds fs      the parts that show of each of fs whether it is in the set ds
--     PresenceIsComplete        they are accepted under the set's root, for what is asked, and show the state of each digest that is asked for
--     PresenceIsShort           there are at most one of them and 1024 for each digest that is asked for
use Rattle.std.specs.Prelude.{◌≡◌, ◌≤◌, ◌+◌, ◌*◌, Bool, true, false, ◌&&◌, if◌then◌else◌, List, [], ◌∷◌, length, Option, None, Some}
use Rattle.std.specs.List.{list_any}
use Rattle.cadf_tree.specs.Tree.{Text, tree_of, root, less, IsSet}
use Rattle.cadf_tree.specs.Made.{Kinds, made_parts}
use Rattle.cadf_tree.specs.Presence.{member, state, shown}
use Rattle.cadf_tree.specs.declared.parts.Kind.{Kind}
use Rattle.cadf_tree.specs.declared.parts.Kind.TheVariants.{Both}
use Rattle.cadf_tree.specs.declared.parts.Part.{Part}

abbrev pub first_digest : List Text → Option Text
first_digest [] = None
first_digest (d ∷ ds) = Some d

abbrev pub is_above : Option Text → Text → Bool
is_above None f = true
is_above (Some b) f = less b f

abbrev pub is_below : Option Text → Text → Bool
is_below None f = true
is_below (Some a) f = less f a

abbrev pub is_between : Option Text → Option Text → Text → Bool
is_between b a f = is_above b f && is_below a f

abbrev pub kind_if : Bool → Option Kind
kind_if z = if z then Some Both else None

abbrev pub asked_kinds : Option Text → List Text → List Text → Kinds
asked_kinds before [] fs = []
asked_kinds before (d ∷ ds) fs = kind_if (list_any (is_between before (first_digest ds)) fs) ∷ asked_kinds (Some d) ds fs

-- ---- in one pass

abbrev pub above : Text → List Text → List Text
above b [] = []
above b (f ∷ fs) = if less b f then f ∷ fs else above b fs

abbrev pub starts_below : List Text → Option Text → Bool
starts_below [] a = false
starts_below (f ∷ fs) a = is_below a f

abbrev pub walked_kinds : List Text → List Text → Kinds
walked_kinds [] fs = []
walked_kinds (d ∷ ds) fs = kind_if (starts_below fs (first_digest ds)) ∷ walked_kinds ds (above d fs)

-- ---- the law

abbrev pub presence_parts : List Text → List Text → List Part
presence_parts ds fs = made_parts (tree_of ds) (asked_kinds None ds fs)

pub record ShowsPresence (ds fs : List Text) : Type 0 where
  pub accepted : shown (root ds) (presence_parts ds fs) fs ≡ None
  pub states : (f : Text) → member f fs ≡ true → state (presence_parts ds fs) f ≡ Some (member f ds)

abbrev pub PresenceIsComplete : Type 0
PresenceIsComplete = (ds fs : List Text) → IsSet ds → ShowsPresence ds fs

abbrev pub PresenceIsShort : Type 0
PresenceIsShort = (ds fs : List Text) → IsSet ds → length (presence_parts ds fs) ≤ 1 + 1024 * length fs
