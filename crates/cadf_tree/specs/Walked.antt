-- Parts, nodes among them, gone through from left to right, and what is left when they are read.
--     follows fit before x   x fits the part before it, if there is one; a node does
--     latest before x        the part before those after x: x, or the one before it if x is a node
--     walked fit before ps   each of ps follows
--     is_asked before x ps fs   x, with ps after it, is no leaf, or one that some of fs needs
--     whole_sides r          the hashes of both sides of a tree that was read, if no part is left
use Rattle.std.specs.Prelude.{Bool, true, ◌&&◌, List, [], ◌∷◌, Option, None, Some, unwrap_or}
use Rattle.std.specs.List.{list_any}
use Rattle.cadf_tree.specs.Tree.{Text}
use Rattle.cadf_tree.specs.Pruned.{items}
use Rattle.cadf_tree.specs.Presence.{needs, first_part}
use Rattle.sha2.specs.Sha256.{sha256}
use Rattle.cadf_tree.specs.declared.growth.Sides.{Sides}
use Rattle.cadf_tree.specs.declared.parts.Summary.{Summary}
use Rattle.cadf_tree.specs.declared.parts.Part.{Part}
use Rattle.cadf_tree.specs.declared.parts.Part.TheVariants.{Node, Hash, Leaf}

abbrev pub follows : (Part → Part → Bool) → Option Part → Part → Bool
follows fit None x = true
follows fit (Some b) Node = true
follows fit (Some b) (Hash h) = fit b (Hash h)
follows fit (Some b) (Leaf k d) = fit b (Leaf k d)

abbrev pub latest : Option Part → Part → Option Part
latest b Node = b
latest b (Hash h) = Some (Hash h)
latest b (Leaf k d) = Some (Leaf k d)

abbrev pub walked : (Part → Part → Bool) → Option Part → List Part → Bool
walked fit b [] = true
walked fit b (x ∷ xs) = follows fit b x && walked fit (latest b x) xs

abbrev pub is_asked : Option Part → Part → List Part → List Text → Bool
is_asked b Node ps fs = true
is_asked b (Hash h) ps fs = true
is_asked b (Leaf k d) ps fs = list_any (needs b (Leaf k d) (first_part (items ps))) fs

abbrev pub whole_sides : Option (Summary × List Part) → Option Sides
whole_sides None = None
whole_sides (Some (s, [])) = Some (record { earlier = unwrap_or s.earlier (sha256 []); later = unwrap_or s.later (sha256 []); spare = s.spare })
whole_sides (Some (s, x ∷ xs)) = None
