-- What is looked up of a proof's parts.
--     AreLeaves s ps   s has the digests of the leaves, and no other
--     is_inside g f    f would be between the parts of the gap
--     any_gap gs f     f would be in one of the gaps
--     AreGaps gs ps    the gaps show of the same digests as the parts that they aren't there
use Rattle.std.specs.Prelude.{◌≡◌, Bool, ◌&&◌, List, None}
use Rattle.std.specs.List.{list_any}
use Rattle.cadf_join.specs.Contents.{Text}
use Rattle.cadf_join.specs.Sets as set
use Rattle.cadf_line.specs.Missing.{Digests}
use Rattle.cadf_tree.specs.Presence.{is_absent, is_ahead, is_past, is_present}
use Rattle.cadf_tree.specs.Pruned.{items}
use Rattle.cadf_tree.specs.declared.parts.Part.{Part}
use Rattle.cadf_evidence.specs.declared.shown_parts.Gap.{Gap}

abbrev pub AreLeaves : Digests → List Part → Type 0
AreLeaves s ps = (f : Text) → set.contains s f ≡ is_present (items ps) f

abbrev pub is_inside : Gap → Text → Bool
is_inside g f = is_past g.before f && is_ahead g.after f

abbrev pub any_gap : List Gap → Text → Bool
any_gap gs f = list_any (λ g. is_inside g f) gs

abbrev pub AreGaps : List Gap → List Part → Type 0
AreGaps gs ps = (f : Text) → any_gap gs f ≡ is_absent None (items ps) f
