-- What the proofs of this crate take from outside. Written by tests/proofs/imports.py.
pub use Rattle.cadf_tree.specs.Grown.{all_beside, all_needed, are_equal, counts_agree, fault_unless, first_changed, fits, growth_unless, has_changed, has_spare, hidden_leaves, is_seen, is_text, may_hide, order_fault, rise, roots_fault, sides, sides_fault, tree_fault, verdict}
pub use Rattle.cadf_tree.specs.GrowthLaws.{AllSideHashes, AreRising, BothAreHonest, DoNotCollide, EarlierIsHonest, GrownFrom, GrownTo, Hashes, HaveHashes, IsDifference, IsHashedBy, IsHashedFor, IsHashedForBoth, IsHashedOf, JoinedHashes, LaterIsHonest, Marked, SideHashes, TreeHashes, all_kinds, is_added, is_gone, those}
pub use Rattle.cadf_tree.specs.GrowthMade.{GrowthIsComplete, GrowthIsShort, UnchangedIsAHash, all_of, before, change_shown, compared, digests_of, from, growth_parts, is_changed, kinds_of, past, starts_changed, starts_with}
pub use Rattle.cadf_tree.specs.Halved.{IsHalved}
pub use Rattle.cadf_tree.specs.Made.{Kinds, MadeHasBothRoots, MadeIsRead, MadeIsShort, all_parts, any_shown, first_kind, is_on, is_shown, leaf_part, made_leaf, made_of, made_parts, preorder, shown_in, side, size}
unfoldable pub use Rattle.cadf_tree.specs.Made.{made}
pub use Rattle.cadf_tree.specs.OnePass.{IsBefore, Rises, alike, extended}
unfoldable pub use Rattle.cadf_tree.specs.OnePass.{AreApart, parting, parting_from}
pub use Rattle.cadf_tree.specs.Presence.{PresenceIsSound, all_asked, first_part, is_absent, is_ahead, is_past, is_present, member, needs}
pub use Rattle.cadf_tree.specs.PresenceMade.{PresenceIsComplete, PresenceIsShort, above, asked_kinds, first_digest, is_above, is_below, is_between, kind_if, presence_parts, starts_below, walked_kinds}
pub use Rattle.cadf_tree.specs.Pruned.{Fork, Hidden, Pruned, Read, Shown, beside_read, both_read, is_earlier, is_hidden, is_later, is_of, is_spare, items, joined, leaves_of, number, read, read_all, side_hash, side_root, summaries, whole}
pub use Rattle.cadf_tree.specs.Tree.{Branch, IsDigest, IsSet, Text, Tip, Tree, all_leaves, beside, hash, leaf_hash, leaf_text, leaves, less, node_hash, node_text, ones, root, root_hash, root_text, tree_hash, zeros}
unfoldable pub use Rattle.cadf_tree.specs.Tree.{bit, divided, tree_of}
pub use Rattle.cadf_tree.specs.Vouched.{AreSteps, ChainIsVouched, IsHashedForLater, IsVouched, LaterVouches, without}
pub use Rattle.cadf_tree.specs.Walked.{is_asked, latest, walked, whole_sides}
pub use Rattle.cadf_tree.specs.declared.growth.Growth.{Growth}
pub use Rattle.cadf_tree.specs.declared.growth.Sides.{Sides}
pub use Rattle.cadf_tree.specs.declared.growth.TreeFault.{TreeFault}
pub use Rattle.cadf_tree.specs.declared.growth.TreeFault.TheVariants.{NeighbourHidden, NotNeeded, Order, OtherCount, OtherEarlierRoot, OtherLaterRoot}
pub use Rattle.cadf_tree.specs.declared.parts.Kind.{Kind}
pub use Rattle.cadf_tree.specs.declared.parts.Kind.TheVariants.{Added, Both, Gone}
pub use Rattle.cadf_tree.specs.declared.parts.Part.{Part}
pub use Rattle.cadf_tree.specs.declared.parts.Part.TheVariants.{Hash, Leaf, Node}
pub use Rattle.cadf_tree.specs.declared.parts.Summary.{Summary}
pub use Rattle.cadf_tree.specs.declared.tree.Root.{Root}
pub use Rattle.sha2.proofs.Facts256.{length-sha256}
pub use Rattle.sha2.specs.Sha256.{sha256}
pub use Rattle.std.proofs.Common.{Bool, List, None, Option, Some, [], ap, append-nil, append_assoc, arith, cond, drop, false, get_or, inl, inr, length, length-append, length-drop, length-take-le, refl, subst, suc, sym, take, true, zero, ℕ, ◌%◌, ◌*◌, ◌++◌, ◌+◌, ◌-◌, ◌/◌, ◌<◌, ◌^◌, ◌∙◌, ◌∷◌, ◌≡◌, ◌≤◌}
pub use Rattle.std.proofs.Math.Nat.{div-div-eq-div-mul, div-mul-le_self, one-le-pow}
pub use Rattle.std.proofs.lemmas.Bool.{eqb-true, le-leb, le-ltb, leb-true, ltb-false, ltb-true}
pub use Rattle.std.proofs.lemmas.Grind.{common_steps}
pub use Rattle.std.proofs.lemmas.List.{append_cancel_left, drop_more, take-append-drop, take_at, take_rest}
pub use Rattle.std.proofs.lemmas.List.Elements.{filter-append}
pub use Rattle.std.proofs.lemmas.List.Kept.{IsStrictlySortedBy-filter}
pub use Rattle.std.proofs.lemmas.Map.Text.{is_eq-slice_cmp}
pub use Rattle.std.proofs.lemmas.Nat.{le-div}
pub use Rattle.std.specs.Cmp.Lexicographic.{nat_list_cmp_total, slice_cmp}
pub use Rattle.std.specs.List.{AllByRecursion, filter, list_any}
unfoldable pub use Rattle.std.specs.List.Sorted.{IsStrictlySortedBy}
pub use Rattle.std.specs.Option.{option_or}
pub use Rattle.std.specs.Ordering.{is_eq, is_lt, nat_cmp, ordering_reverse, ordering_then}
pub use Rattle.std.specs.Prelude.{IfOk, Ok, Result, if◌then◌else◌, nat_eq, nat_le, nat_lt, not, option_map, unwrap_or, ◌&&◌, ◌||◌, ◌⊎◌}
pub use Rattle.std.specs.declared.cmp.Ordering.{Ordering}
pub use Rattle.std.specs.declared.cmp.Ordering.TheVariants.{Equal, Greater, Less}
