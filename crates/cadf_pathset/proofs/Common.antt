-- What the proofs of this crate take from outside. Written by tests/proofs/imports.py.
pub use Rattle.cadf_join.proofs.Outcome.{either, if_ok_then, on_err_then, on_ok_then}
pub use Rattle.cadf_join.proofs.Risings.{rising-section}
pub use Rattle.cadf_join.proofs.Shows.{Shown, shown_at_first, shown_more, shown_stops_in}
pub use Rattle.cadf_join.proofs.Walks.{continued_from_nothing}
pub use Rattle.cadf_join.specs.Contents.{Contents, Has, IsLeastWith, Text, Texts, is_after, next_after, tails_of, text_cmp, texts_cmp}
unfoldable pub use Rattle.cadf_join.specs.Contents.{suffixes_of}
pub use Rattle.cadf_join.specs.Longest.{longest, longest_of, longest_with}
pub use Rattle.cadf_join.specs.Maps.{firsts}
unfoldable pub use Rattle.cadf_join.specs.Maps.{heads}
pub use Rattle.cadf_join.specs.MultiValued.{multi_valued_keys}
pub use Rattle.cadf_join.specs.Prefixes.{AreChains, HasNoEmptyList, all_texts, chain_texts, chains, continued, saturated, texts_at, texts_found}
pub use Rattle.cadf_join.specs.Sets.{IsAntisymmetric, Listed, contains-difference, contains-from_list, contains-insert, contains-union}
pub use Rattle.cadf_join.specs.laws.Chains.{chains_of_chains}
pub use Rattle.cadf_join.specs.laws.Contents.{contains-section, contents_same, text_same, text_total, texts_same, texts_total, unchanged_is_between}
pub use Rattle.cadf_join.specs.laws.Rising.{AllByRecursion-listed, any_listed, contains-rising, from_list-rising, listed-AllByRecursion, listed-rising, listed_any, rising-from_list, rising_is_sorted}
pub use Rattle.cadf_pathset.specs.Block.{AreEnds, texts_from}
pub use Rattle.cadf_pathset.specs.Carriers.{carriers_in, with_carriers_by}
pub use Rattle.cadf_pathset.specs.Fork.{IsFork, IsForkAt}
pub use Rattle.cadf_pathset.specs.Lists.{at_places, chosen_of, first_text, is_above_last, is_before, last_list, last_of, last_starts_with, prefix_cmp, strip}
pub use Rattle.cadf_pathset.specs.Merge.{IsMerging, merge_step, sorted_merge, sorted_without, without_step}
pub use Rattle.cadf_pathset.specs.Nodes.{Agree, AreNodes, AreThere, IsClimb, IsLine, IsThere, last_node, last_text, list_at, lists, lists_at, place, rest_of, shared}
unfoldable pub use Rattle.cadf_pathset.specs.Nodes.{ParentsFirst, lists_from}
pub use Rattle.cadf_pathset.specs.Sections.{sections_from, sections_of, suffixes_after}
pub use Rattle.cadf_pathset.specs.Walks.{Advances, IsLinePrefix, Place, Steps, lists_ahead}
pub use Rattle.cadf_pathset.specs.declared.sort.Fork.{Fork}
pub use Rattle.std.proofs.Common.{Bool, Err, IfOk, List, None, Ok, OnOk, Option, Result, Some, [], ap, arith, below_more, cond, drop, false, get_or, inl, inr, le-leb, length, map, min, nat_eq, refl, reverse, string_bytes, subst, suc, sym, take, true, zero, ℕ, ◌*◌, ◌++◌, ◌+◌, ◌-◌, ◌/◌, ◌<◌, ◌||◌, ◌∙◌, ◌∷◌, ◌≡◌, ◌≤◌, ◌⊎◌}
pub use Rattle.std.proofs.lemmas.Bool.Decides.{nat_tests}
pub use Rattle.std.proofs.lemmas.Cmp.{ranked}
pub use Rattle.std.proofs.lemmas.Grind.{common_steps}
pub use Rattle.std.proofs.lemmas.List.{append-nil, append_assoc, at_drop_more, drop-append-le, drop-drop, drop-map, drop-take, drop_all, drop_more, get_or-drop, get_or-map, get_or-take, get_or_append_left, get_or_push, get_or_read, length-append, length-drop, length-map, length-take, length-take-le, length_push, map-append, nil_from_length, take-append-drop, take-append-le, take-map, take-take, take_all, take_at, take_min, take_more, take_more_same}
pub use Rattle.std.proofs.lemmas.Option.{slice_get-map}
pub use Rattle.std.proofs.lemmas.Str.{IsCharBoundary-end, IsCharBoundary-from_rest, IsCharBoundary-from_take, IsCharBoundary-start, IsUtf8-drop, IsUtf8-string_bytes, IsUtf8-take}
pub use Rattle.std.specs.Borrow.{Bor}
pub use Rattle.std.specs.Cmp.{IsTotalOrder, nat_cmp_is, tied_itself}
pub use Rattle.std.specs.Cmp.Lexicographic.{bytes_decides, pointwise}
pub use Rattle.std.specs.List.{AllByRecursion, cons_option, filter, filter_map, find, list_any}
unfoldable pub use Rattle.std.specs.List.Sorted.{IsStrictlySortedBy}
pub use Rattle.std.specs.Option.{option_copied, option_map, unwrap_or}
pub use Rattle.std.specs.Ordering.{eq_by_cmp, is_eq, is_lt, match_ordering, nat_cmp, ordering_reverse, ordering_then}
pub use Rattle.std.specs.Prelude.{IfErr, IfSome, is_ok, is_some, nat_le, not, slice_get, ◌↔◌}
pub use Rattle.std.specs.Result.{result_and}
pub use Rattle.std.specs.Str.{IsCharBoundary, IsUtf8}
pub use Rattle.std.specs.declared.cmp.Ordering.{Ordering}
pub use Rattle.std.specs.declared.cmp.Ordering.TheVariants.{Equal, Greater, Less}
pub use lib.Dec.{eqb}
pub use mathlib.Core.Bool.{true≢false}
