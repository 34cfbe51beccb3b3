-- What the proofs of this crate take from outside. Written by tests/proofs/imports.py.
pub use Rattle.cadf_join.specs.Contents.{Contents, Has, HasSingles, IsBetween, IsLeastWith, IsWithin, Text, TextSetValue, Texts, is_after, next_after, tails_of, text_cmp, texts_cmp}
unfoldable pub use Rattle.cadf_join.specs.Contents.{singles, suffixes_of, under}
pub use Rattle.cadf_join.specs.Longest.{IsLongest, longer, longest, longest_of}
pub use Rattle.cadf_join.specs.Maps.{MapValue, NoneIsEmpty, contents_at, entries_by_text, heads, held}
unfoldable pub use Rattle.cadf_join.specs.Maps.{map_of}
pub use Rattle.cadf_join.specs.Prefixes.{all_texts, chain_texts, chains, continued, saturated}
pub use Rattle.cadf_join.specs.Sets.{IsAntisymmetric, Listed, contains-empty, contains-from_list, contains-insert, contains_tied, same_set}
pub use Rattle.cadf_join.specs.laws.Chains.{contains-chains, empty_list-chains}
pub use Rattle.cadf_join.specs.laws.Contents.{any_under, contains-section, contains-singles, contains-under, contents_same, empty_list-singles, empty_list-under, longer-singles, none_under, text_same, text_total, texts_same, texts_total}
pub use Rattle.cadf_join.specs.laws.Maps.{PartMissing, Puts, contains-joined, empty_list-joined, eq_itself, has_head, head_has, same_text}
pub use Rattle.cadf_join.specs.laws.Rising.{AllByRecursion-listed, any_listed, contains-rising, from_list-rising, listed-AllByRecursion, listed-rising, listed_any, rising-from_list, rising-listed, rising_is_sorted, same_rising, some_member, sorted_once}
pub use Rattle.cadf_join.specs.laws.Sets.{insert-contains, insert-held, or_cases, or_left, or_right}
pub use Rattle.std.proofs.Common.{Bool, List, Ordering, [], ap, append_assoc, arith, cond, drop, false, inl, inr, ltb-false, ltb-true, refl, string_bytes, subst, sym, true, ◌+◌, ◌<◌, ◌∙◌, ◌∷◌, ◌≡◌, ◌≤◌, ◌⊎◌}
pub use Rattle.std.proofs.lemmas.Grind.{common_steps}
pub use Rattle.std.proofs.lemmas.List.{length-map, map-append}
pub use Rattle.std.proofs.lemmas.Map.Keys.{sorted_head, sorted_tail}
pub use Rattle.std.proofs.lemmas.Map.Text.{btree_map_updates_text, btree_set_updates_text, is_eq-slice_cmp}
pub use Rattle.std.proofs.lemmas.Result.{IfOk-at_ok}
pub use Rattle.std.specs.BTreeMap.{BTreeMap, UpdatesBy, get_by_text, is_at}
pub use Rattle.std.specs.BTreeSet.{BTreeSet, IsSubset, contains_text}
pub use Rattle.std.specs.Cmp.{Equal-is, IsTotalOrder, eq_by_cmp_equiv, tied_itself}
pub use Rattle.std.specs.Cmp.Lexicographic.{slice_cmp}
pub use Rattle.std.specs.List.{AllByRecursion, find, list_any}
unfoldable pub use Rattle.std.specs.List.Sorted.{IsStrictlySortedBy}
pub use Rattle.std.specs.Map.{keys_of, lookup}
pub use Rattle.std.specs.Option.{option_copied}
pub use Rattle.std.specs.Ordering.{eq_by_cmp, is_eq, nat_cmp, ordering_then}
pub use Rattle.std.specs.Prelude.{Err, IfErr, IfOk, IfSome, IsErrAnd, None, Ok, OnErr, OnOk, Option, Result, Some, is_some, length, map as list_map, map, nat_lt, not, ◌&&◌, ◌++◌, ◌||◌, ◌↔◌, ◌≢◌}
pub use Rattle.std.specs.Str.{bytes_eq}
pub use Rattle.std.specs.String.{string_cmp}
pub use Rattle.std.specs.declared.cmp.Ordering.TheVariants.{Equal, Less}
pub use Rattle.std.specs.declared.string.String.{String}
pub use mathlib.Core.Bool.{true≢false}
