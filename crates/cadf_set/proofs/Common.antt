-- What the proofs of this crate take from outside. Written by tests/proofs/imports.py.
pub use Rattle.cadf_atom.proofs.AtomLemmas.{line-again, line-only, line-tells, line-text, line-unbroken}
pub use Rattle.cadf_atom.proofs.KeyKinds.{no_ruling}
pub use Rattle.cadf_atom.proofs.PathKinds.{atom_passes, kind_is, one_kind, passes_atom}
pub use Rattle.cadf_atom.proofs.Places.{are_places}
pub use Rattle.cadf_atom.proofs.RuleLaws.{attachment_rule, body_rule, entity_rule, name_rule, name_text, property_rule, some_attachment, some_body, some_step, step_rule}
pub use Rattle.cadf_atom.proofs.Rulings.{atom_at, behind_are_atoms, rulings_are}
pub use Rattle.cadf_atom.specs.Atom.{IsRuling, atom_rules, is_body_text, is_entity_text, is_step_text}
pub use Rattle.cadf_atom.specs.AtomSets.{IsReplicaSet, keys}
pub use Rattle.cadf_atom.specs.Contributions.{ADocument, AFile, AProperty, ARuling, ASighting, AnAtom, AnEntity, Contribution, atoms, entity_atom, in_one, kind_letter, one_atom, property_atom, seen_entry, union_all}
unfoldable pub use Rattle.cadf_atom.specs.Contributions.{document_atoms, entity_atoms, property_atoms, sighting_atoms}
pub use Rattle.cadf_atom.specs.KeyKinds.{letter_of}
pub use Rattle.cadf_atom.specs.Shown.{Conflict, Entry, behind, by_time, conflict, conflict_atoms, conflict_content, conflict_entries, conflict_part, content_atoms, entries, entry, entry_atoms, entry_of, is_in_log, is_only, is_shown, key_of, log_content, log_entries, log_part, of_letter, only, place_by_time, put_behind, ruled, rulings, strip, values}
pub use Rattle.cadf_event.specs.Document.{DocumentParts}
pub use Rattle.cadf_event.specs.Entity.{EntityParts}
pub use Rattle.cadf_event.specs.Event.{Parts}
pub use Rattle.cadf_event.specs.Known.{DocumentInvariant, EntityInvariant, IsAttachmentText, IsChainTexts, IsNameText, IsStepPartText, PropertyInvariant, SightingInvariant}
pub use Rattle.cadf_event.specs.Property.{PropertyParts}
pub use Rattle.cadf_event.specs.declared.entity.Kind.{Kind}
pub use Rattle.cadf_event.specs.declared.entity.Kind.TheVariants.{Geolocation, Metric, Resource}
pub use Rattle.cadf_join.proofs.Members.{listed_either}
pub use Rattle.cadf_join.proofs.Membership.{in_singles}
pub use Rattle.cadf_join.proofs.Outcome.{on_err_then, on_ok_then}
pub use Rattle.cadf_join.proofs.Risings.{rising-section, rising-singles}
pub use Rattle.cadf_join.proofs.Walks.{continued_from_nothing}
pub use Rattle.cadf_join.specs.Contents.{Contents, Has, IsBetween, IsSingle, IsWithin, Text, Texts, is_after, next_after, singles, suffixes_of, tails_of, text_cmp, texts_cmp}
pub use Rattle.cadf_join.specs.Longest.{longest_of}
pub use Rattle.cadf_join.specs.Maps.{heads}
pub use Rattle.cadf_join.specs.MultiValued.{multi_valued_keys}
pub use Rattle.cadf_join.specs.Prefixes.{all_texts, chain_texts, texts_at, texts_found}
pub use Rattle.cadf_join.specs.Sets.{Listed, contains-from_list, contains-insert, contains-union, from_list_push, rising, same_set, sorted_keys}
pub use Rattle.cadf_join.specs.laws.Contents.{contains-section, contains-singles, text_same, text_total, texts_same, texts_total, unchanged_is_between}
pub use Rattle.cadf_join.specs.laws.Maps.{eq_itself, has_head, head_has, same_text}
pub use Rattle.cadf_join.specs.laws.Rising.{AllByRecursion-listed, from_list-rising, listed-AllByRecursion, listed-rising, listed_any, listed_sorted, rising-from_list, rising-listed, rising_is_sorted, sorted_listed, sorted_once}
pub use Rattle.cadf_join.specs.laws.Sets.{and_second, or_cases}
pub use Rattle.cadf_line.proofs.Lists.{Some-same, filter_listed, filter_map_listed, flat_map_listed, found_listed, listed_filter, listed_filter_map, listed_flat_map}
pub use Rattle.cadf_line.proofs.Missing.{filter_is_missing, in_unknown, least_with_carriers, listed_map, map_listed, missing_by_is, missing_by_within, missing_minimal, missing_suffices, missing_within, unknown_has, unknown_lacks, with_carriers_grounded, with_carriers_least}
pub use Rattle.cadf_line.proofs.SpelledLines.{noted_rising}
pub use Rattle.cadf_line.specs.Atoms.{AreAtoms, IsAtom, IsGrounded, Rules, attachment, attachment_letter, begins_with, carrier, chain, chain_letter, event, event_letter, geolocation, geolocation_letter, is_text, metric, metric_letter, property, property_letter, resource, resource_letter, ruling, ruling_letter, tag, tag_letter}
pub use Rattle.cadf_line.specs.Digest.{IsDigest, atom_digest}
pub use Rattle.cadf_line.specs.Letters.{letter_text}
pub use Rattle.cadf_line.specs.Missing.{Digests, NoCollision, missing, missing_by, unknown, with_carriers}
pub use Rattle.cadf_line.specs.RulingTexts.{RulingParts, is_value_letter, ruling_atom, value_digest}
pub use Rattle.cadf_pathset.proofs.Agreement.{agree_less}
pub use Rattle.cadf_pathset.proofs.CarrierLists.{last-more}
pub use Rattle.cadf_pathset.proofs.Copies.{chosen_by}
pub use Rattle.cadf_pathset.proofs.Ends.{agrees_behind, begins_behind}
pub use Rattle.cadf_pathset.proofs.Several.{text_in, texts_of}
pub use Rattle.cadf_pathset.specs.Lists.{chosen_of, last_list, last_starts_with, strip as strip_by}
pub use Rattle.cadf_pathset.specs.Nodes.{Agree}
pub use Rattle.cadf_pathset.specs.Sections.{sections_from, sections_of, suffixes_after}
pub use Rattle.cadf_set.specs.Access.{conflicted_keys, parts}
pub use Rattle.cadf_set.specs.History.{Against, AgainstInventory, AgainstReplica, HaveSameContributions, History, IsAcceptable, IsAncestor, IsByReplicas, IsHistory, Join, Learn, New, Part, contributions, delta_against, held, replica_of}
pub use Rattle.cadf_set.specs.Inventory.{AreDigests, missing_from_inventory}
pub use Rattle.cadf_set.specs.Order.{AreAtomsInOrder, AreCarried, IsRising, atom_cmp, atom_is_above, has_carrier, is_atom, is_carried}
pub use Rattle.cadf_set.specs.Pushes.{IsPushed}
pub use Rattle.cadf_set.specs.Refusals.{IsCarried}
pub use Rattle.cadf_set.specs.Retry.{Call, IsRefused, Leaves, joined_by_calls}
pub use Rattle.cadf_set.specs.Ruled.{is_conflicted, is_ruled, ruled_value, shown_value}
pub use Rattle.std.proofs.Common.{Bool, Bor, Err, IfOk, List, Ok, OnErr, Result, String, [], ap, append-nil, append_assoc, ap₂, arith, cond, drop, encode_utf8, false, get_or, inl, inr, is_eq, le-leb, leb-true, length, map, refl, rules, string_bytes, subst, suc, sym, take, true, true≢false, zero, ℕ, ℤ, ◌++◌, ◌+◌, ◌<◌, ◌∙◌, ◌∷◌, ◌≡◌, ◌≤◌, ◌⊎◌}
pub use Rattle.std.proofs.lemmas.Bool.{and_from, false_from_ne_true, lt-leb}
pub use Rattle.std.proofs.lemmas.Cmp.{eq_by_cmp_equiv, lists_total, nat_list_cmp_total}
pub use Rattle.std.proofs.lemmas.Grind.{common_steps}
pub use Rattle.std.proofs.lemmas.Iterator.{items_from_drains}
pub use Rattle.std.proofs.lemmas.Iterator.Adapters.{YieldsList-from_vec}
pub use Rattle.std.proofs.lemmas.List.{map-id, nil_from_length, take_all, take_more as taken_at}
pub use Rattle.std.proofs.lemmas.List.Elements.{Contains-append_cases, Contains-append_left, Contains-append_right, Contains-push, Contains-push_cases}
pub use Rattle.std.proofs.lemmas.List.Kept.{IsStrictlySortedBy-filter}
pub use Rattle.std.proofs.lemmas.List.Sorted.{Contains-permutation, IsPermutation-map, IsPermutation-sym, list_any-IsPermutation}
pub use Rattle.std.proofs.lemmas.Map.Views.{Contains-from_any, list_any-from_Contains}
pub use Rattle.std.proofs.lemmas.Simd.{map-map}
pub use Rattle.std.specs.BTreeSet.{BTreeSet, IsFromIterResult, Updates, contains}
pub use Rattle.std.specs.Cmp.{Equal-is, IsTotalOrder, tied_itself}
pub use Rattle.std.specs.Cmp.Lexicographic.{bytes_decides, pointwise, pointwise_decides}
pub use Rattle.std.specs.FinMap.{nat_cmp-IsAntisymmetric, slice_cmp-IsAntisymmetric}
pub use Rattle.std.specs.FinSet.{contains-remove, remove}
pub use Rattle.std.specs.List.{AllByRecursion, cons_option, filter, filter_map, find, flat_map, last_or, list_all, list_any, slice_get}
pub use Rattle.std.specs.List.Sorted.{IsPermutation}
unfoldable pub use Rattle.std.specs.List.Sorted.{IsStrictlySortedBy}
pub use Rattle.std.specs.Map.Iter.{TakesFirst, deref}
pub use Rattle.std.specs.Option.{option_copied}
pub use Rattle.std.specs.Ordering.{eq_by_cmp, is_lt, match_ordering, ordering_then}
pub use Rattle.std.specs.Prelude.{Contains, IfSome, IsTrue, None, OnOk, Option, Some, nat_le, nat_lt, not, option_map, slice_index_or, ◌&&◌, ◌||◌, ◌↔◌}
pub use Rattle.std.specs.declared.cmp.Ordering.{Ordering}
pub use Rattle.std.specs.declared.cmp.Ordering.TheVariants.{Equal, Greater, Less}
