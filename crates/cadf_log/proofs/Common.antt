-- What the proofs of this crate take from outside. Written by tests/proofs/imports.py.
pub use Rattle.cadf_atom.proofs.CanonicalTexts.{named_by}
pub use Rattle.cadf_atom.proofs.KeyKinds.{no_ruling}
pub use Rattle.cadf_atom.proofs.PathKinds.{atom_passes}
pub use Rattle.cadf_atom.proofs.RuleLaws.{attachment_rule, body_rule, step_rule}
pub use Rattle.cadf_atom.proofs.RulingTexts.{digest_utf8, value_letter_utf8}
pub use Rattle.cadf_atom.proofs.Rulings.{rulings_are, three_behind}
pub use Rattle.cadf_atom.proofs.ValueLaws.{text_from, text_there}
pub use Rattle.cadf_atom.specs.Atom.{IsRuling, atom_rules, is_attachment_value, is_body_text, is_entity_text, is_keyed, is_ruling_text, is_step_text, key_member, nests_at_most_100}
pub use Rattle.cadf_atom.specs.AtomSets.{IsReplicaSet, keys}
pub use Rattle.cadf_atom.specs.Contributions.{one_atom, union_all}
unfoldable pub use Rattle.cadf_atom.specs.Contributions.{document_atoms, entity_atoms, property_atoms, sighting_atoms}
pub use Rattle.cadf_atom.specs.KeyKinds.{letter_of}
pub use Rattle.cadf_atom.specs.PathKind.{is_atom_by, is_chain, is_one}
pub use Rattle.cadf_atom.specs.Shown.{Conflict, Entry, LogContent, behind, by_time, conflict, conflict_content, conflict_entries, conflict_part, content_atoms, entries, entry, entry_atoms, entry_of, is_in_log, is_only, is_shown, key_of, log_content, log_entries, log_part, of_letter, only, place_by_time, put_behind, rulings, strip, time_cmp, values}
pub use Rattle.cadf_atom.specs.ValueTests.{is_text_of}
pub use Rattle.cadf_atom.specs.declared.key_kind.KeyKind.{KeyKind}
pub use Rattle.cadf_atom.specs.declared.key_kind.KeyKind.TheVariants.{Event, Geolocation, Metric, Property, Resource}
pub use Rattle.cadf_event.proofs.SomeBody.{bodies_exclude_separate_parts}
pub use Rattle.cadf_event.specs.Canonical.{IsAttachment, IsBody, IsStepPart, IsTextOf}
pub use Rattle.cadf_event.specs.Document.{AreEntities, DocumentParts, IsDocument, IsEventDocument, IsLogDocument, entities_at, entities_in, events_at, events_in}
pub use Rattle.cadf_event.specs.Entity.{EntityParts, IsEntitySeen, key_name}
pub use Rattle.cadf_event.specs.Event.{AreChains, IsBodyOf, IsChain, IsSeen, IsStep, IsStepText, Parts, chains_in, depth_limits, event_uri, is_shallow, set_apart}
pub use Rattle.cadf_event.specs.LogName.{is_name_text}
pub use Rattle.cadf_event.specs.Names.{is_name}
pub use Rattle.cadf_event.specs.Parts.{EachPair, are_items, has_text, if_there, is_text_that, items_or_none, list_if_there, list_of, list_under, non_empty, texts_in}
pub use Rattle.cadf_event.specs.Property.{PropertyParts, is_property, own_members, properties_of, property_of, reserved}
pub use Rattle.cadf_event.specs.declared.entity.Kind.{Kind}
pub use Rattle.cadf_join.proofs.Members.{and_both, and_first, and_second, not_no, not_yes}
pub use Rattle.cadf_join.specs.Contents.{Contents, Has, Text, Texts, suffixes_of, text_cmp, texts_cmp}
pub use Rattle.cadf_join.specs.Longest.{longer, longest_of}
pub use Rattle.cadf_join.specs.Maps.{heads}
pub use Rattle.cadf_join.specs.Sets.{Listed, rising, sorted_keys}
pub use Rattle.cadf_join.specs.laws.Contents.{contains-section, text_same, text_total, texts_same, texts_total}
pub use Rattle.cadf_join.specs.laws.Maps.{has_head}
pub use Rattle.cadf_join.specs.laws.Rising.{AllByRecursion-listed, listed-AllByRecursion, listed-rising, rising-listed, rising_is_sorted, sorted_keys_are_sorted, sorted_once}
pub use Rattle.cadf_json.proofs.Built.{members_put}
pub use Rattle.cadf_json.proofs.Looks.{member_in}
pub use Rattle.cadf_json.proofs.Orders.{AreBelow, AreBelow-further, AreBelow-joined, greater-from_less, joined-none, joined-one, less-from_greater, push_if_last}
pub use Rattle.cadf_json.proofs.PlainRuns.{spelled_whole}
pub use Rattle.cadf_json.proofs.Rewriting.{all-put, get-left_out, get-put, without-put}
pub use Rattle.cadf_json.proofs.TextBytes.{text_utf8}
pub use Rattle.cadf_json.proofs.Texts.{HasNumbers-outline, has_float-IsWhole, read-text}
pub use Rattle.cadf_json.specs.Parts.{is_object, joined, members_in, to_list}
pub use Rattle.cadf_json.specs.Rewritten.{all_members, is_one_of, limit_for, replaced, without}
pub use Rattle.cadf_json.specs.Streams.{AppendsPrefix, counted, is_write_fault, one_more}
pub use Rattle.cadf_json.specs.Value.{IsValue, IsWhole, ItemsAreWhole, MembersAreWhole, Rises, SpellsValue}
pub use Rattle.cadf_line.proofs.Lists.{Some-same, filter_listed, filter_map_listed, flat_map_listed, listed_filter, listed_flat_map}
pub use Rattle.cadf_line.proofs.Missing.{listed_map, map_listed}
pub use Rattle.cadf_line.specs.Atoms.{AreAtoms, IsAtom, IsGrounded, Rules, attachment_letter, begins_with, chain_letter, event_letter, geolocation_letter, is_text, metric_letter, property_letter, resource_letter, ruling, ruling_letter, tag_letter}
pub use Rattle.cadf_line.specs.RulingTexts.{RulingParts, ruling_atom, value_digest}
pub use Rattle.cadf_line.specs.declared.letter.Letter.TheVariants.{Attachment, Tag}
pub use Rattle.cadf_log.specs.Back.{HasNothingApart, IsAttachmentText, IsChainTexts, IsEntityEntry, IsEventEntry, IsNameText, IsNamedEntity, IsOne, IsPlainEntry, IsPropertyEntry, IsShowable, IsStepPartText, NestsWithin, in_one, kind_letter, parts_of, seen_entry, set_of_lists, written_chains}
pub use Rattle.cadf_log.specs.ByKey.{conflict_at, conflict_list_of, conflicted_keys, log_list_of, settles, shown_entry, value_letters, values_except_ruled}
pub use Rattle.cadf_log.specs.Conflicts.{AreEntriesOf, IsEntryOf, IsShowableConflict, conflict_of, held_conflicts, ruled_text, value_of_conflict, value_of_ruling}
pub use Rattle.cadf_log.specs.Entries.{content_of, entries_of, entry_with_letter, event_of, longest_chain, parts_at, value_in}
pub use Rattle.cadf_log.specs.Order.{AreBodies, IsDated, dated_cmp, entries_in, names}
pub use Rattle.cadf_log.specs.Pieces.{RiseByName, properties_text}
pub use Rattle.cadf_log.specs.Put.{IsPut, Written}
pub use Rattle.cadf_log.specs.ReadBack.{IsBack, IsConflictTextOf, IsEntityBack, IsEntryBack, IsLogOf, IsLogTextOf, IsRulingBack, IsValueBack, ListContributes}
pub use Rattle.cadf_log.specs.Splice.{AreCanonical, AreEntriesCanonical, AreOwn, Completes, IsPart, IsWrittenBelow, entry_members, longest_put, merged, part_value, put_beyond, put_with}
pub use Rattle.cadf_log.specs.Texts.{line_of}
unfoldable pub use Rattle.cadf_log.specs.Texts.{conflict_text, conflicts_of, log_shown, log_text}
pub use Rattle.cadf_log.specs.Values.{attachment_value, chain_value, conflict_value, entry_value, event_members, event_value, items, list_value, log_members, log_uri, log_value, one_conflict, only_text, plain_value, put_chains, put_list, put_properties, put_ruled, ruling_value, tag_value}
pub use Rattle.cadf_log.specs.declared.gather.LogEntries.{LogEntries}
pub use Rattle.cadf_log.specs.declared.order.Dated.{Dated}
pub use Rattle.cadf_log.specs.declared.splice.OwnMembers.{OwnMembers}
pub use Rattle.cadf_log.specs.declared.splice.OwnMembers.TheVariants.{Entries, Spelled}
pub use Rattle.cadf_log.specs.declared.splice.PendingMembers.{PendingMembers}
pub use Rattle.cadf_pathset.proofs.Several.{text_in, texts_of}
pub use Rattle.cadf_pathset.specs.Sections.{sections_from, sections_of, suffixes_after}
pub use Rattle.cadf_scan.proofs.BodyInstants.{IsKept, body_instant_is, is_kept, object_from}
pub use Rattle.cadf_scan.proofs.CutMembers.{comma_off, cut_front, cut_rest, from_whole, joined_text}
pub use Rattle.cadf_scan.proofs.TextValues.{spelled, spelled_holds, text-value_of}
pub use Rattle.cadf_scan.specs.Instants.{body_instant, value_of}
pub use Rattle.cadf_scan.specs.Scan.{has_members, members_below, members_front, members_not_below, without_comma}
pub use Rattle.cadf_set.proofs.AfterPrefix.{behind_four, keys_are_heads, values_behind}
pub use Rattle.cadf_set.proofs.History.{contains_listed, listed_contains}
pub use Rattle.cadf_set.proofs.InLogOrConflicts.{apart, entry_from, strip_is, together}
pub use Rattle.cadf_set.proofs.RisingValues.{lower_first, same_first, sorted_filter_map, sorted_flat_map, sorted_map, value_order, values_rise}
pub use Rattle.cadf_set.proofs.RuledValues.{AreOf, alone_is_shown, sections_are_of, shown_exactly, shown_is_ruled}
pub use Rattle.cadf_set.proofs.ShownAgain.{shown_again, shown_once, value_listed}
pub use Rattle.cadf_set.proofs.ShownContent.{by_time_listed, conflict_content_is, contested_listed, listed_by_time, listed_contested, listed_key, log_content_is, place_listed}
pub use Rattle.cadf_set.proofs.ValueMembers.{listed_value}
pub use Rattle.cadf_set.specs.Ruled.{is_conflicted, is_ruled, ruled_value, shown_value}
pub use Rattle.cadf_terms.specs.Terms.{is_event_type, is_outcome}
pub use Rattle.cadf_time.proofs.TimeLaws.{one_pair}
pub use Rattle.cadf_time.specs.Time.{SpellsTime, stamp}
pub use Rattle.json.proofs.Printed.Numbers.{in_word-ended, lex-number}
pub use Rattle.json.proofs.Printed.Strings.{content-escape, lex-escape}
pub use Rattle.json.proofs.Printed.Trees.{ArePrintable-json_tokens}
pub use Rattle.json.specs.Lex.{Lexeme, between, colon, comma, fresh, punctuate, token, tokens}
unfoldable pub use Rattle.json.specs.Lex.{lex}
pub use Rattle.json.specs.Print.{IsPrintable, ends, escape, quoted, token_text}
unfoldable pub use Rattle.json.specs.Print.{ArePrintable, escape_byte, print_from}
pub use Rattle.json.specs.Token.{Token, bad, begin_array, begin_object, boolean, end_array, end_object, key, number}
pub use Rattle.json.specs.Tree.{json_tokens}
pub use Rattle.json.specs.Word.{ends_word}
unfoldable pub use Rattle.json.specs.Word.{word}
pub use Rattle.serde_json.proofs.Texts.{print-outline}
pub use Rattle.serde_json.proofs.Views.{get_member-put, get_member-put_other}
pub use Rattle.serde_json.specs.Data.{Data, Items, Members, array, depth, items_depth, member, members_depth, no_members, null, object, put, string}
pub use Rattle.serde_json.specs.Find.{as_array, get, get_member}
pub use Rattle.serde_json.specs.Written.{comma_if, compact_text, items_text, members_text, outline}
pub use Rattle.std.proofs.Common.{Bool, Contains, Equal, Err, Greater, Less, List, None, Ok, OnErr, OnOk, Option, Ordering, Result, Some, [], add-one, ap, append-nil, append_assoc, ap₂, arith, codes, cond, drop, drop-cons, drop_of_length-le, false, get_or, inl, inr, is_eq, is_lt, is_some, le-leb, leb-true, length, map, nat_cmp, nat_le, nat_lt, option_and_then, refl, rules, string_bytes, subst, suc, sym, take, true, true≢false, zero, ℕ, ℤ, ◌&&◌, ◌++◌, ◌+◌, ◌<◌, ◌||◌, ◌∙◌, ◌∷◌, ◌≡◌, ◌≤◌}
pub use Rattle.std.proofs.KnownBytes.{Appends-nil, Appends-trans}
pub use Rattle.std.proofs.lemmas.Bool.{lt-leb}
pub use Rattle.std.proofs.lemmas.Bool.Decides.{nat_tests}
pub use Rattle.std.proofs.lemmas.Cmp.{int_cmp_total, nat_list_cmp_total, then_total}
pub use Rattle.std.proofs.lemmas.Grind.{common_steps}
pub use Rattle.std.proofs.lemmas.List.{drop_more, get_or-map, length-append, length-map, map-append, take-append-drop, take_at, take_rest}
pub use Rattle.std.proofs.lemmas.List.Elements.{recursion_from_All}
pub use Rattle.std.proofs.lemmas.List.Kept.{IsStrictlySortedBy-filter}
pub use Rattle.std.proofs.lemmas.List.Sorted.{Contains-permutation, IsPermutation-cons, IsPermutation-refl, IsPermutation-swap, IsPermutation-sym, IsPermutation-trans, answers_always, ranks_by, sorted_far}
pub use Rattle.std.proofs.lemmas.Map.Keys.{IsDistinct-IsPermutation}
pub use Rattle.std.proofs.lemmas.Map.Text.{is_eq-slice_cmp}
pub use Rattle.std.proofs.lemmas.Result.{IfOk-weaker}
pub use Rattle.std.proofs.lemmas.Simd.{map-map}
pub use Rattle.std.proofs.lemmas.Slice.Eq.{bytes_eq-Decides}
pub use Rattle.std.proofs.lemmas.Str.{IsUtf8-append, IsUtf8-from_ascii, IsUtf8-from_is_utf8}
pub use Rattle.std.proofs.lemmas.Str.Ascii.{IsAscii-nil}
pub use Rattle.std.specs.Borrow.{Bor}
pub use Rattle.std.specs.Cmp.{IsTotalOrder, tied_itself}
pub use Rattle.std.specs.Cmp.Lexicographic.{bytes_decides, pointwise, slice_cmp}
pub use Rattle.std.specs.Io.KnownBytes.{Appends}
pub use Rattle.std.specs.List.{AllByRecursion, AllPairs, cons_option, filter, filter_map, find, flat_map, list_all}
unfoldable pub use Rattle.std.specs.List.{IsDistinct}
pub use Rattle.std.specs.List.Sorted.{IsPermutation, IsSorted}
unfoldable pub use Rattle.std.specs.List.Sorted.{IsStrictlySortedBy}
pub use Rattle.std.specs.Option.{option_copied, option_map}
pub use Rattle.std.specs.Ordering.{eq_by_cmp, int_cmp, is_le, match_ordering, ordering_reverse, ordering_then}
pub use Rattle.std.specs.Prelude.{IfOk, IsUtf8, is_err, not, ◌↔◌}
pub use Rattle.std.specs.Str.{IsAscii, bytes_eq, is_utf8}
