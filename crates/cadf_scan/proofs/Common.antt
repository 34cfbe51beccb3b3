-- What the proofs of this crate take from outside. Written by tests/proofs/imports.py.
pub use Rattle.cadf_atom.proofs.ValueLaws.{moment_to}
pub use Rattle.cadf_atom.specs.Shown.{behind}
pub use Rattle.cadf_atom.specs.ValueTests.{moment_of}
pub use Rattle.cadf_event.proofs.CanonicalFacts.{eight}
pub use Rattle.cadf_event.specs.Canonical.{IsBodyAt, IsTextOf, keeps_body}
pub use Rattle.cadf_event.specs.Event.{has_action, has_event_type, has_initiator, has_observer, has_outcome, has_target, is_shallow}
pub use Rattle.cadf_event.specs.Known.{IsBodyText}
pub use Rattle.cadf_join.proofs.Members.{and_both, and_first, and_second}
pub use Rattle.cadf_join.specs.Contents.{Text}
pub use Rattle.cadf_json.proofs.Texts.{read-text}
pub use Rattle.cadf_json.specs.Parts.{is_object, joined, members_in}
pub use Rattle.cadf_json.specs.Value.{IsValue, IsWhole, IsWholeNumber, ItemsAreWhole, MembersAreWhole, Rises, RisesFrom, text}
pub use Rattle.cadf_scan.specs.Instants.{instant_or_zero}
unfoldable pub use Rattle.cadf_scan.specs.Instants.{body_instant, value_of}
pub use Rattle.cadf_scan.specs.Scan.{first_byte, has_members, is_name_below, is_plain_byte, is_plain_name, is_spelled_below, length_below, members_below, members_front, members_not_below, skip, without_comma}
pub use Rattle.cadf_time.proofs.TimeLaws.{one_pair}
pub use Rattle.cadf_time.proofs.TimeReading.{none_is, some_is}
pub use Rattle.cadf_time.specs.Time.{Fits, SpellsTime, Written, ZoneFits, four_digits, fraction_text, spelling, two_digits, zone_text}
pub use Rattle.cadf_time.specs.declared.time.Zone.{Zone}
pub use Rattle.json.proofs.Printed.Strings.{escape_byte_plain}
pub use Rattle.json.specs.Print.{escape, quoted}
unfoldable pub use Rattle.json.specs.Print.{escape_byte}
pub use Rattle.json.specs.Run.{is_plain}
pub use Rattle.serde_json.specs.Data.{Data, Items, Members, Num, array, boolean, item, member, negative, no_items, no_members, null, number, object, string, unsigned}
pub use Rattle.serde_json.specs.Find.{as_str, get, get_member}
pub use Rattle.serde_json.specs.Written.{comma_if, compact_text, items_text, members_text, number_text}
pub use Rattle.std.proofs.Common.{Bool, Bor, Equal, FitsSigned, Greater, Less, List, None, Option, Ordering, Some, [], ap, append_assoc, arith, codes, cond, decimal, drop, false, get_or, inl, inr, le-leb, leb-true, length, length-drop, nat_cmp, nat_le, nat_lt, negsuc, of_z, option_and_then, refl, rules, subst, suc, sym, take, to_z, true, unwrap_or, zero, ℕ, ℤ, ◌%◌, ◌&&◌, ◌++◌, ◌+◌, ◌-◌, ◌/◌, ◌<◌, ◌==◌, ◌||◌, ◌∙◌, ◌∷◌, ◌≡◌, ◌≤◌}
pub use Rattle.std.proofs.lemmas.Bool.{and_parts, cases_eq, cases_lt, ne_eqb}
pub use Rattle.std.proofs.lemmas.Bool.Decides.{Decides-eqb, nat_tests}
pub use Rattle.std.proofs.lemmas.Cmp.{nat_list_cmp_total}
pub use Rattle.std.proofs.lemmas.Fmt.{decimal_is_IsNumeral}
pub use Rattle.std.proofs.lemmas.Grind.{common_steps}
pub use Rattle.std.proofs.lemmas.Int.{to_z-of_z}
pub use Rattle.std.proofs.lemmas.List.{append_cancel_right, at_drop_more, drop-drop, drop_at, length-append, take_at, take_rest}
pub use Rattle.std.proofs.lemmas.List.Folds.{list_all-append}
pub use Rattle.std.proofs.lemmas.Map.Text.{is_eq-slice_cmp}
pub use Rattle.std.proofs.lemmas.Slice.Eq.{bytes_eq-Decides, strip_prefix_is, strip_suffix_is}
pub use Rattle.std.specs.Char.{is_ascii_digit}
pub use Rattle.std.specs.Cmp.{nat_cmp_is}
pub use Rattle.std.specs.Cmp.Lexicographic.{slice_cmp}
pub use Rattle.std.specs.Int.{w128}
pub use Rattle.std.specs.List.{list_all, prefix_len}
pub use Rattle.std.specs.Ordering.{is_eq, is_gt, match_ordering, ordering_then}
pub use Rattle.std.specs.Prelude.{IsUtf8, MatchOption, if◌then◌else◌, not, option_map, ◌≢◌}
pub use Rattle.std.specs.Str.Parse.{AllDigits}
