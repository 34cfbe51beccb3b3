-- What the proofs of this crate take from outside. Written by tests/proofs/imports.py.
pub use Rattle.cadf_atom.proofs.RuleLaws.{body_rule}
pub use Rattle.cadf_atom.specs.Atom.{atom_rules}
pub use Rattle.cadf_atom.specs.AtomSets.{IsReplicaSet}
pub use Rattle.cadf_atom.specs.Contributions.{union_all}
pub use Rattle.cadf_atom.specs.Shown.{values}
pub use Rattle.cadf_event.specs.Known.{IsBodyText}
pub use Rattle.cadf_file.proofs.FileTwoLemmas.{no_empty}
pub use Rattle.cadf_file.proofs.WalkLemmas.{nodes_are_walked}
pub use Rattle.cadf_file.specs.BodyAt.{body_at}
pub use Rattle.cadf_file.specs.FileTwo.{body_two, header_two}
pub use Rattle.cadf_file.specs.NodeLines.{node_line}
pub use Rattle.cadf_file.specs.Walked.{nodes_of_walk}
pub use Rattle.cadf_join.specs.Contents.{Contents, Has, IsWithin, Text, Texts, text_cmp}
pub use Rattle.cadf_join.specs.Prefixes.{texts_at}
pub use Rattle.cadf_join.specs.Sets.{Listed, rising}
pub use Rattle.cadf_join.specs.laws.Contents.{text_same, text_total, texts_same, texts_total}
pub use Rattle.cadf_join.specs.laws.Maps.{eq_itself, same_text}
pub use Rattle.cadf_join.specs.laws.Rising.{AllByRecursion-listed, listed-AllByRecursion, listed-rising, rising-listed, rising_is_sorted, sorted_once}
pub use Rattle.cadf_join.specs.laws.Sets.{bool_cases, false_from}
pub use Rattle.cadf_json.specs.Streams.{AppendsPrefix}
pub use Rattle.cadf_line.proofs.Lists.{Some-same}
pub use Rattle.cadf_line.proofs.Missing.{has_carrier, listed_map, map_listed, missing_by_is, missing_within, of_carriers, with_carriers_least, with_carriers_over}
pub use Rattle.cadf_line.specs.Atoms.{IsAtom, IsGrounded, attachment, carrier, chain, event, event_letter, is_text, tag}
pub use Rattle.cadf_line.specs.Missing.{Digests, NoCollision, digests_of, missing, missing_by, unknown, with_carriers}
pub use Rattle.cadf_linefile.specs.Lines.{text_of_lines, with_line_feed}
pub use Rattle.cadf_linefile.specs.Verdict.{digest_line, log_line, with_digest_line}
pub use Rattle.cadf_linefile.specs.laws.Prefixes.{front_after, front_more, none_written}
pub use Rattle.cadf_pathset.proofs.Orders.{then_more}
pub use Rattle.cadf_pathset.specs.Lists.{at_places}
pub use Rattle.cadf_scan.proofs.BodyInstants.{timed}
pub use Rattle.cadf_scan.specs.Instants.{body_instant}
pub use Rattle.cadf_set.proofs.RisingValues.{values_rise}
pub use Rattle.cadf_set.proofs.ShownAgain.{in_order_retain, value_listed}
pub use Rattle.cadf_set.proofs.ValueMembers.{listed_value}
pub use Rattle.cadf_set.specs.Replica.{ReplicaModel}
pub use Rattle.cadf_set.specs.Ruled.{is_conflicted}
pub use Rattle.cadf_split.specs.Parts.{IsInTwoParts, IsOfCarrier, keys_by, part_by, parts_by}
pub use Rattle.cadf_split.specs.Places.{IsHeld, places_from, places_of_key}
pub use Rattle.cadf_split.specs.Split.{noted_lines, part_line, part_lines, replica_of_part, split_head, split_text}
pub use Rattle.cadf_split.specs.Windows.{IsShownDay, day_number, hour_of, key, month_text, name, numbers, part, part_keys, shared_key, window_name}
unfoldable pub use Rattle.cadf_split.specs.Windows.{window}
pub use Rattle.cadf_split.specs.declared.unit.Unit.{Unit}
pub use Rattle.cadf_split.specs.declared.unit.Unit.TheVariants.{Day, Hour, Month}
pub use Rattle.cadf_time.proofs.TimeLaws.{billionths_bound, day_in_month_is, month_of_is, offset_small, year_of_is}
pub use Rattle.cadf_time.specs.Time.{SpellsTime, clock_nanos, day_in_month, month_of, nanos_of_day, nanos_of_minute, offset_of, two_digits, year_of}
unfoldable pub use Rattle.cadf_time.specs.Time.{last_passing, local_nanos}
pub use Rattle.hex.specs.Hex.{encode_lower}
pub use Rattle.jiff_core.proofs.CalendarLemmas.{day_count-lt_year, days_from_civil-day_count}
pub use Rattle.jiff_core.proofs.DateLemmas.{civil}
pub use Rattle.jiff_core.proofs.MarchLemmas.{day_count-early}
pub use Rattle.jiff_core.proofs.SignedLemmas.{back_small, signed_arith}
pub use Rattle.jiff_core.specs.Calendar.{IsCivilDate, day_count, days_from_civil}
pub use Rattle.sha2.specs.Hashers.{Holds256}
pub use Rattle.sha2.specs.Sha256.{sha256}
pub use Rattle.sha2.specs.declared.Sha256.{Sha256}
pub use Rattle.std.proofs.Common.{Bool, Bor, List, Option, [], ap, append-nil, append_assoc, arith, cond, drop, false, get_or, inl, inr, int_lt, le-leb, length, map, neg_ℤ, not, of_z, pos, refl, rules, subst, suc, sym, take, to_z, true, true≢false, unsigned_abs, zero, ℕ, ℤ, ◌%◌, ◌*ℤ◌, ◌++◌, ◌+ℤ◌, ◌+◌, ◌-ℤ◌, ◌/◌, ◌<◌, ◌^◌, ◌∙◌, ◌∷◌, ◌≡◌, ◌≤ℤ◌, ◌≤◌, ◌⊎◌}
pub use Rattle.std.proofs.KnownBytes.{Appends-nil, Appends-trans}
pub use Rattle.std.proofs.lemmas.Cmp.{nat_list_cmp_total}
pub use Rattle.std.proofs.lemmas.Grind.{common_steps, flat_map-append}
pub use Rattle.std.proofs.lemmas.Int.{by_lt_z, ints, to_z-of_z}
pub use Rattle.std.specs.BTreeMap.{get}
pub use Rattle.std.specs.Cmp.{tied_itself}
pub use Rattle.std.specs.Cmp.Lexicographic.{bytes_decides}
pub use Rattle.std.specs.Int.Signed.{◌<ℤ◌}
pub use Rattle.std.specs.Io.KnownBytes.{Appends}
pub use Rattle.std.specs.List.{All, filter, filter_map, flat_map}
unfoldable pub use Rattle.std.specs.List.Sorted.{IsStrictlySortedBy}
pub use Rattle.std.specs.Map.{keys_of, lookup}
pub use Rattle.std.specs.Option.{unwrap_or}
pub use Rattle.std.specs.Ordering.{eq_by_cmp, is_eq, is_gt, nat_cmp, ordering_reverse, ordering_then}
pub use Rattle.std.specs.Prelude.{None, Some, codes, is_some, nat_le, slice_get, ⊤, ◌≢◌}
pub use Rattle.std.specs.declared.cmp.Ordering.{Ordering}
pub use Rattle.std.specs.declared.cmp.Ordering.TheVariants.{Equal, Less}
pub use Rattle.std.specs.declared.vec.Vec.{Vec}
