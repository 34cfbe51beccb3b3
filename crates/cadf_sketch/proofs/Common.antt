-- What the proofs of this crate take from outside. Written by tests/proofs/imports.py.
pub use Rattle.cadf_event.proofs.LogNameLemmas.{both_unbroken, unbroken_quoted}
pub use Rattle.cadf_event.specs.Known.{IsNameText}
pub use Rattle.cadf_event.specs.LogName.{is_name_text, is_unbroken}
pub use Rattle.cadf_inventory.proofs.DigestLines.{append_fits, digest-again, digest-only, high_fits, plain_digest, sha_digest, spelled-again, spelled-only, unbroken_digest_of}
pub use Rattle.cadf_inventory.proofs.InventoryVerdictLemmas.{each_digest, inventory-file-tells, inventory_is}
pub use Rattle.cadf_inventory.proofs.RisingLists.{digests_push}
pub use Rattle.cadf_inventory.specs.InventoryFile.{DoNotCollide, IsInventory, inventory_body, inventory_file, inventory_text}
unfoldable pub use Rattle.cadf_inventory.specs.InventoryFile.{inventory_digest}
pub use Rattle.cadf_inventory.specs.InventoryVerdict.{digest_of, if_spelled}
pub use Rattle.cadf_join.specs.Contents.{IsWithin, Text, text_cmp}
pub use Rattle.cadf_join.specs.Sets.{Listed, rising, sorted_keys}
pub use Rattle.cadf_join.specs.laws.Contents.{text_same, text_total}
pub use Rattle.cadf_join.specs.laws.Maps.{same_text}
pub use Rattle.cadf_join.specs.laws.Rising.{AllByRecursion-listed, any_listed, from_list-rising, listed-rising, listed_any, listed_sorted, rising-listed, rising_is_sorted, sorted_keys_are_sorted, sorted_listed, sorted_once}
pub use Rattle.cadf_join.specs.laws.Sets.{and_second, bool_cases, false_from, or_cases}
pub use Rattle.cadf_line.proofs.Missing.{missing_by_is}
pub use Rattle.cadf_line.specs.Digest.{IsDigest, atom_digest}
pub use Rattle.cadf_line.specs.Missing.{Digests, missing_by}
pub use Rattle.cadf_linefile.proofs.BodyLines.{AreAfter}
pub use Rattle.cadf_linefile.proofs.LinesLemmas.{and_true, are_unbroken, both}
pub use Rattle.cadf_linefile.proofs.MarkedLines.{begins_with, chosen, prefixed, shape_none, there}
pub use Rattle.cadf_linefile.proofs.ModelLemmas.{Ends, Follows, IsModelKind, Plain, accepts-models, lines_of, models-tell, name_is}
pub use Rattle.cadf_linefile.proofs.NumberLemmas.{after_is, cut_cases, decimal_unblank, first_is, number-again, number-only, number_of_none}
pub use Rattle.cadf_linefile.proofs.UnbrokenLines.{decimal_unbroken, unbroken_digest}
pub use Rattle.cadf_linefile.proofs.VerdictLemmas.{good_log}
pub use Rattle.cadf_linefile.proofs.WritingLemmas.{on_ok}
pub use Rattle.cadf_linefile.specs.Answers.{CauseIs}
pub use Rattle.cadf_linefile.specs.LineGrammar.{shape_unless}
pub use Rattle.cadf_linefile.specs.Lines.{text_of_lines, with_line_feed}
pub use Rattle.cadf_linefile.specs.ModelKind.{AcceptsModels}
pub use Rattle.cadf_linefile.specs.Numbers.{first_word, number_in, words_after}
pub use Rattle.cadf_linefile.specs.Verdict.{begins_digest, digest_line, log_line, with_digest_line}
pub use Rattle.cadf_set.proofs.DigestSets.{AreDigests-listed}
pub use Rattle.cadf_set.specs.Inventory.{AreDigests, InventoryModel}
pub use Rattle.cadf_sketch.specs.Cells.{cell_at, each_xor, is_lone, mixed, mixed_all, mixed_at, nothing, stands, toggled_all}
unfoldable pub use Rattle.cadf_sketch.specs.Cells.{check, place_in, toggled, word}
pub use Rattle.cadf_sketch.specs.Enough.{IsEnough}
pub use Rattle.cadf_sketch.specs.Flips.{apart}
unfoldable pub use Rattle.cadf_sketch.specs.Flips.{flipped}
pub use Rattle.cadf_sketch.specs.Layouts.{IsLayout, LayoutModel, are_cells, is_salt, layout_of, layout_with}
pub use Rattle.cadf_sketch.specs.Peeling.{ArePlaces, Awaits, HasNoLone, Peels, more, none, three_places}
pub use Rattle.cadf_sketch.specs.Refusals.{HasTooFewCells, differing}
pub use Rattle.cadf_sketch.specs.SketchFile.{AreWords64, HasParts, IsCell, IsHead, IsSketch, IsTally, SketchFileIsInjective, cell_line, cell_lines, counts_line, head_line, head_of, sketch_body, sketch_header, spelled}
pub use Rattle.cadf_sketch.specs.SketchLines.{AreCellsOf, AreTold, IsCellPut, told_lines}
pub use Rattle.cadf_sketch.specs.SketchVerdict.{cause_after, cause_of_cell, cell_of_bytes, cells_of_head, head_in, headed, is_whole, laid_out, numbers_in, put_before, sketch_kind, sketch_model_in, sketch_of_parts, tally_in, tally_in_numbers}
unfoldable pub use Rattle.cadf_sketch.specs.SketchVerdict.{cell_in, counts_in_words, head_in_words}
pub use Rattle.cadf_sketch.specs.Sketches.{SketchModel, asked}
unfoldable pub use Rattle.cadf_sketch.specs.Sketches.{cells_of, sketch_of}
pub use Rattle.cadf_sketch.specs.Tallies.{cells_to_ask, has_bit, squares, tallied_all, with_bits}
unfoldable pub use Rattle.cadf_sketch.specs.Tallies.{tallied, tally_of}
pub use Rattle.cadf_sketch.specs.declared.cell.Cell.{Cell}
pub use Rattle.cadf_sketch.specs.declared.layout.Head.{Head}
pub use Rattle.cadf_sketch.specs.declared.tally.Tally.{Tally}
pub use Rattle.hex.proofs.HexLemmas.{length-encode_with}
pub use Rattle.hex.specs.Hex.{decode_sized, encode_lower, lower_digits}
pub use Rattle.sha2.specs.Sha256.{sha256}
pub use Rattle.std.proofs.Common.{Bool, IfSome, List, None, Option, Some, [], add_assoc, ap, append-nil, arith, below_more, codes, cond, drop, false, get_or, inl, inr, length, length-drop, map, refl, replicate, rules, set, slice_index_or, slice_range, slice_set, subst, suc, sym, take, true, vec_len, zero, zero-add, ℕ, ◌%◌, ◌*◌, ◌++◌, ◌+◌, ◌-◌, ◌/◌, ◌<◌, ◌^◌, ◌∙◌, ◌∷◌, ◌≡◌, ◌≤◌, ◌⊎◌}
pub use Rattle.std.proofs.Math.Nat.{mod-add-mod}
pub use Rattle.std.proofs.Math.Seq.{drop-append_seam, take-append_seam}
pub use Rattle.std.proofs.lemmas.Bool.{eqb-true, lt-ltb}
pub use Rattle.std.proofs.lemmas.Bool.Decides.{nat_tests}
pub use Rattle.std.proofs.lemmas.Grind.{common_steps}
pub use Rattle.std.proofs.lemmas.List.{ext_get_or, get_or-map, get_or-replicate, get_or-set_other, get_or-set_same, length-append, length-map, length-replicate, length-set, length-take-le, take-append-drop, take_all, take_more_set, with_items_is}
pub use Rattle.std.proofs.lemmas.List.Folds.{list_any-append}
pub use Rattle.std.proofs.lemmas.List.Recursion.{is_count_by}
pub use Rattle.std.proofs.lemmas.Nat.{be_bytes_8, from_be_bytes-to_be_bytes_8, mod_below, xor_comm, xor_lt, xor_of_8}
pub use Rattle.std.proofs.lemmas.Slice.Eq.{bytes_eq-Decides}
pub use Rattle.std.specs.BTreeSet.{insert_key}
pub use Rattle.std.specs.Cmp.{tied_itself}
pub use Rattle.std.specs.FinSet.{contains-remove, remove}
pub use Rattle.std.specs.Int.{from_be_bytes, to_be_bytes, w64}
pub use Rattle.std.specs.List.{AllByRecursion, filter, filter_map, list_any, starts_with}
unfoldable pub use Rattle.std.specs.List.Sorted.{IsStrictlySortedBy}
pub use Rattle.std.specs.Ordering.{eq_by_cmp, is_eq, match_ordering}
pub use Rattle.std.specs.Prelude.{IfErr, bit_xor, count_by, decimal, flat_map, is_some, nat_eq, not, option_map, slice_index, ◌&&◌, ◌||◌}
pub use Rattle.std.specs.Simd.Lanes.{zip2}
pub use Rattle.std.specs.declared.cmp.Ordering.{Ordering}
pub use Rattle.std.specs.declared.cmp.Ordering.TheVariants.{Equal, Greater, Less}
pub use lib.Bits.{xor_assoc, xor_self, xor_zero_r}
pub use mathlib.Core.Bool.{true≢false}
