-- What the proofs of this crate take from outside. Written by tests/proofs/imports.py.
pub use Rattle.cadf_event.proofs.LogNameLemmas.{unbroken_quoted}
pub use Rattle.cadf_event.specs.Known.{IsNameText}
pub use Rattle.cadf_event.specs.LogName.{is_name_text, is_unbroken}
pub use Rattle.cadf_inventory.specs.InventoryFile.{InventoryFileIsInjective, IsInventory, inventory_body, inventory_header, inventory_text}
unfoldable pub use Rattle.cadf_inventory.specs.InventoryFile.{inventory_digest}
pub use Rattle.cadf_inventory.specs.InventoryVerdict.{AcceptsInventories, cause_of_digest, digest_of, digests_in, if_spelled, inventory_grammar, inventory_kind, inventory_model_in, is_above_digest, is_above_last_digest}
unfoldable pub use Rattle.cadf_inventory.specs.InventoryVerdict.{inventory_cause}
pub use Rattle.cadf_join.specs.Contents.{Text, text_cmp}
pub use Rattle.cadf_join.specs.Sets.{Listed, from_list_push, rising}
pub use Rattle.cadf_join.specs.laws.Contents.{text_same, text_total}
pub use Rattle.cadf_join.specs.laws.Rising.{AllByRecursion-listed, from_list-rising, listed-AllByRecursion, listed-rising, rising-from_list, rising-listed, rising_is_sorted}
pub use Rattle.cadf_json.specs.Streams.{AppendsPrefix}
pub use Rattle.cadf_line.specs.Digest.{IsDigest}
pub use Rattle.cadf_line.specs.Missing.{Digests}
pub use Rattle.cadf_linefile.proofs.BodyLines.{AreAfter}
pub use Rattle.cadf_linefile.proofs.LinesLemmas.{and_true, are_unbroken}
pub use Rattle.cadf_linefile.proofs.ModelLemmas.{Ends, Follows, IsModelKind, Plain, accepts-models, answered, lines_of, models-tell, name_is, reads}
pub use Rattle.cadf_linefile.proofs.UnbrokenLines.{unbroken_digest, unbroken_hex}
pub use Rattle.cadf_linefile.proofs.VerdictLemmas.{good_log}
pub use Rattle.cadf_linefile.proofs.WritingLemmas.{Completes, completes_more, front_of_line, on_err, on_ok}
pub use Rattle.cadf_linefile.specs.Lines.{text_of_lines, with_line_feed}
pub use Rattle.cadf_linefile.specs.Verdict.{at_line, begins_digest, body_fault, digest_line, first_of, log_in_line, log_line, with_digest_line}
pub use Rattle.cadf_linefile.specs.declared.fault.Cause.TheVariants.{Order, Shape}
pub use Rattle.cadf_linefile.specs.declared.fault.FileFault.TheVariants.{Line}
pub use Rattle.cadf_set.proofs.DigestSets.{AreDigests-empty, AreDigests-insert}
pub use Rattle.cadf_set.specs.Inventory.{AreDigests, InventoryModel}
pub use Rattle.hex.proofs.HexLemmas.{decode_of-ok, decode_sized-encode_lower, decode_sized-ok, decode_sized-twice}
pub use Rattle.hex.specs.Hex.{decode_sized, encode_lower, lower_digits}
unfoldable pub use Rattle.hex.specs.Hex.{encode_with}
pub use Rattle.hex.specs.declared.error.FromHexError.{FromHexError}
pub use Rattle.sha2.proofs.Facts256.{length-sha256}
pub use Rattle.sha2.specs.Hashers.{Holds256}
pub use Rattle.sha2.specs.Sha256.{final_hash, initial_hash_256}
unfoldable pub use Rattle.sha2.specs.Sha256.{digest_bytes, sha256}
pub use Rattle.sha2.specs.declared.Sha256.{Sha256}
pub use Rattle.std.proofs.Common.{Bool, Err, List, None, Ok, Option, Result, Some, [], ap, append-nil, append_assoc, arith, cond, false, length, map, refl, subst, suc, sym, true, true≢false, zero, ℕ, ◌++◌, ◌+◌, ◌/◌, ◌<◌, ◌∙◌, ◌∷◌, ◌≡◌}
pub use Rattle.std.proofs.lemmas.Grind.{common_steps, flat_map-append}
pub use Rattle.std.proofs.lemmas.Result.{err_from_is_err_and}
pub use Rattle.std.proofs.lemmas.Slice.Eq.{bytes_eq-Decides}
pub use Rattle.std.specs.Int.{byte_at, bytes_high_first}
pub use Rattle.std.specs.Io.KnownBytes.{Appends}
pub use Rattle.std.specs.List.{AllByRecursion, last_or, list_any}
unfoldable pub use Rattle.std.specs.List.Sorted.{IsStrictlySortedBy}
pub use Rattle.std.specs.Ordering.{is_lt}
pub use Rattle.std.specs.Prelude.{nat_eq, slice_index, unwrap_or, ◌&&◌, ◌||◌}
pub use Rattle.std.specs.Str.{bytes_eq}
pub use Rattle.std.specs.declared.cmp.Ordering.{Ordering}
pub use Rattle.std.specs.declared.cmp.Ordering.TheVariants.{Equal, Greater, Less}
