-- What the proofs of this crate take from outside. Written by tests/proofs/imports.py.
pub use Rattle.cadf_event.proofs.KnownParts.{all_append}
pub use Rattle.cadf_event.proofs.LogNameLemmas.{unbroken_quoted}
pub use Rattle.cadf_event.specs.Known.{IsNameText}
pub use Rattle.cadf_event.specs.LogName.{is_name_text, is_unbroken}
pub use Rattle.cadf_inventory.proofs.DigestLines.{digest-again, digest-only, unbroken_digest_of}
pub use Rattle.cadf_inventory.proofs.InventoryVerdictLemmas.{each_digest}
pub use Rattle.cadf_inventory.proofs.RisingLists.{AreRising, digests_push, last_below, rising_again, rising_none, rising_push, rising_set, set_again}
pub use Rattle.cadf_inventory.specs.InventoryVerdict.{cause_of_digest, digest_of, is_above_digest, is_above_last_digest}
pub use Rattle.cadf_join.proofs.Outcome.{on_ok_then}
pub use Rattle.cadf_join.specs.Contents.{Text, text_cmp}
pub use Rattle.cadf_join.specs.Sets.{Listed, rising}
pub use Rattle.cadf_join.specs.laws.Contents.{text_same, text_total}
pub use Rattle.cadf_join.specs.laws.Rising.{AllByRecursion-listed, listed-AllByRecursion, listed-rising, rising-listed}
pub use Rattle.cadf_line.specs.Digest.{IsDigest}
pub use Rattle.cadf_line.specs.Missing.{Digests}
pub use Rattle.cadf_linefile.proofs.BodyLines.{AreAfter}
pub use Rattle.cadf_linefile.proofs.LinesLemmas.{and_true, are_unbroken}
pub use Rattle.cadf_linefile.proofs.MarkedLines.{chosen}
pub use Rattle.cadf_linefile.proofs.ModelLemmas.{Ends, Follows, IsModelKind, Plain, accepts-models, lines_of, models-tell, name_is}
pub use Rattle.cadf_linefile.proofs.UnbrokenLines.{unbroken_digest}
pub use Rattle.cadf_linefile.proofs.VerdictLemmas.{good_log}
pub use Rattle.cadf_linefile.specs.Answers.{CauseIs}
pub use Rattle.cadf_linefile.specs.Verdict.{begins_digest, digest_line, log_in_line, log_line, with_digest_line}
pub use Rattle.cadf_linefile.specs.declared.fault.Cause.TheVariants.{Order, Shape}
pub use Rattle.cadf_listed.specs.ListFile.{AreNames, AreRisingDigests, AreRisingNames, IsListed, IsName, ListFileIsInjective, ListedModel, Names, digest_with, digests_with, fact_name, facts_of, is_mark, key_name, keys_of, list_body, list_over, mark_letter, name, name_line}
pub use Rattle.cadf_listed.specs.ListVerdict.{AcceptsLists, IsPut, list_kind, list_model_in, name_in, names_in}
pub use Rattle.cadf_set.specs.Inventory.{AreDigests, InventoryModel}
pub use Rattle.hex.specs.Hex.{encode_lower}
pub use Rattle.std.proofs.Common.{Bool, List, None, Option, Some, [], ap, append-nil, append_assoc, arith, cond, drop, false, length, map, refl, subst, suc, sym, take, true, zero, ℕ, ◌++◌, ◌+◌, ◌-◌, ◌<◌, ◌∙◌, ◌∷◌, ◌≡◌}
pub use Rattle.std.proofs.lemmas.Bool.{eq-eqb, eqb-true, ltb-false, ltb-true}
pub use Rattle.std.proofs.lemmas.Grind.{common_steps}
pub use Rattle.std.proofs.lemmas.List.{get_or-map, take_all}
pub use Rattle.std.proofs.lemmas.List.Sorted.{searchable_from_sorted}
pub use Rattle.std.proofs.lemmas.Map.Keys.{Less-from_sorted}
pub use Rattle.std.specs.Cmp.{nat_cmp_is}
pub use Rattle.std.specs.List.{AllByRecursion, AllWithin, HoldsAt, last_or, list_any, slice_get}
pub use Rattle.std.specs.List.Sorted.{IsNonDecreasingBy, IsPartitionPoint}
pub use Rattle.std.specs.Ordering.{eq_by_cmp, is_eq, is_lt, ordering_index, ordering_reverse, ordering_then}
pub use Rattle.std.specs.Prelude.{IfErr, if◌then◌else◌, nat_eq, nat_lt, option_map, slice_index, slice_index_or, unwrap_or, ◌&&◌, ◌||◌}
pub use Rattle.std.specs.declared.cmp.Ordering.{Ordering}
pub use Rattle.std.specs.declared.cmp.Ordering.TheVariants.{Equal, Greater, Less}
pub use mathlib.Core.Bool.{true≢false}
