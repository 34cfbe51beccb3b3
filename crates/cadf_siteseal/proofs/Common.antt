-- What the proofs of this crate take from outside. Written by tests/proofs/imports.py.
pub use Rattle.cadf_event.proofs.LogNameLemmas.{both_unbroken, unbroken_quoted}
pub use Rattle.cadf_event.specs.Known.{IsNameText}
pub use Rattle.cadf_event.specs.LogName.{is_name_text, is_unbroken}
pub use Rattle.cadf_evidence.specs.Growth.{grown, is_listed}
pub use Rattle.cadf_evidence.specs.ProofFile.{AreParts, HasProofParts, IsPart, IsProof, ProofModel, keys_line, node_line, part_line, proof_body, proof_header}
pub use Rattle.cadf_evidence.specs.ProofLines.{told_lines}
pub use Rattle.cadf_evidence.specs.SealFile.{IsSeal, SealModel, digest_line, number_line, seal_body, seal_header, seal_lines, seal_of}
pub use Rattle.cadf_evidence.specs.Soundness.{EqualSealsAreOfOneSet, GrowthIsSo, NothingGoesUnlisted, StayOrAreListed}
pub use Rattle.cadf_evidence.specs.declared.growth.GrowthFault.{GrowthFault}
pub use Rattle.cadf_evidence.specs.declared.growth.SealedSet.{SealedSet}
pub use Rattle.cadf_evidence.specs.declared.growth.SealedSet.TheVariants.{Facts, Keys as SealedKeys}
pub use Rattle.cadf_inventory.proofs.DigestLines.{digest-again, digest-only, unbroken_digest_of}
pub use Rattle.cadf_inventory.proofs.RisingLists.{rising_none}
pub use Rattle.cadf_inventory.specs.InventoryVerdict.{digest_of}
pub use Rattle.cadf_join.proofs.Outcome.{on_ok_then}
pub use Rattle.cadf_join.specs.Contents.{Text}
pub use Rattle.cadf_key.specs.Keys.{keys_of}
pub use Rattle.cadf_line.specs.Atoms.{is_text}
pub use Rattle.cadf_line.specs.Digest.{IsDigest, atom_digest}
pub use Rattle.cadf_line.specs.Missing.{Digests, digests_of}
pub use Rattle.cadf_linefile.proofs.BodyLines.{AreAfter, map_more}
pub use Rattle.cadf_linefile.proofs.LinesLemmas.{and_true, are_unbroken, both}
pub use Rattle.cadf_linefile.proofs.MarkedLines.{chosen, shape_none, there}
pub use Rattle.cadf_linefile.proofs.ModelLemmas.{Ends, Follows, IsModelKind, Plain, accepts-models, lines_of, models-tell, name_is}
pub use Rattle.cadf_linefile.proofs.NumberLemmas.{after_is, cut_cases, decimal_unblank, first_is, has_blank, number-again, number-only}
pub use Rattle.cadf_linefile.proofs.UnbrokenLines.{decimal_unbroken, unbroken_digest}
pub use Rattle.cadf_linefile.proofs.VerdictLemmas.{good_log}
pub use Rattle.cadf_linefile.specs.Answers.{CauseIs}
pub use Rattle.cadf_linefile.specs.LineGrammar.{shape_unless}
pub use Rattle.cadf_linefile.specs.Lines.{text_of_lines}
pub use Rattle.cadf_linefile.specs.ModelKind.{AcceptsModels, IsInjective}
pub use Rattle.cadf_linefile.specs.Numbers.{first_word, number_in, words_after}
pub use Rattle.cadf_linefile.specs.Verdict.{begins_digest, log_line, with_digest_line}
pub use Rattle.cadf_listed.specs.ListFile.{ListedModel}
pub use Rattle.cadf_set.specs.Replica.{ReplicaModel}
pub use Rattle.cadf_siteseal.specs.GrowthItems.{IsItem as IsGrowthItem, IsItem, growth_items, item_in, item_line, next, tree_item_in, window_in}
pub use Rattle.cadf_siteseal.specs.PartNames.{all_fit, comes_before, fits, is_part, is_window, pattern, shared}
pub use Rattle.cadf_siteseal.specs.Roots.{IsSealed, both_roots, first_root_in, last_root_in, positive_in, root_in, root_text, root_with, roots_in, roots_text, unless_zero}
pub use Rattle.cadf_siteseal.specs.SealItems.{AreSealed, IsItem as IsSealItem, IsSiteSeal, SiteSealModel, floor_in, gone_with, held_with, next as next_seal, part_with, seal_items, sealed_in, sealed_text}
pub use Rattle.cadf_siteseal.specs.SiteFile.{AllFollow, IsSite, ItemKind, SiteModel, cause_after, item_cause, items_in, line_cause, site_body, site_kind, site_lines, site_model_in, state_after, unit_in, unit_line, unit_of}
pub use Rattle.cadf_siteseal.specs.SiteGrown.{SiteFaultIs, both_texts, earlier_name, first_fault, gone_fault, grown_text, head_fault, input_fault, is_allowed, is_unit, item_text, kept_fault, lacking_fault, lacking_name, least, least_of, name_if, named, needed_fault, new_line, other_lines, shown_fault, spare_name, unless_fault, went_line, went_name, window_text, with_lines}
pub use Rattle.cadf_siteseal.specs.SiteLaws.{AreApart, PartsStay, StayApart, own_of}
pub use Rattle.cadf_siteseal.specs.SiteLines.{AreTold, IsGrowthTold, IsPut, IsSealTold}
pub use Rattle.cadf_siteseal.specs.SiteParts.{HaveRoots, IsPartProof, first_some, gone_by, gone_roots, has_proof, held_by, held_roots, is_root, is_unchanged, last_roots, own, part_proof, part_seal, roots_if, trees}
pub use Rattle.cadf_siteseal.specs.declared.growth_items.GrowthItem.{GrowthItem}
pub use Rattle.cadf_siteseal.specs.declared.growth_items.GrowthItem.TheVariants.{Keys, Tree, Window}
pub use Rattle.cadf_siteseal.specs.declared.growth_items.GrowthState.{GrowthState}
pub use Rattle.cadf_siteseal.specs.declared.seal_items.SealItem.{SealItem}
pub use Rattle.cadf_siteseal.specs.declared.seal_items.SealItem.TheVariants.{Floor, Gone, Held}
pub use Rattle.cadf_siteseal.specs.declared.seal_items.SealState.{SealState}
pub use Rattle.cadf_siteseal.specs.declared.seal_items.SealedPart.{SealedPart}
pub use Rattle.cadf_siteseal.specs.declared.site_fault.SiteFault.{SiteFault}
pub use Rattle.cadf_split.specs.declared.unit.Unit.{Unit as TimeUnit}
pub use Rattle.cadf_split.specs.declared.unit.Unit.TheVariants.{Day, Hour, Month}
pub use Rattle.cadf_tree.specs.declared.parts.Kind.TheVariants.{Added, Both}
pub use Rattle.cadf_tree.specs.declared.parts.Part.{Part}
pub use Rattle.cadf_tree.specs.declared.parts.Part.TheVariants.{Hash, Leaf, Node}
pub use Rattle.cadf_tree.specs.declared.tree.Root.{Root}
pub use Rattle.hex.specs.Hex.{encode_lower, lower_digits}
pub use Rattle.std.proofs.Common.{Bool, Err, List, None, Ok, Option, Result, Some, [], ap, append-nil, append_assoc, arith, cond, drop, false, get_or, inl, inr, length, map, not, refl, subst, suc, sym, take, true, true≢false, zero, ℕ, ◌++◌, ◌+◌, ◌<◌, ◌^◌, ◌∙◌, ◌∷◌, ◌≡◌, ◌⊎◌}
pub use Rattle.std.proofs.Math.Seq.{drop-append_seam, take-append_seam}
pub use Rattle.std.proofs.lemmas.Bool.{eqb-true}
pub use Rattle.std.proofs.lemmas.Bool.Decides.{nat_tests}
pub use Rattle.std.proofs.lemmas.Fmt.{decimal_nonempty}
pub use Rattle.std.proofs.lemmas.Grind.{common_steps}
pub use Rattle.std.proofs.lemmas.List.{drop_more, take-append-drop, take_all}
pub use Rattle.std.proofs.lemmas.Slice.Eq.{bytes_eq-Decides}
pub use Rattle.std.specs.List.{AllByRecursion, flat_map, list_any, position_or_len}
pub use Rattle.std.specs.Option.{option_or}
pub use Rattle.std.specs.Prelude.{IfErr, codes, decimal, is_some, nat_eq, option_and_then, option_map, slice_index, unwrap_or, ◌%◌, ◌&&◌, ◌/◌, ◌==◌, ◌||◌}
pub use Rattle.std.specs.Str.{bytes_eq}
