-- What the proofs of this crate take from outside. Written by tests/proofs/imports.py.
pub use Rattle.cadf_event.proofs.KnownParts.{all_append}
pub use Rattle.cadf_event.proofs.LogNameLemmas.{both_unbroken, name-again, name-only, name_not_text, unbroken_quoted}
pub use Rattle.cadf_event.specs.Known.{IsNameText}
pub use Rattle.cadf_event.specs.LogName.{is_name_text, is_unbroken, name_of}
pub use Rattle.cadf_evidence.specs.Growth.{all_gone_fault, error_of, first_unlisted, gone_fault, growth_of, growth_text, is_listed, keys_growth, later_fault, list_fault, log_fault, placed, told_growth, unless_log, unlisted}
pub use Rattle.cadf_evidence.specs.KeyList.{AreRisingKeys, IsKey, IsKeyList, KeyListModel, KeysFileIsInjective, keys_body, keys_header}
pub use Rattle.cadf_evidence.specs.KeyVerdict.{AcceptsKeyLists, IsPutKey, key_in, key_line_in, key_with, keys_kind, keys_model_in, keys_of_lines, letter_in, opens}
pub use Rattle.cadf_evidence.specs.Made.{AllGoneAreListed, FactsProofIsTold, GrowthProofIsTold, IsOfLog, KeysProofIsTold, ListedGrowthIsGrowth, facts_growth, keys_growth_parts}
unfoldable pub use Rattle.cadf_evidence.specs.Marked.{digest_after, number_after, rest_after}
pub use Rattle.cadf_evidence.specs.ProofFile.{AreKeyParts, AreParts, HasProofParts, IsPart, IsProof, ProofFileIsInjective, ProofModel, keys_line, keys_lines, node_line, part_line, proof_body, proof_header, proof_lines}
pub use Rattle.cadf_evidence.specs.ProofLines.{AreTold, IsPutInto}
pub use Rattle.cadf_evidence.specs.ProofVerdict.{cause_after, facts_in, have_begun, keys_in, parts_in, proof_kind, proof_model_in}
unfoldable pub use Rattle.cadf_evidence.specs.ProofVerdict.{leaf_in, part_in, starts_keys}
pub use Rattle.cadf_evidence.specs.SealFile.{IsRoot, IsSeal, SealFileIsInjective, SealModel, digest_line, number_line, seal_body, seal_header, seal_of}
pub use Rattle.cadf_evidence.specs.SealLines.{IsPut}
pub use Rattle.cadf_evidence.specs.SealVerdict.{seal_kind, seal_model_in}
pub use Rattle.cadf_evidence.specs.ShownParts.{any_gap}
pub use Rattle.cadf_evidence.specs.Soundness.{Differ, EqualSealsAreOfOneSet, FactsAreSo, GrowthIsSo, IsKeyAsAsked, KeysAreSo, NothingGoesUnlisted, StayOrAreListed, fact_digests, given_parts, key_digests, unchanged_parts}
pub use Rattle.cadf_evidence.specs.Told.{alike_text, digest_text, told, told_text}
pub use Rattle.cadf_evidence.specs.Verified.{VerifyFaultIs, alone_fault, first_fault, refusal, state_fault, text_unless, tree_refusal, verdict_if, verdict_on}
pub use Rattle.cadf_evidence.specs.declared.growth.GrowthFault.{GrowthFault}
pub use Rattle.cadf_evidence.specs.declared.growth.GrowthFault.TheVariants.{OtherLog}
pub use Rattle.cadf_evidence.specs.declared.growth.SealedSet.{SealedSet}
pub use Rattle.cadf_evidence.specs.declared.growth.SealedSet.TheVariants.{Facts, Keys}
pub use Rattle.cadf_evidence.specs.declared.seal_lines.Told.TheVariants.{Count, KeyCount, Nothing, Whole}
pub use Rattle.cadf_evidence.specs.declared.telling.Alike.{Alike}
pub use Rattle.cadf_evidence.specs.declared.verify.Asked.{Asked}
pub use Rattle.cadf_evidence.specs.declared.verify.Asked.TheVariants.{Fact, Key}
pub use Rattle.cadf_evidence.specs.declared.verify.VerifyFault.{VerifyFault}
pub use Rattle.cadf_evidence.specs.declared.verify.VerifyFault.TheVariants.{Absent, Memory, NotShown, Present, Proof}
pub use Rattle.cadf_inventory.proofs.DigestLines.{digest-again, digest-only, sha_digest, unbroken_digest_of}
pub use Rattle.cadf_inventory.proofs.InventoryVerdictLemmas.{each_digest}
pub use Rattle.cadf_inventory.proofs.RisingLists.{last_below, rising_none, rising_push, rising_set, set_again}
pub use Rattle.cadf_inventory.specs.InventoryVerdict.{cause_of_digest, digest_of, is_above_digest, is_above_last_digest}
pub use Rattle.cadf_join.proofs.Members.{from_list_has, has_from_list}
pub use Rattle.cadf_join.proofs.Outcome.{if_ok_then, on_ok_then}
pub use Rattle.cadf_join.specs.Contents.{Contents, Has, IsWithin, Text, Texts, text_cmp}
pub use Rattle.cadf_join.specs.Sets.{Listed, rising}
pub use Rattle.cadf_join.specs.laws.Contents.{text_same, text_total, texts_same, texts_total}
pub use Rattle.cadf_join.specs.laws.Rising.{AllByRecursion-listed, listed-rising, rising-listed}
pub use Rattle.cadf_json.specs.Streams.{AppendsPrefix}
pub use Rattle.cadf_key.specs.Keys.{key_digest, key_of, keys_of}
pub use Rattle.cadf_line.proofs.Missing.{digest_of_some, known_digest, listed_map, map_listed}
pub use Rattle.cadf_line.proofs.SpelledLines.{line_in_pieces, line_spelled}
pub use Rattle.cadf_line.specs.AtomLine.{line}
pub use Rattle.cadf_line.specs.Atoms.{geolocation_letter, metric_letter, property_letter, resource_letter}
pub use Rattle.cadf_line.specs.Digest.{IsDigest, atom_digest}
pub use Rattle.cadf_line.specs.Missing.{Digests, NoCollision, digests_of}
pub use Rattle.cadf_line.specs.RulingTexts.{is_value_letter}
pub use Rattle.cadf_linefile.proofs.BodyLines.{AreAfter, map_more}
pub use Rattle.cadf_linefile.proofs.LinesLemmas.{and_true, are_unbroken}
pub use Rattle.cadf_linefile.proofs.MarkedLines.{chosen, shape_none, there}
pub use Rattle.cadf_linefile.proofs.ModelLemmas.{Ends, Follows, IsModelKind, Plain, accepts-models, lines_of, models-tell, name_is}
pub use Rattle.cadf_linefile.proofs.NumberLemmas.{number-again, number-only}
pub use Rattle.cadf_linefile.proofs.UnbrokenLines.{decimal_unbroken, unbroken_digest}
pub use Rattle.cadf_linefile.proofs.VerdictLemmas.{good_log}
pub use Rattle.cadf_linefile.specs.Answers.{CauseIs}
pub use Rattle.cadf_linefile.specs.LineGrammar.{shape_unless}
pub use Rattle.cadf_linefile.specs.ModelKind.{AcceptsModels}
pub use Rattle.cadf_linefile.specs.Numbers.{number_in}
pub use Rattle.cadf_linefile.specs.Verdict.{begins_digest, log_line, with_digest_line}
pub use Rattle.cadf_linefile.specs.declared.fault.Cause.TheVariants.{Order, Shape}
pub use Rattle.cadf_linefile.specs.laws.Prefixes.{front_after, front_more}
pub use Rattle.cadf_listed.specs.ListFile.{AreRisingDigests, ListedModel, facts_of, keys_of as listed_keys, list_over}
pub use Rattle.cadf_set.specs.Inventory.{AreDigests, InventoryModel, inventory_of}
pub use Rattle.cadf_tree.proofs.Comparing.{union_set}
pub use Rattle.cadf_tree.specs.Grown.{all_needed, are_equal, fault_unless, growth_unless, hidden_leaves, is_hash, is_text, order_fault, tree_fault, verdict}
pub use Rattle.cadf_tree.specs.GrowthLaws.{AreRising, BothAreHonest, DoNotCollide, HaveHashes, IsHashedBy, IsHashedFor, IsHashedForBoth, Marked, is_added, is_gone, those}
pub use Rattle.cadf_tree.specs.GrowthMade.{GrowthIsComplete, compared, digests_of as compared_digests, growth_parts}
pub use Rattle.cadf_tree.specs.Made.{Kinds, any_shown, first_kind, made_leaf, made_parts, preorder, size}
pub use Rattle.cadf_tree.specs.Presence.{PresenceIsSound, all_asked, first_part, is_absent, is_leaf, is_present, member, needs, shown, state}
pub use Rattle.cadf_tree.specs.PresenceMade.{PresenceIsComplete, asked_kinds, first_digest, is_between, kind_if, presence_parts}
pub use Rattle.cadf_tree.specs.Pruned.{Fork, Hidden, is_earlier, is_later, items, leaves_of, number}
pub use Rattle.cadf_tree.specs.Tree.{Branch, IsSet, Tip, Tree, all_leaves, hash, leaf_text, leaves, node_text, root, root_hash, root_text, tree_hash, tree_of}
pub use Rattle.cadf_tree.specs.declared.growth.Growth.{Growth}
pub use Rattle.cadf_tree.specs.declared.growth.TreeFault.{TreeFault}
pub use Rattle.cadf_tree.specs.declared.growth.TreeFault.TheVariants.{NotNeeded, OtherCount, OtherEarlierRoot, OtherLaterRoot}
pub use Rattle.cadf_tree.specs.declared.parts.Kind.{Kind}
pub use Rattle.cadf_tree.specs.declared.parts.Kind.TheVariants.{Added, Both, Gone, Gone as Went}
pub use Rattle.cadf_tree.specs.declared.parts.Part.{Part}
pub use Rattle.cadf_tree.specs.declared.parts.Part.TheVariants.{Hash, Leaf, Node}
pub use Rattle.cadf_tree.specs.declared.tree.Root.{Root}
pub use Rattle.hex.specs.Hex.{encode_lower}
pub use Rattle.json.specs.Print.{quoted}
pub use Rattle.sha2.proofs.Facts256.{length-sha256}
pub use Rattle.std.proofs.Common.{Bool, Err, List, None, Ok, Option, Result, Some, [], ap, append-nil, append_assoc, arith, cond, drop, false, get_or, if◌then◌else◌, inl, inr, length, map, not, refl, rules, subst, sym, take, true, true≢false, ℕ, ◌++◌, ◌+◌, ◌<◌, ◌^◌, ◌∙◌, ◌∷◌, ◌≡◌, ◌≤◌}
pub use Rattle.std.proofs.KnownBytes.{Appends-trans}
pub use Rattle.std.proofs.Math.Seq.{drop-append_seam, take-append_seam}
pub use Rattle.std.proofs.lemmas.Bool.{eq-eqb, false_from_ne_true, le-leb, le-ltb}
pub use Rattle.std.proofs.lemmas.Cmp.{eq_by_cmp_equiv}
pub use Rattle.std.proofs.lemmas.Grind.{common_steps, flat_map-append}
pub use Rattle.std.proofs.lemmas.List.{drop_more, length-append, take-append-drop}
pub use Rattle.std.proofs.lemmas.Result.{err_from_is_err_and, on_err_weaker}
pub use Rattle.std.proofs.lemmas.Slice.Eq.{bytes_eq-Decides}
pub use Rattle.std.specs.Cmp.Lexicographic.{slice_cmp, texts_ties}
pub use Rattle.std.specs.Io.KnownBytes.{Appends}
pub use Rattle.std.specs.List.{AllByRecursion, last_or, list_any}
unfoldable pub use Rattle.std.specs.List.Sorted.{IsStrictlySortedBy}
pub use Rattle.std.specs.Option.{option_or}
pub use Rattle.std.specs.Ordering.{eq_by_cmp, is_lt, nat_cmp}
pub use Rattle.std.specs.Prelude.{IfErr, codes, decimal, is_some, nat_eq, option_and_then, option_map, slice_get, suc, unwrap_or, ◌&&◌, ◌-◌, ◌||◌, ◌⊎◌}
pub use Rattle.std.specs.Str.{IsUtf8, bytes_eq}
