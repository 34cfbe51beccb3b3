-- What the proofs of this crate take from outside. Written by tests/proofs/imports.py.
pub use Rattle.cadf_atom.proofs.RuleLaws.{name_rule}
pub use Rattle.cadf_atom.proofs.RulingTexts.{hex_is_digest}
pub use Rattle.cadf_atom.specs.Atom.{IsRuling, atom_rules}
pub use Rattle.cadf_atom.specs.AtomSets.{IsReplicaSet}
pub use Rattle.cadf_atom.specs.Contributions.{ARuling, Contribution, atoms, document_atoms, one_atom, taken, union_all}
pub use Rattle.cadf_atom.specs.Rulings.{ruling_of}
pub use Rattle.cadf_atom.specs.Shown.{conflict_part, log_part, only, strip, values}
pub use Rattle.cadf_erased.proofs.LeftSets.{carrier_alike}
pub use Rattle.cadf_erased.specs.Left.{is_left, left_of}
pub use Rattle.cadf_event.proofs.BytesFaults.{no_bytes_fault_each, one_bytes_fault_each}
pub use Rattle.cadf_event.proofs.KnownDocument.{known_document}
pub use Rattle.cadf_event.proofs.NoFault.{clash}
pub use Rattle.cadf_event.specs.Document.{DocumentParts, IsDocument}
pub use Rattle.cadf_event.specs.DocumentBytes.{IsDocumentBytesFault}
pub use Rattle.cadf_event.specs.Known.{DocumentInvariant, IsKnownLog, IsNameText}
pub use Rattle.cadf_event.specs.LogName.{is_name_text}
pub use Rattle.cadf_event.specs.declared.document_bytes.DocumentBytesFault.{DocumentBytesFault}
pub use Rattle.cadf_event.specs.declared.document_bytes.DocumentBytesFault.TheVariants.{Document as BytesDocument, Json as BytesJson, Memory as BytesMemory}
pub use Rattle.cadf_evidence.specs.Growth.{GrowthFaultIs, grown}
pub use Rattle.cadf_evidence.specs.ProofFile.{ProofModel}
pub use Rattle.cadf_evidence.specs.SealFile.{SealModel, seal_file}
pub use Rattle.cadf_evidence.specs.declared.growth.GrowthFault.{GrowthFault}
pub use Rattle.cadf_evidence.specs.declared.growth.GrowthFault.TheVariants.{Gone, Proof}
pub use Rattle.cadf_file.proofs.FileLemmas.{file-of-one, formats_apart}
pub use Rattle.cadf_file.proofs.FileTwoLemmas.{file-two-tells}
pub use Rattle.cadf_file.proofs.RefusedLemmas.{accepted_whole, behind_all, decided_is, decided_stays, err, failed_alone, left_to_failed, refused_verdict, too_many}
pub use Rattle.cadf_file.proofs.VerdictLemmas.{reads-files, replica_is}
pub use Rattle.cadf_file.specs.Answers.{FaultIs, FileAnswers}
pub use Rattle.cadf_file.specs.Fed.{Fed, Goes, HasFed}
pub use Rattle.cadf_file.specs.File.{IsFile, IsFileWithin, IsReplica}
pub use Rattle.cadf_file.specs.FileOf.{file_of}
pub use Rattle.cadf_file.specs.Reads.{ReadsFile}
pub use Rattle.cadf_file.specs.Verdict.{decided, verdict}
pub use Rattle.cadf_inventory.proofs.DigestLines.{sha_digest}
pub use Rattle.cadf_inventory.proofs.InventoryVerdictLemmas.{accepts-inventories, inventory-file-tells}
pub use Rattle.cadf_inventory.specs.InventoryFile.{DoNotCollide, IsInventory, inventory_file}
unfoldable pub use Rattle.cadf_inventory.specs.InventoryFile.{inventory_digest}
pub use Rattle.cadf_inventory.specs.InventoryVerdict.{inventory_kind}
pub use Rattle.cadf_join.specs.Contents.{Contents, Has, IsWithin, Text, Texts}
pub use Rattle.cadf_join.specs.Sets.{Listed, rising}
pub use Rattle.cadf_join.specs.laws.Contents.{contents_same, texts_same, texts_total}
pub use Rattle.cadf_join.specs.laws.Sets.{IsWithin-from_subset, subset-from_IsWithin}
pub use Rattle.cadf_json.proofs.Spelled.{spelled_is_value}
pub use Rattle.cadf_json.specs.Streams.{ConsumesAfter, ConsumesExactly, ConsumesWithin, counted, one_more}
pub use Rattle.cadf_json.specs.declared.stream.Sink.{Ghosts as Sink}
pub use Rattle.cadf_json.specs.declared.stream.Source.{Ghosts as Source}
pub use Rattle.cadf_line.proofs.Lists.{Some-same}
pub use Rattle.cadf_line.proofs.Missing.{digest_of_some, missing_by_is, missing_or_held, missing_within, unknown_has, with_carriers_grounded, with_carriers_least}
pub use Rattle.cadf_line.specs.AtomLine.{line}
pub use Rattle.cadf_line.specs.Atoms.{IsAtom, IsGrounded, begins_with, carrier, event_letter, is_text, ruling_letter}
pub use Rattle.cadf_line.specs.Digest.{IsDigest, atom_digest}
pub use Rattle.cadf_line.specs.Missing.{Digests, NoCollision, digests_of, missing, missing_by, unknown}
pub use Rattle.cadf_line.specs.RulingTexts.{RulingParts, is_digest_text, is_value_letter, ruling_atom, value_digest}
pub use Rattle.cadf_linefile.proofs.ReadingLemmas.{too_long, unless_map}
pub use Rattle.cadf_linefile.specs.Answers.{UnlessMemory}
pub use Rattle.cadf_linefile.specs.Lines.{text_of_lines, with_line_feed}
unfoldable pub use Rattle.cadf_linefile.specs.Lines.{cut}
pub use Rattle.cadf_linefile.specs.ModelKind.{AcceptsModels, ModelKind, decided_of, grammar_of, model_or_fault, verdict_of}
pub use Rattle.cadf_linefile.specs.ModelReads.{ReadsModel}
pub use Rattle.cadf_linefile.specs.Verdict.{digest_line}
pub use Rattle.cadf_linefile.specs.declared.fault.FileFault.{FileFault}
pub use Rattle.cadf_linefile.specs.declared.fault.FileFault.TheVariants.{ReadFault as FileReadFault, TooLarge as FileTooLarge, Trailing}
pub use Rattle.cadf_linefile.specs.declared.file_feed.TheConstants.{FILE_LIMIT}
pub use Rattle.cadf_listed.specs.ListFile.{ListedModel}
pub use Rattle.cadf_log.proofs.OneDocument.{one_document_each}
pub use Rattle.cadf_log.proofs.TwoTexts.{conflicts_have_one, conflicts_read as list_is_read, log_again, log_read as log_is_read, log_read, log_text_has_one, one_value, texts_tell}
pub use Rattle.cadf_log.specs.ReadBack.{IsConflictTextOf, IsLogTextOf}
unfoldable pub use Rattle.cadf_log.specs.Texts.{log_text}
pub use Rattle.cadf_rehearsal.specs.declared.turn.Turn.{Turn as Step}
pub use Rattle.cadf_scan.specs.Instants.{body_instant}
pub use Rattle.cadf_set.proofs.ContributionLaws.{document_kept, kept_empty, kept_union, ruling_kept}
pub use Rattle.cadf_set.proofs.History.{apart_by_digests, apart_by_replicas, contains_listed, in_union_all, listed_contains, listed_within, of_union_all, replica_is_held, same_held, union_all_append}
pub use Rattle.cadf_set.proofs.InLogOrConflicts.{apart, apart as parts_apart, together as parts_together, together}
pub use Rattle.cadf_set.proofs.ShownAgain.{in_order_retain}
pub use Rattle.cadf_set.proofs.TakenParts.{next_taken}
pub use Rattle.cadf_set.proofs.ValueMembers.{listed_value}
pub use Rattle.cadf_set.specs.History.{History, IsByReplicas, IsHistory, held, replica_of}
pub use Rattle.cadf_set.specs.Inventory.{AreDigests, InventoryModel}
pub use Rattle.cadf_set.specs.Replica.{ReplicaModel}
pub use Rattle.cadf_sketch.proofs.AskedLemmas.{asked_is}
pub use Rattle.cadf_sketch.proofs.DigestLemmas.{same_inventory}
pub use Rattle.cadf_sketch.proofs.SketchFileLemmas.{sketch-file-tells}
pub use Rattle.cadf_sketch.specs.Answers.{IsAnswer}
pub use Rattle.cadf_sketch.specs.Layouts.{LayoutModel, are_cells, default_cells, layout_with}
pub use Rattle.cadf_sketch.specs.SketchFile.{sketch_file}
pub use Rattle.cadf_sketch.specs.Sketches.{SketchModel, asked, own_salt}
unfoldable pub use Rattle.cadf_sketch.specs.Sketches.{sketch_of}
pub use Rattle.cadf_split.proofs.CarrierKeys.{key_of_carrier}
pub use Rattle.cadf_split.proofs.PartMembers.{in_part, key_listed, part-union, part_has, part_key}
pub use Rattle.cadf_split.specs.Split.{noted_lines, part_line, part_lines, replica_of_part, split_head, split_text}
pub use Rattle.cadf_split.specs.Windows.{key, part, part_keys, shared_key, window, window_of}
pub use Rattle.cadf_split.specs.declared.unit.Unit.{Unit}
pub use Rattle.cadf_tool.specs.Exchange.{AreCovered, AreExact, AreRead, AreSources, AreUnforgotten, ByFiles, ByInventory, BySketch, Delta, Derivation, Empty, End, External, File, Files, GivesFile, HaveSameExternalInputs, HoldsAtMost, HoldsExactly, IsByCarrier, IsCovered, IsDeltaOf, IsDerived, IsExact, IsExchange, IsInventoryOf, IsInventoryReadOf, IsOfRun, IsOutputOf, IsReadOf, IsResult, IsSketchOf, IsSketchReadOf, IsTelling, IsUnforgotten, Joined, Kept, Means, Ruled, all_inputs, all_solid, brought, brought_by, contribution_of, external_inputs, external_inputs_of, externals, files_of, first_log, is_in_part, kept, log_of, parts, solid}
pub use Rattle.cadf_tool.specs.Faults.{FaultStage, OutOfMemoryStage, Reading, Working, Writing, fault_stage, of_growth}
pub use Rattle.cadf_tool.specs.Folders.{AreFilesAfter, Begun, Exchanged, Folder, HasParts, IsExchanged, IsFolderAfter, IsFolderOf, IsSent, IsTaken, Took, all_files, and_files, arrived}
pub use Rattle.cadf_tool.specs.Grew.{growth_line, of_grown}
pub use Rattle.cadf_tool.specs.Input.{Gives, GivesAll, IsDocumentInput, IsDocumentOf, IsInput, IsInputWithin, IsParsedAsJson, IsWithinLimit, is_replica_file}
pub use Rattle.cadf_tool.specs.InputFault.{IsBytesFault, IsBytesFaultWithin, IsCounted, IsFileRefusal, IsLoadFault, IsLoadFaultWithin, IsNoDocument, IsOfFile, IsOneTooMany, IsTooLarge, RefusesFile, failure_of, is_refusal, of_document_bytes, of_file}
pub use Rattle.cadf_tool.specs.Inputs.{AreReadWithin, IsRefusedAs, NoneFailed, SourceState, source_state}
pub use Rattle.cadf_tool.specs.Join.{IsOnOk, first_named, is_other, join_from, join_in, join_of, log_of_join, of_union, on_ok, other_log, union_of, unless_other, with_union}
pub use Rattle.cadf_tool.specs.JoinState.{IsJoinState, JoinsNext, log_joined}
pub use Rattle.cadf_tool.specs.Listed.{left_file, left_for, sealed_file, sealed_model_of}
pub use Rattle.cadf_tool.specs.Missing.{delta_between, if_named, missing_of, part_of_unions, under_one_log, under_one_log_at}
pub use Rattle.cadf_tool.specs.MissingBy.{IsMissingBy, IsPartAgainst, inventory_model_of, inventory_model_under, missing_by_at, missing_by_of, part_by, part_by_union}
pub use Rattle.cadf_tool.specs.ModelInput.{erased_spec, inventory_spec, model_spec, proof_spec, seal_spec, sketch_spec}
pub use Rattle.cadf_tool.specs.Rehearse.{IsScriptJudged, bytes_spec, final_sites, played_in, script_spec, turns_of}
pub use Rattle.cadf_tool.specs.Request.{IsRequestRun, and_last, and_one, first_and_others, first_state, in_two, list_if, task, three}
pub use Rattle.cadf_tool.specs.Requested.{AreAccepted, AreOutside, IsAnswered}
pub use Rattle.cadf_tool.specs.Rule.{ruled_in, ruled_of, ruling_at, ruling_for, ruling_on, value_at, with_ruling}
pub use Rattle.cadf_tool.specs.Run.{AreLoaded, InputSpec, IsExpected, IsExpectedBy, IsExpectedOfBy, IsFirstFault, IsFirstFaultBy, IsReadAs, IsReadWithin, IsRefusedAt, IsRefusedFirst, IsRun, IsRunBy, IsToldBy, IsUnread, IsValueOf, IsWorkFaultBy, IsWorked, IsWorkedBy, SourceTransition, Sources, all, all_from, both, input_spec, inputs_from, one, transition_of, two, with_number}
pub use Rattle.cadf_tool.specs.Seal.{seal_model_of}
pub use Rattle.cadf_tool.specs.Shown.{HaveSameOutput, checked_text, shown_text}
pub use Rattle.cadf_tool.specs.Sites.{is_same, lines_from}
pub use Rattle.cadf_tool.specs.Sketch.{AreAsked, IsAnswerTo, sketch_model_of, sketch_of_result}
pub use Rattle.cadf_tool.specs.Told.{IsHeld, atoms_loaded, log_named, replica_model_of, under_log}
pub use Rattle.cadf_tool.specs.TwoTexts.{AreParted, IsInList, IsInLog, IsInOne, IsShown, IsTextOf}
pub use Rattle.cadf_tool.specs.WrittenFile.{written_file}
pub use Rattle.cadf_tool.specs.declared.fault.ToolFault.{ToolFault}
pub use Rattle.cadf_tool.specs.declared.fault.ToolFault.TheVariants.{NoLog, OtherLog}
pub use Rattle.cadf_tool.specs.declared.input.LoadFault.{LoadFault}
pub use Rattle.cadf_tool.specs.declared.input.LoadFault.TheVariants.{Json, Memory, ReadFault, TooLarge}
pub use Rattle.cadf_tool.specs.declared.input.Loaded.{Loaded}
pub use Rattle.cadf_tool.specs.declared.input.Loaded.TheVariants.{Document, Document as LoadedDocument, Replica as LoadedReplica, Replica}
pub use Rattle.cadf_tool.specs.declared.join_state.JoinState.{JoinState}
pub use Rattle.cadf_tool.specs.declared.join_state.JoinState.TheVariants.{Other, Unnamed}
pub use Rattle.cadf_tool.specs.declared.request.Request.{Request}
pub use Rattle.cadf_tool.specs.laws.Engines.{IsOfReplica, of_inventory, of_replica, of_ruled}
pub use Rattle.sha2.specs.Sha256.{sha256}
pub use Rattle.std.proofs.Common.{Bool, Contains, Err, Global, IfErr, IfOk, IfSome, IsErrAnd, List, MatchResult, None, Ok, OnOk, Option, Result, Some, String, [], ap, append-nil, arith, codes, cond, drop, encode_utf8, false, get_or, inl, inr, length, length-append, length-take, map, min, nat_lt, refl, rules, set, slice_get, string_bytes, subst, suc, sym, take, true, true≢false, unwrap_or, zero, ℕ, ◌++◌, ◌+◌, ◌-◌, ◌<◌, ◌↔◌, ◌∙◌, ◌∷◌, ◌≡◌, ◌≢◌, ◌≤◌, ◌⊎◌}
pub use Rattle.std.proofs.KnownBytes.{Consumes-trans, Consumes-whole}
pub use Rattle.std.proofs.lemmas.Bool.{cases_lt}
pub use Rattle.std.proofs.lemmas.Grind.{common_steps, flat_map-append}
pub use Rattle.std.proofs.lemmas.List.{get_or_default, length-map, take_all}
pub use Rattle.std.proofs.lemmas.List.Sums.{position_or_len_is}
pub use Rattle.std.proofs.lemmas.Result.{err_from_is_err_and}
pub use Rattle.std.proofs.lemmas.Slice.Eq.{bytes_eq-Decides}
pub use Rattle.std.specs.Borrow.{Bor}
pub use Rattle.std.specs.Cmp.Lexicographic.{bytes_decides}
pub use Rattle.std.specs.Io.KnownBytes.{Appends, Consumes, IsAtEnd}
pub use Rattle.std.specs.List.{filter, filter_map, flat_map}
pub use Rattle.std.specs.Option.{option_or}
pub use Rattle.std.specs.Prelude.{IsTrue, is_some, not, option_map, ◌&&◌, ◌||◌}
pub use Rattle.std.specs.Result.{is_err}
pub use Rattle.std.specs.Str.{bytes_eq}
