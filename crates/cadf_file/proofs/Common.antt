-- What the proofs of this crate take from outside. Written by tests/proofs/imports.py.
pub use Rattle.cadf_atom.proofs.AtomLemmas.{atom_utf8, line-again, line-only, line-tells, line-text, line-unbroken}
pub use Rattle.cadf_atom.proofs.NextKinds.{begins_front}
pub use Rattle.cadf_atom.proofs.PathKinds.{atom_passes, begins_is, kind_is, passes_atom}
pub use Rattle.cadf_atom.proofs.Places.{are_places}
pub use Rattle.cadf_atom.specs.Atom.{atom_of, atom_rules}
pub use Rattle.cadf_atom.specs.AtomPaths.{atom_places}
pub use Rattle.cadf_atom.specs.AtomSets.{IsReplicaSet}
pub use Rattle.cadf_atom.specs.PathKind.{BeginsAtom, IsPathKind}
pub use Rattle.cadf_atom.specs.declared.atom.AtomFault.{AtomFault}
pub use Rattle.cadf_atom.specs.declared.path.PathKind.{PathKind}
pub use Rattle.cadf_atom.specs.declared.path.PathKind.TheVariants.{Not, Prefix, Whole}
pub use Rattle.cadf_event.proofs.LogNameLemmas.{unbroken_quoted}
pub use Rattle.cadf_event.specs.Known.{IsNameText}
pub use Rattle.cadf_event.specs.LogName.{is_name_text, is_unbroken}
pub use Rattle.cadf_event.specs.Names.{is_name}
pub use Rattle.cadf_file.specs.Answers.{CauseIs, FaultIs, FileAnswers}
pub use Rattle.cadf_file.specs.BodyAt.{body_at}
pub use Rattle.cadf_file.specs.Fed.{Fed, HasFed}
pub use Rattle.cadf_file.specs.File.{FileIsInjective, FileOfOne, IsReplica, body, digest_line, file, file_lines, header}
pub use Rattle.cadf_file.specs.FileOf.{WrittenIsFile}
pub use Rattle.cadf_file.specs.FileTwo.{FormatTwoIsInjective, body_two, file_two, header_two}
pub use Rattle.cadf_file.specs.LinesRead.{lines_one, lines_two}
pub use Rattle.cadf_file.specs.NodeLines.{NodeOnly, NodeReads, count_if_number, depth_in, depth_of_value, mark_number, node_in, node_of_value, node_or_shape, node_value, text_if_string}
unfoldable pub use Rattle.cadf_file.specs.NodeLines.{depth_of, node_line, node_of}
pub use Rattle.cadf_file.specs.NodeTold.{IsRead, IsWrong, node_model}
pub use Rattle.cadf_file.specs.NodeVerdict.{AreNodes, AreNodesAfter, NodesAreValid, ValidNodesAreOfSet, cause_at, cause_of_node, has_place, is_body_path, kind_of, may_stand}
pub use Rattle.cadf_file.specs.Nodes.{Node, NodesDetermineSet, last_text, marked, node, nodes, path_of, prefixes_of, set_of}
unfoldable pub use Rattle.cadf_file.specs.Nodes.{paths}
pub use Rattle.cadf_file.specs.NodesHeld.{AreHeld, lines_held}
pub use Rattle.cadf_file.specs.NodesRead.{AreOpenAfter, NodesAreRead, body_nodes, cause_behind, cause_of_read, grammar_two, mark_after, nodes_in, nodes_with, ok_node, path_after, unended_at}
unfoldable pub use Rattle.cadf_file.specs.NodesRead.{cause_of_line, paths_with, unended}
pub use Rattle.cadf_file.specs.Reads.{ReadsFile}
pub use Rattle.cadf_file.specs.Taken.{IsBegun, IsExtended, IsFront, IsNext, open_items}
pub use Rattle.cadf_file.specs.Verdict.{AcceptsFiles, FormatIsDetermined, ReadsFiles, atoms_of_lines, cause_of_atom, contents_of, decided, grammar_one, log_in_line, ok_atom, replica_file, replica_model_or_fault, verdict}
unfoldable pub use Rattle.cadf_file.specs.Verdict.{cause_of}
pub use Rattle.cadf_file.specs.Walked.{NodesWalked, added, goes_on, nodes_of_walk, shared_texts}
pub use Rattle.cadf_file.specs.Written.{Stopped}
pub use Rattle.cadf_file.specs.declared.format.Format.TheVariants.{One, Two}
pub use Rattle.cadf_file.specs.declared.node.LineRead.TheVariants.{Other}
pub use Rattle.cadf_join.proofs.Members.{and_both, and_first, and_second, from_list_has, has_from_list, listed_either, listed_left, listed_right, or_cases, or_left, or_right}
pub use Rattle.cadf_join.specs.Contents.{Contents, Has, Text, Texts, text_cmp, texts_cmp}
pub use Rattle.cadf_join.specs.Prefixes.{chain_texts, texts_at}
pub use Rattle.cadf_join.specs.Sets.{Listed, contains-from_list, from_list_push, rising}
pub use Rattle.cadf_join.specs.laws.Contents.{text_same, text_total, texts_same, texts_total}
pub use Rattle.cadf_join.specs.laws.Rising.{AllByRecursion-listed, from_list-rising, listed-AllByRecursion, listed-rising, listed_any, rising-from_list, rising-listed, rising_is_sorted, same_rising, sorted_once}
pub use Rattle.cadf_join.specs.laws.Sets.{same_from_within}
pub use Rattle.cadf_json.proofs.OneLine.{text_line}
pub use Rattle.cadf_json.proofs.PlainRuns.{same_run}
pub use Rattle.cadf_json.proofs.TextBytes.{text_utf8}
pub use Rattle.cadf_json.proofs.Texts.{has_float-IsWhole, read-text, text_tells_apart}
pub use Rattle.cadf_json.specs.Parts.{parts_in}
pub use Rattle.cadf_json.specs.Streams.{AppendsPrefix, counted, is_write_fault}
pub use Rattle.cadf_json.specs.Value.{IsNoJson, IsNotCanonical, IsNotWhole, IsValue, is_one_line, text}
pub use Rattle.cadf_json.specs.declared.transfer.OutFault.{OutFault}
pub use Rattle.cadf_json.specs.declared.transfer.OutFault.TheVariants.{Memory as OutOfMemory}
pub use Rattle.cadf_line.proofs.SpelledLines.{line_spelled}
pub use Rattle.cadf_line.specs.AtomLine.{line}
pub use Rattle.cadf_line.specs.Atoms.{IsAtom, begins_with, carrier, event_letter}
pub use Rattle.cadf_line.specs.Digest.{open_line, spelled_items}
pub use Rattle.cadf_linefile.proofs.BodyLines.{AreAfter, IsJudgedAlone, IsKind, file_is_items, items_are_file, one_by_one, same_bytes}
pub use Rattle.cadf_linefile.proofs.EitherLemmas.{either_is_chosen}
pub use Rattle.cadf_linefile.proofs.JudgeLemmas.{later_body, later_digest}
pub use Rattle.cadf_linefile.proofs.LinesLemmas.{and_true, are_unbroken, both, cut-lines, cut_of}
pub use Rattle.cadf_linefile.proofs.NumberLemmas.{number-again, number-only}
pub use Rattle.cadf_linefile.proofs.ReadingLemmas.{unless_map}
pub use Rattle.cadf_linefile.proofs.UnbrokenLines.{last_apart, quoted_same, unbroken_digest}
pub use Rattle.cadf_linefile.proofs.VerdictLemmas.{first_none, good_log, unless_none}
pub use Rattle.cadf_linefile.proofs.WritingLemmas.{Completes, completes_more, front_of_line, front_so_far, on_err, on_ok}
pub use Rattle.cadf_linefile.specs.Answers.{PlacedIs}
pub use Rattle.cadf_linefile.specs.Kinds.{begins}
pub use Rattle.cadf_linefile.specs.Lines.{cut, text_of_lines, with_line_feed}
pub use Rattle.cadf_linefile.specs.Numbers.{number_in}
pub use Rattle.cadf_linefile.specs.OneOfTwo.{either_lines}
pub use Rattle.cadf_linefile.specs.Verdict.{at_line, begins_digest, body_fault, first_of, log_line, with_digest_line}
pub use Rattle.cadf_linefile.specs.declared.fault.Cause.{Cause}
pub use Rattle.cadf_linefile.specs.declared.fault.Cause.TheVariants.{Json, NotCanonical, NotUtf8, Order, Shape, Unended, Ungrounded}
pub use Rattle.cadf_linefile.specs.declared.fault.FileFault.{FileFault}
pub use Rattle.cadf_linefile.specs.declared.fault.FileFault.TheVariants.{ReadFault, TooLarge, Trailing}
pub use Rattle.cadf_linefile.specs.declared.fault.LineFault.{LineFault}
pub use Rattle.cadf_linefile.specs.declared.fault.LineFault.TheVariants.{Here}
pub use Rattle.cadf_linefile.specs.laws.Prefixes.{front_after, front_more, none_written}
pub use Rattle.cadf_pathset.proofs.Agreement.{agree_less}
pub use Rattle.cadf_pathset.proofs.Threads.{agree_none}
pub use Rattle.cadf_pathset.specs.Lists.{at_places, last_list, last_of}
pub use Rattle.cadf_pathset.specs.Nodes.{Agree}
pub use Rattle.cadf_set.proofs.OrderLemmas.{Accepts, accepts_all, atom_eq_same, atoms_from, atoms_none, atoms_push}
pub use Rattle.cadf_set.specs.Order.{AreAtomsInOrder, IsAbove, IsRising, atom_is_above, has_carrier, is_atom, is_carried}
pub use Rattle.cadf_set.specs.Pushes.{IsPushed}
pub use Rattle.cadf_set.specs.Refusals.{IsCarried}
pub use Rattle.cadf_set.specs.Replica.{ReplicaModel}
pub use Rattle.json.proofs.Printed.Strings.{content-escape, escape_byte_plain}
pub use Rattle.json.specs.Print.{escape, escape_letter, print, quoted}
unfoldable pub use Rattle.json.specs.Print.{escape_byte, print_from}
pub use Rattle.json.specs.Run.{is_plain}
pub use Rattle.json.specs.Text.{content, plain}
pub use Rattle.json.specs.Token.{begin_array, end_array, string}
pub use Rattle.serde_json.specs.Data.{Data, number, unsigned}
pub use Rattle.serde_json.specs.Find.{as_array}
pub use Rattle.serde_json.specs.Read.{read}
pub use Rattle.serde_json.specs.Written.{has_float}
pub use Rattle.sha2.specs.Hashers.{Holds256}
pub use Rattle.std.proofs.Common.{Bool, Err, Global, IfErr, List, None, Ok, OnOk, Option, Result, Some, String, [], ap, append-nil, append_assoc, arith, cond, decimal, drop, eqb, false, get_or, inl, inr, le-leb, leb-true, length, length-append, map, min, refl, rules, string_bytes, subst, suc, sym, take, take-append-drop, true, true≢false, zero, ℕ, ◌%◌, ◌++◌, ◌+◌, ◌-◌, ◌<◌, ◌^◌, ◌∙◌, ◌∷◌, ◌≡◌, ◌≢◌, ◌≤◌, ◌⊎◌}
pub use Rattle.std.proofs.KnownBytes.{Appends-trans}
pub use Rattle.std.proofs.lemmas.Bool.{cases_eq, cases_lt, false_from_ne_true, le-ltb, lt-ltb, ltb-true, ne_eqb}
pub use Rattle.std.proofs.lemmas.Bool.Decides.{Decides-eqb, nat_tests}
pub use Rattle.std.proofs.lemmas.Cmp.{eq_by_cmp_equiv}
pub use Rattle.std.proofs.lemmas.Fmt.{decimal_by_steps}
pub use Rattle.std.proofs.lemmas.Grind.{common_steps, flat_map-append}
pub use Rattle.std.proofs.lemmas.List.{append_cancel_right, drop-append-le, drop_all, get_or-drop, length-drop, length-map, length-take, length_push, map-append, take-append-le, take-map, take-take, take_all, take_at, take_min}
pub use Rattle.std.proofs.lemmas.Map.Views.{Contains-from_any, list_any-from_Contains}
pub use Rattle.std.proofs.lemmas.Result.{err_from_is_err_and}
pub use Rattle.std.proofs.lemmas.Slice.Eq.{bytes_eq-Decides, starts_is}
pub use Rattle.std.proofs.lemmas.Str.{IsCharBoundary-after_ascii, IsUtf8-from_is_utf8, IsUtf8-string_bytes, is_utf8-from_IsUtf8}
pub use Rattle.std.proofs.lemmas.Str.Pattern.{IsSplitOnceResult, split_after, strip_prefix_char}
pub use Rattle.std.specs.Bool.{then_some}
pub use Rattle.std.specs.Char.{digit_char}
pub use Rattle.std.specs.Cmp.{tied_itself}
unfoldable pub use Rattle.std.specs.Fmt.{digits}
pub use Rattle.std.specs.Io.KnownBytes.{Appends}
pub use Rattle.std.specs.List.{AllByRecursion, cons_option, last_or, list_all, list_any, prefix_len, starts_with}
unfoldable pub use Rattle.std.specs.List.Sorted.{IsStrictlySortedBy}
pub use Rattle.std.specs.Ordering.{is_eq, is_lt, ordering_reverse, ordering_then}
pub use Rattle.std.specs.Prelude.{Contains, IfOk, IfSome, IsTrue, IsUtf8, MatchOption, codes, filter, flat_map, if◌then◌else◌, is_some, nat_eq, nat_le, nat_lt, not, slice_get, slice_index, slice_range, unwrap_or, ◌&&◌, ◌/◌, ◌==◌, ◌||◌, ◌↔◌}
pub use Rattle.std.specs.Result.{result_and}
pub use Rattle.std.specs.Str.{IsCharBoundary, bytes_eq, is_utf8}
pub use Rattle.std.specs.declared.cmp.Ordering.{Ordering}
pub use Rattle.std.specs.declared.cmp.Ordering.TheVariants.{Equal, Greater, Less}
pub use denote.Ref.{Bor}
pub use denote.Shadow.{shadow}
pub use denote.Text.{Utf8}
pub use mir.Val.{bool_byte}
