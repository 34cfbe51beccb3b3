-- What the proofs of this crate take from outside. Written by tests/proofs/imports.py.
pub use Rattle.cadf_event.proofs.LogNameLemmas.{is_unbroken-append, name-again, name-only, name_not_text}
pub use Rattle.cadf_event.specs.Known.{IsNameText}
pub use Rattle.cadf_event.specs.LogName.{is_name_text, is_unbroken, name_of}
pub use Rattle.cadf_event.specs.Names.{is_name}
pub use Rattle.cadf_join.specs.Contents.{Text}
pub use Rattle.cadf_join.specs.laws.Sets.{false_from}
pub use Rattle.cadf_json.specs.Streams.{AppendsPrefix, counted, one_more}
pub use Rattle.cadf_linefile.specs.Answers.{Answers, FaultIs, PlacedIs, UnlessMemory}
pub use Rattle.cadf_linefile.specs.Cases.{IsFollowed, IsVerdict, VerdictIsOfCases, judged, lines_in}
pub use Rattle.cadf_linefile.specs.Fed.{Fed, Goes, HasFed, HasRead, IsRead, IsReading, IsSound, Takes, bytes_fed, fed, pending_bytes, zero_tail, zeros_after}
pub use Rattle.cadf_linefile.specs.Kinds.{EitherFiles, EitherIsChosen, IsOf, begins, either, grammar_for}
pub use Rattle.cadf_linefile.specs.LineGrammar.{LineGrammar, shape_unless}
pub use Rattle.cadf_linefile.specs.Lines.{Cut, cut_before, text_of_lines, with_line_feed}
unfoldable pub use Rattle.cadf_linefile.specs.Lines.{cut}
pub use Rattle.cadf_linefile.specs.ModelKind.{AcceptsModels, IsInjective, ModelKind, cause_of_end, file_of, grammar_of, model_or_fault, verdict_of}
pub use Rattle.cadf_linefile.specs.ModelReads.{AnswersModel, AreWhole, IsModelOfRead, ReadsModel}
pub use Rattle.cadf_linefile.specs.Numbers.{first_word, words_after}
unfoldable pub use Rattle.cadf_linefile.specs.Numbers.{number_in}
pub use Rattle.cadf_linefile.specs.Reads.{ReadsFile}
pub use Rattle.cadf_linefile.specs.Stage.{AreHashed, AreOpen, IsStage, refused_as}
pub use Rattle.cadf_linefile.specs.Verdict.{AcceptsLines, AreFile, at_line, begins_digest, body_fault, digest_fault, digest_line, fault_of, fault_or, fault_unless, first_fault, first_of, has_digest, log_in_line, log_line, through, through_digest, verdict_at_end, with_digest_line}
unfoldable pub use Rattle.cadf_linefile.specs.Verdict.{decided, later_fault, verdict}
pub use Rattle.cadf_linefile.specs.declared.fault.Cause.{Cause}
pub use Rattle.cadf_linefile.specs.declared.fault.FileFault.{FileFault}
pub use Rattle.cadf_linefile.specs.declared.fault.FileFault.TheVariants.{Digest, Line, LogLine, Memory, ReadFault, TooLarge, Trailing, Truncated, Version}
pub use Rattle.cadf_linefile.specs.declared.fault.LineFault.{LineFault}
pub use Rattle.cadf_linefile.specs.declared.stage.Stage.{Stage}
pub use Rattle.cadf_linefile.specs.declared.stage.Stage.TheVariants.{Done, First, Later, Refused, Second}
pub use Rattle.cadf_linefile.specs.laws.Prefixes.{front_after, front_more, none_written}
pub use Rattle.hex.specs.Hex.{encode_lower, lower_digits}
unfoldable pub use Rattle.hex.specs.Hex.{encode_with}
pub use Rattle.json.proofs.Printed.Strings.{content-escape}
pub use Rattle.json.specs.Print.{quoted}
pub use Rattle.json.specs.Text.{content, plain}
pub use Rattle.memchr.specs.Find.{IsFirstByte, is_byte}
pub use Rattle.sha2.specs.Hashers.{Holds256}
pub use Rattle.sha2.specs.Sha256.{sha256}
pub use Rattle.sha2.specs.declared.Sha256.{Sha256}
pub use Rattle.std.proofs.Common.{Bool, Err, List, None, Ok, Option, Result, Some, [], add-one, ap, append-nil, append_assoc, arith, cond, drop, drop-cons, eqb, false, get_or, inl, inr, length, length-append, length-drop, length-take, length-take-le, ltb, map, refl, replicate, subst, suc, sym, take, true, true≢false, zero, ℕ, ◌++◌, ◌+◌, ◌-◌, ◌<◌, ◌^◌, ◌∙◌, ◌∷◌, ◌≡◌, ◌≤◌, ◌⊎◌}
pub use Rattle.std.proofs.KnownBytes.{Appends-nil, Appends-trans, Consumes-nil, Consumes-trans}
pub use Rattle.std.proofs.Math.ListN.{drop_of_length-le}
pub use Rattle.std.proofs.Math.Nat.{min-le_left}
pub use Rattle.std.proofs.Math.Seq.{drop-append-add, take-append-add, take-append_seam}
pub use Rattle.std.proofs.lemmas.Bool.{lt-ltb, ltb-false, ltb-true}
pub use Rattle.std.proofs.lemmas.Bool.Decides.{nat_tests}
pub use Rattle.std.proofs.lemmas.Fmt.{IsAscii-decimal, decimal_nonempty, digits_decimal, digits_value-decimal, parse-decimal}
pub use Rattle.std.proofs.lemmas.Grind.{common_steps, flat_map-append}
pub use Rattle.std.proofs.lemmas.List.{drop_more, length-replicate, take-append-drop, take-append-le, take_all, take_rest}
pub use Rattle.std.proofs.lemmas.List.Folds.{list_any_at}
pub use Rattle.std.proofs.lemmas.List.Quantifiers.{position-Some}
pub use Rattle.std.proofs.lemmas.List.Sums.{passes_at_first, position_or_len_is, split_at_first}
pub use Rattle.std.proofs.lemmas.Result.{err_from_is_err_and}
pub use Rattle.std.proofs.lemmas.Slice.Eq.{bytes_eq-Decides}
pub use Rattle.std.proofs.lemmas.Str.{IsUtf8-from_ascii, is_utf8-from_IsUtf8}
pub use Rattle.std.proofs.lemmas.Str.Parse.{IsNumeralModel, numerals_by_value, tells_digits}
pub use Rattle.std.specs.Bool.{Decides, then_some}
pub use Rattle.std.specs.Int.{IsInRange}
pub use Rattle.std.specs.Io.KnownBytes.{Appends, Consumes, IsAtEnd}
pub use Rattle.std.specs.List.{list_all, list_any, position, position_or_len, starts_with}
pub use Rattle.std.specs.Prelude.{IfOk, OnErr, OnOk, codes, decimal, is_some, nat_eq, nat_lt, not, option_map, slice_index, ◌&&◌, ◌==◌, ◌||◌}
pub use Rattle.std.specs.Result.{result_ok}
pub use Rattle.std.specs.Str.{IsUtf8, bytes_eq}
pub use Rattle.std.specs.Str.Parse.{AllDigits, ParsesUnsigned, digits_value}
