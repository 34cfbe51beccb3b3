-- What the proofs of this crate take from outside. Written by tests/proofs/imports.py.
pub use Rattle.cadf.specs.Asked.{IsAccepted, Reading, Word, asked_by, if_given, letter_of, name_of, number_in, number_of, texts, ◌>>=◌}
pub use Rattle.cadf.specs.Opened.{AreOpened, IsUnopened, OpenerState, and_asked, each_opened, unread}
pub use Rattle.cadf.specs.Run.{IsUnwrittenIfStarved}
pub use Rattle.cadf.specs.declared.stop.Stop.{Stop}
pub use Rattle.cadf.specs.declared.stop.Stop.TheVariants.{Tool}
pub use Rattle.cadf_arguments.specs.Arguments.{is_place, is_site_count, unit_named}
pub use Rattle.cadf_arguments.specs.declared.fault.ArgumentFault.TheVariants.{Cells, Key, Letter, LogName, Place, Salt, Sites, Unit as NoUnit}
pub use Rattle.cadf_atom.proofs.RulingTexts.{value_letter_is}
pub use Rattle.cadf_join.specs.Contents.{Text}
pub use Rattle.cadf_json.specs.Std.{std_inner}
pub use Rattle.cadf_line.specs.RulingTexts.{is_value_letter}
pub use Rattle.cadf_sketch.specs.Layouts.{are_cells, is_salt}
pub use Rattle.cadf_tool.specs.Inputs.{SourceState, source_state}
pub use Rattle.cadf_tool.specs.Request.{accepts, task}
pub use Rattle.cadf_tool.specs.declared.fault.ToolFault.{ToolFault}
pub use Rattle.cadf_tool.specs.declared.fault.ToolFault.TheVariants.{Memory, ReadFault}
pub use Rattle.cadf_tool.specs.declared.request.Request.{Request as Asked}
pub use Rattle.cadf_words.specs.Synopsis.{IsAsked, MakesRequest}
pub use Rattle.cadf_words.specs.declared.request.Request.{Request}
pub use Rattle.cadf_words.specs.declared.request.Request.TheVariants.{Check, Grew, Growth, Inventory, Join, Missing, MissingBy, MissingBySketch, Omit, Prove, Rehearse, Rule, Seal, Sealed, Show, Sketch, Split, Verify}
pub use Rattle.clap.specs.Walk.{Row}
pub use Rattle.std.proofs.Common.{Bool, Err, IfErr, IfOk, IsErrAnd, IsSomeAnd, List, MatchResult, None, Ok, Option, Result, Some, [], add-one, ap, append_assoc, arith, bytes_eq, drop, drop-cons, false, get_or, if◌then◌else◌, inl, inr, is_ok, length, ltb, map, nat_le, nat_lt, ok_or, option_map, refl, rules, subst, suc, sym, take, take-suc, true, true≢false, zero, ℕ, ◌&&◌, ◌++◌, ◌+◌, ◌<◌, ◌∙◌, ◌∷◌, ◌≡◌, ◌≢◌, ◌≤◌}
pub use Rattle.std.proofs.lemmas.Bool.{and_from, and_parts, le-leb, leb-true, lt-ltb, ltb-false, ltb-true}
pub use Rattle.std.proofs.lemmas.Fmt.{decimal-digits_value, decimal_digit, first_decimal, parse-decimal}
pub use Rattle.std.proofs.lemmas.List.{length-append, length-map, map-append, take-append-drop}
pub use Rattle.std.proofs.lemmas.Result.{err_from_is_err_and}
pub use Rattle.std.proofs.lemmas.Slice.Eq.{bytes_eq-Decides}
pub use Rattle.std.proofs.lemmas.Str.{encode_ascii, encode_same}
pub use Rattle.std.proofs.lemmas.Str.Parse.{IsNumeralModel, numerals_by_value, parse_plain, tells_digits}
pub use Rattle.std.specs.Borrow.{Bor}
pub use Rattle.std.specs.Char.{IsScalar}
pub use Rattle.std.specs.Io.Buffered.{writer_contents}
pub use Rattle.std.specs.Io.KnownBytes.{Keeps}
pub use Rattle.std.specs.Prelude.{decimal, encode_utf8, ◌^◌}
pub use Rattle.std.specs.Result.{result_map_both, result_ok}
pub use Rattle.std.specs.Str.Parse.{AllDigits, ParsesUnsigned, digits_value}
