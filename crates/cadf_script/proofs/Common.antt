-- What the proofs of this crate take from outside. Written by tests/proofs/imports.py.
pub use Rattle.cadf_event.proofs.BytesFaults.{no_bytes_fault_each}
pub use Rattle.cadf_event.specs.Parts.{EachPair}
pub use Rattle.cadf_join.specs.laws.Sets.{false_from}
pub use Rattle.cadf_rehearsal.specs.declared.turn.Turn.{Turn}
pub use Rattle.cadf_rehearsal.specs.declared.turn.Turn.TheVariants.{Answer as Answers, Ask as Asks, Deliver as Delivers, Learn as Learns, Send as Sends}
pub use Rattle.cadf_script.specs.Script.{AreTwo, AreWords, Command, IsDocumentOf, IsFirstBad, IsNoTurn, IsScript, IsScriptNumber, IsSiteAndText, IsTurn, command_of, put_into_first, word_of}
unfoldable pub use Rattle.cadf_script.specs.Script.{lines_of}
pub use Rattle.cadf_script.specs.Words.{IsCut, SpellsNoDocument, has_blank, is_plain_number}
pub use Rattle.cadf_script.specs.declared.line.Command.TheVariants.{Answer, Ask, Deliver, Learn, Send}
pub use Rattle.memchr.specs.Find.{IsFirstByte, is_byte}
pub use Rattle.std.proofs.Common.{Bool, List, None, Ok, Option, Result, Some, [], ap, append-nil, append_assoc, arith, cond, drop, eqb, false, get_or, inl, inr, length, length-append, length-drop, refl, rules, subst, suc, sym, take, true, true≢false, zero, ℕ, ◌++◌, ◌+◌, ◌-◌, ◌<◌, ◌∙◌, ◌∷◌, ◌≡◌, ◌≢◌, ◌≤◌}
pub use Rattle.std.proofs.lemmas.Bool.Decides.{nat_tests}
pub use Rattle.std.proofs.lemmas.Fmt.{IsAscii-decimal, decimal-digits_value, decimal_digit, decimal_nonempty, digits_decimal, first_decimal, length-decimal-le, parse-decimal}
pub use Rattle.std.proofs.lemmas.Grind.{common_steps}
pub use Rattle.std.proofs.lemmas.List.{drop-drop, drop_all, take_all}
pub use Rattle.std.proofs.lemmas.List.Sums.{passes_at_first, position_or_len_is, split_at_first}
pub use Rattle.std.proofs.lemmas.Str.{IsUtf8-from_ascii}
pub use Rattle.std.proofs.lemmas.Str.Parse.{IsNumeralModel, digit_at, digits_value_short, numerals_by_value, parse_plain, tells_digits}
pub use Rattle.std.specs.Int.{IsInRange}
pub use Rattle.std.specs.List.{position_or_len}
pub use Rattle.std.specs.Prelude.{IsUtf8, decimal, if◌then◌else◌, not, unwrap_or, ◌==◌, ◌^◌, ◌||◌}
pub use Rattle.std.specs.Result.{result_ok}
pub use Rattle.std.specs.Str.Parse.{AllDigits, ParsesUnsigned, digits_value}
