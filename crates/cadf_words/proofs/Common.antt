-- What the proofs of this crate take from outside. Written by tests/proofs/imports.py.
pub use Rattle.cadf_words.specs.Synopsis.{AnswersError, HasKindOf, IsAsked, IsCommandLine, IsTold, MakesRequest, command_line, is_shown, rule_of_word, shape_of_command, unit_names}
pub use Rattle.cadf_words.specs.Table.{AreMatches, command_names, command_of, is_among, word_of}
pub use Rattle.cadf_words.specs.declared.reply.Reply.{Reply}
pub use Rattle.cadf_words.specs.declared.reply.Reply.TheVariants.{Help, Memory, Refused}
pub use Rattle.cadf_words.specs.declared.request.Request.{Request}
pub use Rattle.cadf_words.specs.declared.table.Kind.{Kind}
unfoldable pub use Rattle.clap.proofs.OnLiterals.{clap_on_literals}
pub use Rattle.clap.proofs.WalkLemmas.{first_value-rows, list_any-map, one_text-rows, raw_values-rows}
pub use Rattle.clap.specs.Facts.{explicit_source}
pub use Rattle.clap.specs.Faults.{built_fault, check_fault, defaults_fault, entered_fault, fault_of, is_simple_and_free, other_fault, settle_fault, turn_fault, word_fault}
unfoldable pub use Rattle.clap.specs.Faults.{walk_fault}
pub use Rattle.clap.specs.Kinds.{FailsBy, Kinds, check_kinds, or_else}
pub use Rattle.clap.specs.Lexer.{long_of, short_of}
pub use Rattle.clap.specs.Matches.{found_of, has_subcommand, subcommand_name_of}
pub use Rattle.clap.specs.Simple.{App, HasMatchesOf, Shape, app_of_fields, argument_words, built, entered, label_of, names_of, new_app, new_shape, on_top, rows_at, subcommand_of, subcommand_rows, with_rule, with_subcommand}
pub use Rattle.clap.specs.Takes.{is_given}
pub use Rattle.clap.specs.Values.{kind_of}
pub use Rattle.clap.specs.Walk.{Held, Outcome, Row, Rule, Step, Text, Waiting, Walk, after_flag, after_step, answers_to, arg_by_index, done, finished, idle, long_or_other, next, nothing_held, option, plain, plain_word, positional, refused, rows_of, settled, short_or_plain, stop_after, subcommand, subcommand_met, subcommand_or_other, texts, to_positional, trailing, value, waits, walk, walk_from, walked_from, word_met}
unfoldable pub use Rattle.clap.specs.Walk.{walked}
pub use Rattle.clap.specs.Words.{app_of}
pub use Rattle.clap.specs.declared.builder.command.Command.TheViews.{out-Command}
pub use Rattle.clap.specs.declared.builder.value_parser.ValueParser.{ValueParser}
pub use Rattle.clap.specs.declared.builder.value_parser.ValueParser.TheVariants.{Names}
pub use Rattle.clap.specs.declared.error.Error.{Error}
pub use Rattle.clap.specs.declared.error.kind.ErrorKind.{ErrorKind}
pub use Rattle.clap.specs.declared.error.kind.ErrorKind.TheVariants.{DisplayHelp, InvalidSubcommand, OutOfMemory}
pub use Rattle.clap.specs.declared.parser.matches.ArgMatches.{ArgMatches}
pub use Rattle.clap.specs.declared.parser.matches.ArgMatches.TheViews.{out-ArgMatches, out-SubCommand}
pub use Rattle.clap.specs.declared.parser.matches.SubCommand.{SubCommand}
pub use Rattle.std.proofs.Common.{Bool, Err, IfOk, List, MatchResult, None, Ok, Option, Result, Some, [], ap, append-nil, append_assoc, ap₂, codes, cond, false, inl, inr, is_some, length, map, not, option_map, refl, subst, sym, take, true, true≢false, ℕ, ◌&&◌, ◌++◌, ◌||◌, ◌∙◌, ◌∷◌, ◌≡◌, ◌≤◌, ◌⊎◌}
pub use Rattle.std.proofs.lemmas.List.{take_all}
pub use Rattle.std.proofs.lemmas.List.Sums.{fold_more}
pub use Rattle.std.proofs.lemmas.Slice.Eq.{bytes_eq-Decides}
pub use Rattle.std.specs.Borrow.{Bor}
pub use Rattle.std.specs.Box.{box_value}
pub use Rattle.std.specs.List.{find, fold, list_all, list_any}
pub use Rattle.std.specs.Option.{UnwrapsOrElse, option_map_or, unwrap_or}
pub use Rattle.std.specs.Prelude.{Box, IsErrAnd, IsSomeAnd}
pub use Rattle.std.specs.Str.{bytes_eq}
