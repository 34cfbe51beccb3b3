-- What the proofs of this crate take from outside. Written by tests/proofs/imports.py.
pub use Rattle.cadf_json.specs.Apart.{AreTaken, TookItems, a_fraction, emptied, emptied_at, emptied_in}
pub use Rattle.cadf_json.specs.Flat.{IsFlatValue, IsSettled, IsTextAt, ItemsStand, MembersStand, NumberStands, Stands, TextStands, decode, first_items, first_members, first_value, have_fraction, items_count, later_items, later_members, members_count, node_values, number_in, put_all, settled, settled_items, settled_members, size_of, text_at}
pub use Rattle.cadf_json.specs.Fronts.{AreBytes, IsFront, first_bytes}
pub use Rattle.cadf_json.specs.Laws.{BytesSpellValues, TextIsInjective}
pub use Rattle.cadf_json.specs.Number.{num_of}
pub use Rattle.cadf_json.specs.Parts.{is_object, items_in, joined, members_in, names_in, names_of, parts_in, to_list, values_of}
pub use Rattle.cadf_json.specs.Reading.{AreNamed, Copied, Entry, Grown, IsFirstMember, StandsAsRead, is_name_above, is_replaced, lasts, put_named}
pub use Rattle.cadf_json.specs.Rewritten.{all_members, is_one_of, limit_for, limits_of, replaced, texts_of, without}
pub use Rattle.cadf_json.specs.TokenUtf8.{HasUtf8, HaveUtf8}
pub use Rattle.cadf_json.specs.Value.{AreMembers, IsNoJson, IsNoText, IsNotCanonical, IsNotWhole, IsValue, IsWhole, IsWholeNumber, ItemsAreWhole, MembersAreWhole, Rises, RisesFrom, is_one_line, text}
pub use Rattle.cadf_json.specs.Walks.{AreItemsLeft, AreMembersLeft, members_at, paired}
pub use Rattle.cadf_json.specs.declared.node.Extent.{Extent}
pub use Rattle.cadf_json.specs.declared.node.Node.{Node}
pub use Rattle.cadf_json.specs.declared.node.Node.TheVariants.{Array, Bool as Truth, Fraction, Null, Object, Text, Whole}
pub use Rattle.cadf_json.specs.declared.node.Place.{Place}
pub use Rattle.cadf_json.specs.declared.order.Named.{Named}
pub use Rattle.cadf_json.specs.declared.value.JsonFault.TheVariants.{NotJson, NotWhole}
pub use Rattle.cadf_json.specs.declared.walk.FirstMember.{FirstMember}
pub use Rattle.fast_float.specs.Text.{Parts, nearest, with_sign}
pub use Rattle.json.proofs.Grammar.{items_end, items_fail, items_more, members_end, members_fail, members_more, members_no_key, read_key-shorter, value-begin_array, value-begin_object, value_is}
pub use Rattle.json.proofs.Nesting.{value-depth}
pub use Rattle.json.proofs.Printed.Decimals.{IsNumber-decimal, IsNumber-signed_decimal}
pub use Rattle.json.proofs.Printed.Strings.{escape_byte_plain}
pub use Rattle.json.proofs.Printed.Tokens.{tokens-print}
pub use Rattle.json.proofs.Printed.Trees.{ArePrintable-json_tokens, value-json_tokens}
pub use Rattle.json.proofs.Printed.Utf8.{IsUtf8-are_ascii, IsUtf8-boolean, IsUtf8-quoted}
pub use Rattle.json.specs.Json.{Json, Parse, after_end_array, if_last, items_step, members_step, parse_map, read_key, value_with}
unfoldable pub use Rattle.json.specs.Json.{items, members, value}
pub use Rattle.json.specs.Lex.{Class, Lexeme, Mode, after_comma, after_key, after_value, backslash, begins_colon, between, class, colon, comma, fresh, if_allowed, in_escape, in_string, in_word, lex_byte, operator, operator_lexeme, other, place_token, quote, space, string_token, token, tokens}
unfoldable pub use Rattle.json.specs.Lex.{lex, punctuate}
pub use Rattle.json.specs.Print.{IsNumber, escape, print, quoted}
unfoldable pub use Rattle.json.specs.Print.{escape_byte, print_from}
pub use Rattle.json.specs.Reads.{opens, token_of}
pub use Rattle.json.specs.Run.{is_plain, is_stop}
pub use Rattle.json.specs.Text.{Within, after_backslash, after_high, after_u, is_high_surrogate, is_low_surrogate, plain, prepend, surrogate_pair}
unfoldable pub use Rattle.json.specs.Text.{code_unit, content, short_escape}
pub use Rattle.json.specs.Token.{Token, bad}
pub use Rattle.json.specs.Tree.{json_tokens}
pub use Rattle.json.specs.Word.{after_number, head, literal, number_before}
unfoldable pub use Rattle.json.specs.Word.{word}
pub use Rattle.serde_json.proofs.Nesting.{depth-read}
pub use Rattle.serde_json.proofs.Numbers.{number_of-decimal, number_of-negative}
pub use Rattle.serde_json.proofs.Texts.{print-outline}
pub use Rattle.serde_json.proofs.Views.{get_member-put}
pub use Rattle.serde_json.specs.Data.{Data, Items, Members, Num, array, boolean, depth, float, item, items_depth, member, members_depth, negative, no_items, no_members, null, number, object, put, string, unsigned}
pub use Rattle.serde_json.specs.Find.{as_array, get, get_member, is_float}
pub use Rattle.serde_json.specs.Read.{converted, float_of, max_depth, number_from, of_items, of_json, of_members, read}
unfoldable pub use Rattle.serde_json.specs.Read.{number_of}
pub use Rattle.serde_json.specs.Written.{comma_if, compact_text, has_float, items_have_float, items_outline, items_text, members_have_float, members_outline, members_text, number_text, outline}
pub use Rattle.std.proofs.Common.{Bool, Equal, Err, Greater, IsUtf8, Less, List, None, Option, Ordering, Some, [], ap, append-nil, append_assoc, ap₂, arith, bytes_eq, cond, decimal, drop, eqb, eqb-true, false, get_or, if◌then◌else◌, inl, inr, is_some, le-leb, length, length-append, length-drop, length-take, ltb, ltb-true, map, max, nat_cmp, nat_le, nat_lt, negsuc, not, option_and_then, option_map, pos, refl, replicate, rules, set, slice_get, slice_index, slice_index_or, subst, suc, sym, take, take_all, true, true≢false, zero, ℕ, ◌%◌, ◌&&◌, ◌*◌, ◌++◌, ◌+◌, ◌-◌, ◌<◌, ◌==◌, ◌^◌, ◌||◌, ◌∙◌, ◌∷◌, ◌≡◌, ◌≤◌}
pub use Rattle.std.proofs.Math.Bool.{or-false}
pub use Rattle.std.proofs.Math.Nat.{add-mul, pow-succ'}
pub use Rattle.std.proofs.Math.Seq.{drop-append_seam, set-append_seam, take-append_seam}
pub use Rattle.std.proofs.lemmas.Bool.{and_parts, cases_eq, cases_lt, cond_both, eq-eqb, eqb-false, ltb-false, ne_eqb, or_parts}
pub use Rattle.std.proofs.lemmas.Bool.Decides.{nat_tests}
pub use Rattle.std.proofs.lemmas.Cmp.{nat_list_cmp_total}
pub use Rattle.std.proofs.lemmas.Fmt.{IsAscii-decimal, IsAscii-signed, decimal_is_IsNumeral}
pub use Rattle.std.proofs.lemmas.Grind.{common_steps}
pub use Rattle.std.proofs.lemmas.List.{at_drop_all, at_drop_more, drop-append-le, drop-take, drop_at, get_or_at, length-map, take-append-drop, take-append-le, take-take, take_at}
pub use Rattle.std.proofs.lemmas.List.Folds.{prefix_len-append}
pub use Rattle.std.proofs.lemmas.List.Sorted.{answers_always, ranks_by}
pub use Rattle.std.proofs.lemmas.List.Sums.{prefix_len-le-length}
pub use Rattle.std.proofs.lemmas.Map.Text.{is_eq-slice_cmp}
pub use Rattle.std.proofs.lemmas.Nat.{mul-le}
pub use Rattle.std.proofs.lemmas.Result.{on_ok_weaker}
pub use Rattle.std.proofs.lemmas.Simd.{chunk-drop, leading_from_mask_l, length-chunk, mask_l-mod, trailing_mask_l, zip2_splat}
pub use Rattle.std.proofs.lemmas.Slice.Eq.{bytes_eq-Decides}
pub use Rattle.std.proofs.lemmas.Str.{IsCharBoundary-after_ascii, IsCharBoundary-before_ascii, IsUtf8-append, IsUtf8-drop, IsUtf8-encode, IsUtf8-from_ascii, IsUtf8-nil, IsUtf8-take, encode_ascii}
pub use Rattle.std.specs.Char.{IsScalar, digit_value, encode_utf8, is_digit}
pub use Rattle.std.specs.Cmp.Lexicographic.{slice_cmp}
pub use Rattle.std.specs.Float.{binary64, float_is_finite}
pub use Rattle.std.specs.Io.KnownBytes.{Appends, Consumes}
pub use Rattle.std.specs.List.{AllByRecursion, filter, prefix_len}
pub use Rattle.std.specs.List.Sorted.{IsSortedBy, ties}
pub use Rattle.std.specs.Ordering.{eq_by_cmp, is_eq, is_lt, match_ordering, ordering_reverse, ordering_then}
pub use Rattle.std.specs.Prelude.{T, slice_range, ⊤}
pub use Rattle.std.specs.Str.Parse.{AllDigits}
pub use lib.Bits.{bit_or}
pub use lib.Count.{count_trailing_zeros}
pub use lib.Lanes.{chunk, mask_l, top, zip2}
pub use lib.Utf8.{low_scalar}
pub use native.Mathlib.Numerals.{unary_clauses}
