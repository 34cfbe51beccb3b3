-- What the proofs of this crate take from outside. Written by tests/proofs/imports.py.
pub use Rattle.cadf_time.specs.Reading.{after_mark, at_end, skip_colon, two_at}
unfoldable pub use Rattle.cadf_time.specs.Reading.{clock_at, date_at, digits_at, four_at, fraction_at, shift_at, written_at, zone_at}
pub use Rattle.cadf_time.specs.Time.{Fits, HasShape, IsDateOf, IsInCalendar, IsOffset, IsOnClock, SpellsTime, Written, ZoneFits, clock_nanos, clock_text, date_text, day_in_month, four_digits, fraction_text, instant_of, month_of, nanos_of_day, nanos_of_minute, offset_of, spelling, two_digits, year_of, zone_of, zone_text}
unfoldable pub use Rattle.cadf_time.specs.Time.{billionths, digits_of, last_passing, local_nanos, shown, stamp}
pub use Rattle.cadf_time.specs.WrittenView.{written_view}
pub use Rattle.cadf_time.specs.declared.time.Zone.{Zone}
pub use Rattle.cadf_time.specs.declared.time.Zone.TheVariants.{Shifted, Utc}
pub use Rattle.jiff.specs.Words.{signed}
pub use Rattle.jiff_core.proofs.CalendarLemmas.{day_count-day, day_count-day_of_year, day_count-lt_month, day_count-lt_year, days_from_civil-day_count}
pub use Rattle.jiff_core.proofs.SignedLemmas.{back_small, one_part, signed_arith}
pub use Rattle.jiff_core.specs.Calendar.{IsBetween, IsCivilDate, days_from_civil}
pub use Rattle.std.proofs.Common.{Bool, FitsSigned, List, None, Some, [], ap, append_assoc, arith, cond, drop, eqb, false, get_or, inl, inr, int_lt, length, neg_ℤ, negsuc, not, of_z, pos, refl, rules, string_bytes, subst, suc, sym, take, to_z, true, unsigned_abs, w16, w32, zero, ℕ, ℤ, ◌%◌, ◌*ℤ◌, ◌*◌, ◌++◌, ◌+ℤ◌, ◌+◌, ◌-ℤ◌, ◌-◌, ◌/◌, ◌<ℤ◌, ◌<◌, ◌^◌, ◌∙◌, ◌∷◌, ◌≡◌, ◌≢◌, ◌≤ℤ◌, ◌≤◌, ◌⊎◌}
pub use Rattle.std.proofs.Math.Nat.{one-le-pow, pow-suc}
pub use Rattle.std.proofs.lemmas.Bool.{and_parts, cases_lt}
pub use Rattle.std.proofs.lemmas.Bool.Decides.{nat_tests}
pub use Rattle.std.proofs.lemmas.Grind.{common_steps}
pub use Rattle.std.proofs.lemmas.Int.{ints, to_z-of_z, to_z_pos}
pub use Rattle.std.proofs.lemmas.List.{append-nil, drop_all, drop_more, length-take-le, take-append-drop}
pub use Rattle.std.proofs.lemmas.List.Sums.{prefix_len-le-length, prefix_len_is}
pub use Rattle.std.proofs.lemmas.Nat.{div-add-mod', div_below, mod_below, mul-le}
pub use Rattle.std.proofs.lemmas.Option.{cond_some, option_and_then_some}
pub use Rattle.std.specs.Char.{is_ascii_digit}
pub use Rattle.std.specs.Int.{IsInRange, Width, int_div_euclid, int_rem_euclid, w128}
pub use Rattle.std.specs.List.{list_all, prefix_len}
pub use mir.Val.{hbits}
