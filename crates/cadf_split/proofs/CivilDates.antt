-- The civil date of a day number of the years 0 to 9999.
use Rattle.cadf_split.proofs.Common.{common_steps, ◌≡◌, ℕ, ◌^◌, ◌<◌, refl, arith, ℤ, pos, neg_ℤ, ◌≤ℤ◌, unsigned_abs, by_lt_z, days_from_civil, day_count, IsCivilDate, signed_arith, day_count-early, days_from_civil-day_count, day_count-lt_year, year_of_is, month_of_is, day_in_month_is, Unit, day_number, hour_of, IsShownDay, numbers, window}

pub year_zero : day_count (pos 0) 1 1 ≡ 3_652_425
year_zero = day_count-early (pos 0) 9999 1 1 refl (omega arith) (omega arith) (omega arith)

pub year_from : (y : ℤ) (m d : ℕ) → IsCivilDate y m d → neg_ℤ (pos 719_528) ≤ℤ days_from_civil y m d → pos 0 ≤ℤ y
year_from y m d h low = by_lt_z y (pos 0)
    (λ lt. absurd (omega (
      arith,
      signed_arith,
      low,
      days_from_civil-day_count y m d,
      day_count-lt_year y m d (pos 0) 1 1 h (omega arith) lt,
      year_zero,
    )))
    (λ le. le)

not_negative : (y : ℤ) → pos 0 ≤ℤ y → y ≡ pos (unsigned_abs y)
not_negative y h = grind (arith, common_steps)

pub window_is : (unit : Unit) (instant y : ℤ) (m d hour : ℕ) → IsCivilDate y m d → pos 0 ≤ℤ y → days_from_civil y m d ≡ day_number instant
    → hour ≡ hour_of instant → numbers unit (unsigned_abs y) m d hour ≡ window unit instant
unfolding window
window_is unit instant y m d hour h low day at = grind (arith, common_steps, unsigned_abs, not_negative, signed_arith, year_of_is, month_of_is, day_in_month_is)

pub small_day : (day : ℤ) → IsShownDay day → unsigned_abs day < 2 ^ 63
small_day day h = grind (arith, common_steps)
