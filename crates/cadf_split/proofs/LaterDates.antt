-- Later days have later dates.
use Rattle.cadf_split.proofs.Common.{common_steps, ◌≡◌, ℕ, zero, suc, ◌+◌, ◌≤◌, Bool, true, not, refl, sym, subst, ◌∙◌, arith, ℤ, pos, neg_ℤ, ◌-ℤ◌, ◌≤ℤ◌, int_lt, unsigned_abs, ints, days_from_civil, signed_arith, days_from_civil-day_count, last_passing, year_of, month_of, day_in_month}
use Rattle.cadf_split.proofs.CivilDates.{year_zero}

-- ---- the last that passes

last_within : (p : ℕ → Bool) (n : ℕ) → last_passing p n ≤ n
unfolding last_passing
last_within p zero = omega arith
last_within p (suc n) = let ih = last_within p n in grind (arith, common_steps)

more_pass : (p q : ℕ → Bool) (n : ℕ) → ((k : ℕ) → p k ≡ true → q k ≡ true) → last_passing p n ≤ last_passing q n
unfolding last_passing
more_pass p q zero h = omega arith
more_pass p q (suc n) h = let ih = more_pass p q n h in let low = last_within p n in let next = h (suc n) in grind (arith, common_steps)

last_passes : (p : ℕ → Bool) (n : ℕ) → 1 ≤ last_passing p n → p (last_passing p n) ≡ true
unfolding last_passing
last_passes p zero some = absurd (omega (arith, some))
last_passes p (suc n) some = let ih = last_passes p n in grind (arith, common_steps)

first_passes : (p : ℕ → Bool) (n : ℕ) → p 1 ≡ true → 1 ≤ last_passing p (suc n)
unfolding last_passing
first_passes p zero e = rw e (omega arith)
first_passes p (suc n) e = let ih = first_passes p n e in grind (arith, common_steps)

-- ---- years and months

at_most_true : (a b : ℤ) → b ≤ℤ a → not (int_lt a b) ≡ true
at_most_true a b h = grind (arith, ints)

true_at_most : (a b : ℤ) → not (int_lt a b) ≡ true → b ≤ℤ a
true_at_most a b h = grind (arith, ints)

still_begun : (x a b : ℤ) → a ≤ℤ b → not (int_lt a x) ≡ true → not (int_lt b x) ≡ true
still_begun x a b le h = at_most_true b x (omega (arith, signed_arith, le, true_at_most a x h))

pub later_year : (a b : ℤ) → a ≤ℤ b → year_of a ≤ year_of b
later_year a b le = more_pass _ _ 9999 (λ y. still_begun (days_from_civil (pos y) 1 1) a b le)

abbrev month_in : ℕ → ℤ → ℕ
month_in y day = last_passing (λ m. not (int_lt day (days_from_civil (pos y) m 1))) 12

pub later_month : (a b : ℤ) → a ≤ℤ b → year_of a ≡ year_of b → month_of a ≤ month_of b
later_month a b le same =
    subst (λ y. month_in y a ≤ month_of b) (sym same) (more_pass _ _ 12 (λ m. still_begun (days_from_civil (pos (year_of b)) m 1) a b le))

-- ---- a day of the years 0 to 9999

module _ (day : ℤ) (shown : neg_ℤ (pos 719_528) ≤ℤ day) where
  year_begun : days_from_civil (pos (year_of day)) 1 1 ≤ℤ day
  year_begun = by (year_of day) refl
    where
      by : (y : ℕ) → year_of day ≡ y → days_from_civil (pos y) 1 1 ≤ℤ day
      by zero e = omega (arith, signed_arith, shown, days_from_civil-day_count (pos 0) 1 1, year_zero)
      by (suc y) e =
          let passes = last_passes (λ k. not (int_lt day (days_from_civil (pos k) 1 1))) 9999 (subst (λ k. 1 ≤ k) (sym e) (omega arith)) in
          subst (λ k. days_from_civil (pos k) 1 1 ≤ℤ day) e (true_at_most day _ passes)

  pub month_some : 1 ≤ month_of day
  month_some = first_passes (λ m. not (int_lt day (days_from_civil (pos (year_of day)) m 1))) 11 (at_most_true day _ year_begun)

  pub month_begun : days_from_civil (pos (year_of day)) (month_of day) 1 ≤ℤ day
  month_begun = true_at_most day _ (last_passes (λ m. not (int_lt day (days_from_civil (pos (year_of day)) m 1))) 12 month_some)

distance : (s a b : ℤ) → s ≤ℤ a → a ≤ℤ b → unsigned_abs (a -ℤ s) + 1 ≤ unsigned_abs (b -ℤ s) + 1
distance s a b low le = grind (arith, common_steps, signed_arith)

no_distance : (s a b : ℤ) → s ≤ℤ a → a ≤ℤ b → unsigned_abs (a -ℤ s) + 1 ≡ unsigned_abs (b -ℤ s) + 1 → a ≡ b
no_distance s a b low le e = grind (arith, common_steps, signed_arith)

module _ (a b : ℤ) (shown : neg_ℤ (pos 719_528) ≤ℤ a) (le : a ≤ℤ b) (year : year_of a ≡ year_of b) (month : month_of a ≡ month_of b) where
  day_of_later : day_in_month b ≡ unsigned_abs (b -ℤ days_from_civil (pos (year_of a)) (month_of a) 1) + 1
  day_of_later = λ i. unsigned_abs (b -ℤ days_from_civil (pos (sym year i)) (sym month i) 1) + 1

  pub later_day : day_in_month a ≤ day_in_month b
  later_day = subst (λ n. day_in_month a ≤ n) (sym day_of_later) (distance _ a b (month_begun a shown) le)

  pub same_day : day_in_month a ≡ day_in_month b → a ≡ b
  same_day e = no_distance _ a b (month_begun a shown) le (e ∙ day_of_later)
