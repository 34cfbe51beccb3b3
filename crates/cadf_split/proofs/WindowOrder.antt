-- The order of windows: of names as of keys, and of keys as of instants.
use Rattle.cadf_split.proofs.Common.{common_steps, ◌≡◌, ℕ, ◌+◌, ◌/◌, ◌%◌, ◌≤◌, [], ◌∷◌, ◌++◌, codes, true, false, cond, sym, ap, ◌∙◌, arith, true≢false, ℤ, ◌≤ℤ◌, Ordering, Less, nat_cmp, ordering_then, ordering_reverse, is_gt, nat_list_cmp_total, ◌<ℤ◌, by_lt_z, signed_arith, two_digits, year_of, month_of, day_in_month, Text, text_cmp, is_text, then_more, Unit, Month, Day, Hour, day_number, hour_of, IsShownDay, numbers, month_text, window, window_name, name, shared_key}
use Rattle.cadf_split.proofs.LaterDates.{later_year, later_month, later_day, same_day, month_some}

-- ---- numbers by their parts

-- the order of two numbers is that of their tens, and then of what is left
tens : (a b : ℕ) → ordering_then (nat_cmp (48 + a / 10) (48 + b / 10)) (nat_cmp (48 + a % 10) (48 + b % 10)) ≡ nat_cmp a b
tens a b = grind (arith, common_steps)

two : (a b : ℕ) (xs ys : Text) → text_cmp (two_digits a ++ xs) (two_digits b ++ ys) ≡ ordering_then (nat_cmp a b) (text_cmp xs ys)
two a b xs ys =
    sym (then_more (nat_cmp (48 + a / 10) (48 + b / 10)) (nat_cmp (48 + a % 10) (48 + b % 10)) (text_cmp xs ys))
    ∙ ap (λ o. ordering_then o (text_cmp xs ys)) (tens a b)

-- ---- names

month_cmp : (c y m e v n : ℕ) (xs ys : Text) → text_cmp (month_text c y m ++ xs) (month_text e v n ++ ys)
    ≡ ordering_then (nat_cmp c e) (ordering_then (nat_cmp y v) (ordering_then (nat_cmp m n) (text_cmp xs ys)))
month_cmp c y m e v n xs ys =
    two c e (two_digits y ++ ((45 ∷ two_digits m) ++ xs)) (two_digits v ++ ((45 ∷ two_digits n) ++ ys))
    ∙ ap (ordering_then (nat_cmp c e)) (two y v ((45 ∷ two_digits m) ++ xs) ((45 ∷ two_digits n) ++ ys) ∙ ap (ordering_then (nat_cmp y v)) (two m n xs ys))

by_numbers : (unit : Unit) (y m d h v n k g : ℕ)
    → text_cmp (window_name unit (numbers unit y m d h)) (window_name unit (numbers unit v n k g)) ≡ text_cmp (numbers unit y m d h) (numbers unit v n k g)
by_numbers Month y m d h v n k g = month_cmp (y / 100) (y % 100) m (v / 100) (v % 100) n [] []
by_numbers Day y m d h v n k g =
    month_cmp (y / 100) (y % 100) m (v / 100) (v % 100) n (45 ∷ two_digits d) (45 ∷ two_digits k)
    ∙ ap (λ o. ordering_then (nat_cmp (y / 100) (v / 100)) (ordering_then (nat_cmp (y % 100) (v % 100)) (ordering_then (nat_cmp m n) o))) (two d k [] [])
by_numbers Hour y m d h v n k g =
    month_cmp (y / 100) (y % 100) m (v / 100) (v % 100) n (45 ∷ (two_digits d ++ (84 ∷ two_digits h))) (45 ∷ (two_digits k ++ (84 ∷ two_digits g)))
    ∙ ap (λ o. ordering_then (nat_cmp (y / 100) (v / 100)) (ordering_then (nat_cmp (y % 100) (v % 100)) (ordering_then (nat_cmp m n) o)))
    (two d k (84 ∷ two_digits h) (84 ∷ two_digits g) ∙ ap (ordering_then (nat_cmp d k)) (two h g [] []))

no_shared : (unit : Unit) (y m d h : ℕ) → 1 ≤ m → is_text (numbers unit y m d h) shared_key ≡ false
no_shared Month y m d h some = grind (arith, common_steps)
no_shared Day y m d h some = grind (arith, common_steps)
no_shared Hour y m d h some = grind (arith, common_steps)

own_name : (unit : Unit) (i : ℤ) → IsShownDay (day_number i) → name unit (window unit i) ≡ window_name unit (window unit i)
unfolding window
own_name unit i shown =
    ap (λ b. cond b (codes "shared") (window_name unit (window unit i)))
    (no_shared unit (year_of (day_number i)) (month_of (day_number i)) (day_in_month (day_number i)) (hour_of i) (month_some (day_number i) shown.0))

pub names_as_keys : (unit : Unit) (i j : ℤ) → IsShownDay (day_number i) → IsShownDay (day_number j)
    → text_cmp (name unit (window unit i)) (name unit (window unit j)) ≡ text_cmp (window unit i) (window unit j)
unfolding window
names_as_keys unit i j a b =
    (λ x. text_cmp (own_name unit i a x) (own_name unit j b x))
    ∙ by_numbers unit (year_of (day_number i)) (month_of (day_number i)) (day_in_month (day_number i)) (hour_of i)
    (year_of (day_number j)) (month_of (day_number j)) (day_in_month (day_number j)) (hour_of j)

-- ---- time

later_number : (i j : ℤ) → i ≤ℤ j → day_number i ≤ℤ day_number j
later_number i j le = omega (arith, signed_arith, le)

later_hour : (i j : ℤ) → i ≤ℤ j → day_number i ≡ day_number j → hour_of i ≤ hour_of j
later_hour i j le same = omega (arith, signed_arith, le, same)

ascends : (unit : Unit) (y m d h v n k g : ℕ) → y ≤ v → (y ≡ v → m ≤ n) → (y ≡ v → m ≡ n → d ≤ k) → (y ≡ v → m ≡ n → d ≡ k → h ≤ g)
    → is_gt (text_cmp (numbers unit y m d h) (numbers unit v n k g)) ≡ false
ascends Month y m d h v n k g year month day hour = grind (arith, common_steps)
ascends Day y m d h v n k g year month day hour = grind (arith, common_steps)
ascends Hour y m d h v n k g year month day hour = grind (arith, common_steps)

later_key : (unit : Unit) (i j : ℤ) → IsShownDay (day_number i) → i ≤ℤ j → is_gt (text_cmp (window unit i) (window unit j)) ≡ false
unfolding window
later_key unit i j shown le =
    let days = later_number i j le in
    ascends unit _ _ _ (hour_of i) _ _ _ (hour_of j) (later_year (day_number i) (day_number j) days) (later_month (day_number i) (day_number j) days)
    (later_day (day_number i) (day_number j) shown.0 days)
    (λ y m d. later_hour i j le (same_day (day_number i) (day_number j) shown.0 days y m d))

turned : (r s : Ordering) → r ≡ Less → r ≡ ordering_reverse s → is_gt s ≡ true
turned r s e f = grind (arith, common_steps)

pub earlier : (unit : Unit) (i j : ℤ) → IsShownDay (day_number i) → IsShownDay (day_number j)
    → text_cmp (name unit (window unit i)) (name unit (window unit j)) ≡ Less → i <ℤ j
earlier unit i j a b less = by_lt_z i j (λ lt. lt)
    (λ le. absurd (true≢false (sym (turned _ _ (sym (names_as_keys unit i j a b) ∙ less) (nat_list_cmp_total.antisymm (window unit i) (window unit j)))
    ∙ later_key unit j i b le)))
