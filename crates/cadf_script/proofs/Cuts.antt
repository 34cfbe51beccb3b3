-- Words separated by a space: there is one way to split them at the first.
use Rattle.cadf_script.proofs.Common.{◌≡◌, ℕ, suc, ◌+◌, ◌<◌, ◌≤◌, List, [], ◌∷◌, ◌++◌, Bool, true, false, length, take, drop, get_or, cond, ◌-◌, length-drop, refl, sym, ap, ◌∙◌, subst, arith, true≢false, Option, Some, None, common_steps, IsFirstByte, is_byte, false_from, ◌==◌, ◌||◌, ◌^◌, decimal, not, unwrap_or, position_or_len, AllDigits, digits_value, IsInRange, IsNumeralModel, numerals_by_value, tells_digits, digits_decimal, take_all, split_at_first, passes_at_first, position_or_len_is, nat_tests, IsScriptNumber, AreTwo, IsSiteAndText, IsCut, has_blank}

pub own : IsNumeralModel (AllDigits 10) (digits_value 10)
own = numerals_by_value _ tells_digits

neither : (a b : Bool) → (a || b) ≡ false → (a ≡ false) × (b ≡ false)
neither true b e = absurd (true≢false e)
neither false b e = (refl, e)

module _ where
  no_blank_here : (y : ℕ) (c : List ℕ) → 32 ≡ y → has_blank (y ∷ c) ≡ false → ⊥
  no_blank_here y c e q = true≢false (sym (ap (λ x. (x == 32) || has_blank c) (sym e)) ∙ q)

  tail_of : (x y : ℕ) (a b : List ℕ) → x ∷ a ≡ y ∷ b → a ≡ b
  tail_of x y a b e = cc

  head_of : (x y : ℕ) (a b : List ℕ) → x ∷ a ≡ y ∷ b → x ≡ y
  head_of x y a b e = cc

  pub cut_unique : (a b c d : List ℕ) → has_blank a ≡ false → has_blank c ≡ false → a ++ 32 ∷ b ≡ c ++ 32 ∷ d → (a ≡ c) × (b ≡ d)
  cut_unique [] b [] d p q e = (refl, tail_of 32 32 b d e)
  cut_unique [] b (y ∷ c) d p q e = absurd (no_blank_here y c (head_of 32 y b (c ++ 32 ∷ d) e) q)
  cut_unique (x ∷ a) b [] d p q e = absurd (no_blank_here x a (sym (head_of x 32 (a ++ 32 ∷ b) d e)) p)
  cut_unique (x ∷ a) b (y ∷ c) d p q e =
      let rest = cut_unique a b c d (neither (x == 32) (has_blank a) p).1 (neither (y == 32) (has_blank c) q).1 (tail_of x y (a ++ 32 ∷ b) (c ++ 32 ∷ d) e) in
      ((λ i. head_of x y (a ++ 32 ∷ b) (c ++ 32 ∷ d) e i ∷ rest.0 i), rest.1)

  pub blank_in : (a b : List ℕ) → has_blank (a ++ 32 ∷ b) ≡ true
  blank_in [] b = refl
  blank_in (x ∷ a) b = either (x == 32) (has_blank (a ++ 32 ∷ b)) (blank_in a b)
    where
      either : (p q : Bool) → q ≡ true → (p || q) ≡ true
      either true q e = refl
      either false q e = e

  digits_unblank : (ds : List ℕ) → AllDigits 10 ds → has_blank ds ≡ false
  digits_unblank [] p = refl
  digits_unblank (x ∷ xs) p =
      let q = tells_digits.parts x xs p in
      both (x == 32) (has_blank xs) (no_blank_digit x q.0) (digits_unblank xs q.1)
    where
      no_blank_digit : (x : ℕ) → IsInRange 48 57 x → (x == 32) ≡ false
      no_blank_digit x r = grind arith

      both : (p q : Bool) → p ≡ false → q ≡ false → (p || q) ≡ false
      both p q e f = (λ i. e i || q) ∙ f

  pub decimal_unblank : (n : ℕ) → n < 10 ^ 9 → has_blank (decimal n) ≡ false
  decimal_unblank n small = digits_unblank (decimal n) (digits_decimal own n (omega (arith, small)))

-- ---- the first space

-- the place where a byte is found first, or the length
pub place_of : (mark : ℕ) (bytes : List ℕ) (found : Option ℕ) → IsFirstByte (is_byte mark) bytes found
    → unwrap_or found (length bytes) ≡ position_or_len (λ x. x == mark) bytes
place_of mark bytes None h =
    sym (position_or_len_is (λ x. x == mark) bytes (length bytes) 0 (omega arith) (λ k b. false_from _ (h k (omega arith) b)) (λ l. absurd (omega (arith, l))))
place_of mark bytes (Some i) h = grind (arith, common_steps, position_or_len_is)

pub place_within : (mark : ℕ) (bytes : List ℕ) (found : Option ℕ) → IsFirstByte (is_byte mark) bytes found → unwrap_or found (length bytes) ≤ length bytes
place_within mark bytes None h = omega arith
place_within mark bytes (Some i) h = omega (arith, h.0.high)

unblank_front : (xs : List ℕ) → has_blank (take (position_or_len (λ x. x == 32) xs) xs) ≡ false
unblank_front [] = refl
unblank_front (x ∷ xs) = by (x == 32) refl (unblank_front xs)
  where
    next : (n : ℕ) → 1 + n ≡ suc n
    next n = omega arith

    by : (b : Bool) → (x == 32) ≡ b → has_blank (take (position_or_len (λ x. x == 32) xs) xs) ≡ false
        → has_blank (take (cond (not b) (1 + position_or_len (λ x. x == 32) xs) 0) (x ∷ xs)) ≡ false
    by true e ih = refl
    by false e ih = ap (λ k. has_blank (take k (x ∷ xs))) (next (position_or_len (λ x. x == 32) xs))
        ∙ (λ i. e i || has_blank (take (position_or_len (λ x. x == 32) xs) xs)) ∙ ih

pub uncut_at : (bytes : List ℕ) (i : ℕ) → i ≡ position_or_len (λ x. x == 32) bytes → length bytes ≤ i → has_blank bytes ≡ false
uncut_at bytes i e past = ap has_blank (sym (take_all i bytes past)) ∙ ap (λ k. has_blank (take k bytes)) e ∙ unblank_front bytes

at_first : (xs : List ℕ) → position_or_len (λ x. x == 32) xs < length xs → xs ≡ take (position_or_len (λ x. x == 32) xs) xs ++ 32
    ∷ drop (position_or_len (λ x. x == 32) xs + 1) xs
at_first xs within =
    split_at_first (λ x. x == 32) xs 0 within
    ∙ ap (λ y. take (position_or_len (λ x. x == 32) xs) xs ++ y ∷ drop (position_or_len (λ x. x == 32) xs + 1) xs)
    (blank_is (get_or xs (position_or_len (λ x. x == 32) xs) 0) (passes_at_first (λ x. x == 32) xs 0 within))
  where
    blank_is : (x : ℕ) → (x == 32) ≡ true → x ≡ 32
    blank_is x e = grind (arith, nat_tests)

pub cut_at : (bytes : List ℕ) (i : ℕ) → i ≡ position_or_len (λ x. x == 32) bytes → i < length bytes
    → IsCut bytes (take i bytes) (take (length bytes - (i + 1)) (drop (i + 1) bytes))
cut_at bytes i e within = record {
  is = subst (λ k. bytes ≡ take k bytes ++ 32 ∷ drop (k + 1) bytes) (sym e) (at_first bytes (subst (λ k. k < length bytes) e within))
      ∙ ap (λ r. take i bytes ++ 32 ∷ r) (sym (take_all (length bytes - (i + 1)) (drop (i + 1) bytes) (short bytes i)));
  first = ap (λ k. has_blank (take k bytes)) e ∙ unblank_front bytes;
}
  where
    short : (xs : List ℕ) (i : ℕ) → length (drop (i + 1) xs) ≤ length xs - (i + 1)
    short xs i = omega (arith, length-drop (i + 1) xs)

-- ---- a number and the bytes after it

pub no_site_uncut : (words : List ℕ) → has_blank words ≡ false → (n : ℕ) (text : List ℕ) → ¬ IsSiteAndText words n text
no_site_uncut words none n text h = true≢false (sym (blank_in (decimal n) text) ∙ ap has_blank (sym h.1) ∙ none)

pub no_site_number : (words word rest : List ℕ) → IsCut words word rest → ((n : ℕ) → ¬ IsScriptNumber word n) → (n : ℕ) (text : List ℕ) → ¬ IsSiteAndText words n text
no_site_number words word rest cut none n text h =
    none n (h.0, (cut_unique word rest (decimal n) text cut.first (decimal_unblank n h.0) (sym cut.is ∙ h.1)).0)

-- ---- two numbers

pub no_two_first : (words word rest : List ℕ) → IsCut words word rest → ((n : ℕ) → ¬ IsScriptNumber word n) → (m n : ℕ) → ¬ AreTwo words m n
no_two_first words word rest cut none m n h = no_site_number words word rest cut none m (decimal n) (h.0, h.2)

pub no_two_second : (words word rest : List ℕ) → IsCut words word rest → ((n : ℕ) → ¬ IsScriptNumber rest n) → (m n : ℕ) → ¬ AreTwo words m n
no_two_second words word rest cut none m n h =
    none n (h.1, (cut_unique word rest (decimal m) (decimal n) cut.first (decimal_unblank m h.0) (sym cut.is ∙ h.2)).1)
