-- Numbers, the words that spell them, and words separated by spaces.
use Rattle.cadf_linefile.proofs.Common.{common_steps, ◌≡◌, ℕ, suc, ◌+◌, ◌<◌, List, [], ◌∷◌, ◌++◌, Bool, true, false, cond, length, take, drop, get_or, ◌≤◌, ◌⊎◌, inl, inr, Option, Some, None, Result, Ok, Err, refl, sym, ap, ◌∙◌, subst, arith, length-drop, ◌-◌, ◌^◌, ◌==◌, ◌&&◌, ◌||◌, not, decimal, nat_lt, IsInRange, position_or_len, list_any, AllDigits, digits_value, ParsesUnsigned, Decides, then_some, result_ok, bytes_eq, bytes_eq-Decides, IsNumeralModel, numerals_by_value, tells_digits, digits_decimal, digits_value-decimal, parse-decimal, IsAscii-decimal, decimal_nonempty, IsUtf8-from_ascii, ltb-true, lt-ltb, ltb-false, nat_tests, split_at_first, passes_at_first, position_or_len_is, drop_of_length-le, take-append_seam, drop-append-add, take_all, list_any_at, IsFirstByte, is_byte, false_from, number_in, first_word, words_after}
use Rattle.std.specs.Prelude.{IsUtf8}

pub own : IsNumeralModel (AllDigits 10) (digits_value 10)
own = numerals_by_value _ tells_digits

-- ---- one number

both : (a b : Bool) (n m : ℕ) → cond (a && b) (Some n) None ≡ Some m → (a ≡ true) × (b ≡ true) × (n ≡ m)
both a b n m e = grind (arith, common_steps)

pub number-only : (w : List ℕ) (n : ℕ) → number_in w ≡ Some n → (w ≡ decimal n) × (n < 2 ^ 64)
unfolding number_in
number-only w n e = grind (arith, common_steps, both, bytes_eq-Decides, ltb-true)

pub number-again : (n : ℕ) → n < 2 ^ 64 → number_in (decimal n) ≡ Some n
unfolding number_in
number-again n small = grind (arith, common_steps, digits_value-decimal, own, bytes_eq-Decides, lt-ltb)

-- a word that is not the spelling of a number of 64 bits, or is no text
pub number_none : (w : List ℕ) → ((n : ℕ) → n < 2 ^ 64 → w ≡ decimal n → ⊥) → number_in w ≡ None
number_none w none = by (number_in w) refl
  where
    by : (o : Option ℕ) → number_in w ≡ o → o ≡ None
    by None e = refl
    by (Some n) e = let p = number-only w n e in absurd (none n p.1 p.0)

pub number_not_text : (w : List ℕ) → ¬ IsUtf8 w → number_in w ≡ None
number_not_text w none = number_none w (λ n small e. none (subst IsUtf8 (sym e) (IsUtf8-from_ascii (decimal n) (IsAscii-decimal n small))))

module _ {E : Type 0} (w : List ℕ) (r : Result ℕ E) (parsed : ParsesUnsigned 64 10 w r) where
  parsed_is : (n : ℕ) → n < 2 ^ 64 → w ≡ decimal n → r ≡ Ok n
  parsed_is n small e = parse-decimal 64 n w r small small e parsed

  pub number_not_parsed : (e : E) → r ≡ Err e → number_in w ≡ None
  number_not_parsed e err = number_none w (λ n small is. let ok = parsed_is n small is in cc)

  pub number_not_plain : (m : ℕ) → r ≡ Ok m → (decimal m ≡ w → ⊥) → number_in w ≡ None
  number_not_plain m ok other = number_none w (λ n small is.
      let again = parsed_is n small is in
      let same : m ≡ n = cc in
      other (ap decimal same ∙ sym is))

  pub number_read : (m : ℕ) → m < 2 ^ 64 → Some m ≡ result_ok r → then_some (bytes_eq w (decimal m)) m ≡ number_in w
  number_read m small found = by (bytes_eq w (decimal m)) (bytes_eq-Decides w (decimal m))
    where
      ok : r ≡ Ok m
      ok = grind (arith, common_steps)

      by : (b : Bool) → Decides b (w ≡ decimal m) → then_some b m ≡ number_in w
      by true d = grind (arith, common_steps, number-again)
      by false d = grind (arith, common_steps, number_not_plain)

pub number_of_none : number_in [] ≡ None
number_of_none = number_none [] (λ n small e. never n (decimal_nonempty n small) (ap length e))
  where
    never : (n : ℕ) → 0 < length (decimal n) → 0 ≡ length (decimal n) → ⊥
    never n some none = omega (arith, some, none)

-- ---- the first word

abbrev pub has_blank : List ℕ → Bool
has_blank w = list_any (λ x. x == 32) w

neither_of : (p q : Bool) → p ≡ false → q ≡ false → (p || q) ≡ false
neither_of p q e f = (λ i. e i || q) ∙ f

digits_unblank : (ds : List ℕ) → AllDigits 10 ds → has_blank ds ≡ false
digits_unblank [] p = refl
digits_unblank (x ∷ xs) p =
    let q = tells_digits.parts x xs p in
    neither_of (x == 32) (has_blank xs) (no_blank x q.0) (digits_unblank xs q.1)
  where
    no_blank : (x : ℕ) → IsInRange 48 57 x → (x == 32) ≡ false
    no_blank x r = grind arith

pub decimal_unblank : (n : ℕ) → n < 2 ^ 64 → has_blank (decimal n) ≡ false
decimal_unblank n small = digits_unblank (decimal n) (digits_decimal own n small)

neither : (a b : Bool) → (a || b) ≡ false → (a ≡ false) × (b ≡ false)
neither a b e = grind (arith, common_steps)

blank_after : (w t : List ℕ) → has_blank w ≡ false → position_or_len (λ x. x == 32) (w ++ 32 ∷ t) ≡ length w
blank_after [] t h = refl
blank_after (x ∷ w) t h =
    let p = neither (x == 32) (has_blank w) h in
    ap (λ b. cond (not b) (1 + position_or_len (λ x. x == 32) (w ++ 32 ∷ t)) 0) p.0 ∙ ap (λ n. 1 + n) (blank_after w t p.1) ∙ omega arith

pub first_is : (w t : List ℕ) → has_blank w ≡ false → first_word (w ++ 32 ∷ t) ≡ w
first_is w t h = ap (λ n. take n (w ++ 32 ∷ t)) (blank_after w t h) ∙ take-append_seam w (32 ∷ t)

pub after_is : (w t : List ℕ) → has_blank w ≡ false → words_after (w ++ 32 ∷ t) ≡ t
after_is w t h = ap (λ n. drop (n + 1) (w ++ 32 ∷ t)) (blank_after w t h) ∙ drop-append-add w (32 ∷ t) 1

-- a text is its first word, a space and the words after it, or nothing follows its first word
pub cut_cases : (text : List ℕ) → (text ≡ first_word text ++ 32 ∷ words_after text) ⊎ (words_after text ≡ [])
cut_cases text = by (nat_lt at (length text)) refl
  where
    at : ℕ
    at = position_or_len (λ x. x == 32) text

    blank_is : (x : ℕ) → (x == 32) ≡ true → x ≡ 32
    blank_is x e = grind (arith, nat_tests)

    by : (b : Bool) → nat_lt at (length text) ≡ b → (text ≡ first_word text ++ 32 ∷ words_after text) ⊎ (words_after text ≡ [])
    by true e =
        let within : at < length text = ltb-true at (length text) e in
        inl
        (split_at_first (λ x. x == 32) text 0 within
        ∙ ap (λ y. take at text ++ y ∷ drop (at + 1) text) (blank_is (get_or text at 0) (passes_at_first (λ x. x == 32) text 0 within)))
    by false e = let past : length text ≤ at = ltb-false at (length text) e in inr (drop_of_length-le text (omega (arith, past)))

-- ---- the first space, as it is found

blank_at : (text : List ℕ) (k : ℕ) → IsFirstByte (is_byte 32) text (Some k) → position_or_len (λ x. x == 32) text ≡ k
blank_at text k h = grind (arith, common_steps, position_or_len_is)

pub cut_of : (text : List ℕ) (k : ℕ) → IsFirstByte (is_byte 32) text (Some k)
    → (take k text ≡ first_word text) × (take (length text - (k + 1)) (drop (k + 1) text) ≡ words_after text)
cut_of text k h = grind (arith, common_steps, blank_at, take_all, length-drop)

pub none_after : (text : List ℕ) → IsFirstByte (is_byte 32) text None → words_after text ≡ []
none_after text h =
    let e = position_or_len_is (λ x. x == 32) text (length text) 0 (omega arith) (λ k b. false_from _ (h k (omega arith) b)) (λ l. absurd (omega (arith, l))) in
    drop_of_length-le text (omega (arith, e))

pub blank_there : (text : List ℕ) (k : ℕ) → IsFirstByte (is_byte 32) text (Some k) → true ≡ has_blank text
blank_there text k h = sym (list_any_at (λ x. x == 32) text k 0 h.0.high h.1)

pub none_there : (text : List ℕ) → IsFirstByte (is_byte 32) text None → false ≡ has_blank text
none_there text h = sym (none_in text (λ k b. h k (omega arith) b))
  where
    none_in : (xs : List ℕ) → ((k : ℕ) → k < length xs → (get_or xs k 0 == 32) ≡ true → ⊥) → has_blank xs ≡ false
    none_in [] none = refl
    none_in (x ∷ xs) none =
        neither_of (x == 32) (has_blank xs) (false_from _ (none 0 (omega arith))) (none_in xs (λ k b. none (suc k) (omega (arith, b))))
