-- Words of a command line that are numbers and letters.
use Rattle.cadf.proofs.Common.{◌≡◌, ◌≢◌, ℕ, zero, suc, ◌<◌, ◌≤◌, Bool, true, false, ◌&&◌, if◌then◌else◌, nat_le, nat_lt, ltb, List, [], ◌∷◌, ◌++◌, get_or, Some, None, Result, Ok, Err, is_ok, IfOk, IfErr, refl, sym, ap, ◌∙◌, arith, true≢false, bytes_eq, ◌^◌, decimal, encode_utf8, result_ok, IsScalar, AllDigits, digits_value, ParsesUnsigned, and_parts, and_from, leb-true, ltb-true, ltb-false, le-leb, lt-ltb, encode_ascii, encode_same, IsNumeralModel, numerals_by_value, tells_digits, parse_plain, decimal-digits_value, parse-decimal, first_decimal, decimal_digit, bytes_eq-Decides, Letter, Text, is_value_letter, value_letter_is, Reading, letter_of, number_in}

own : IsNumeralModel (AllDigits 10) (digits_value 10)
own = numerals_by_value _ tells_digits

-- ---- numbers

-- what a word has that is a number
record Is (w : List ℕ) (n : ℕ) : Type 0 where
  some : 0 < n
  small : n < 2 ^ 64
  digits : w ≡ decimal n

none_if : (b : Bool) (n : ℕ) → (b ≡ true → ⊥) → (if b then Some n else None) ≡ None
none_if true n h = absurd (h refl)
none_if false n h = refl

some_if : (b : Bool) (m n : ℕ) → b ≡ true → m ≡ n → (if b then Some m else None) ≡ Some n
some_if true m n h e = ap Some e
some_if false m n h e = absurd (true≢false (sym h))

parts : (w : List ℕ) (n : ℕ) → (nat_le 1 n && nat_lt n (2 ^ 64) && bytes_eq w (decimal n)) ≡ true → Is w n
parts w n h =
    let p = and_parts (nat_le 1 n && nat_lt n (2 ^ 64)) _ h in
    let q = and_parts (nat_le 1 n) (nat_lt n (2 ^ 64)) p.0 in
    record { some = leb-true 1 n q.0; small = ltb-true n (2 ^ 64) q.1; digits = (bytes_eq-Decides w (decimal n)).0 p.1 }

whole : (w : List ℕ) (n : ℕ) → Is w n → (nat_le 1 n && nat_lt n (2 ^ 64) && bytes_eq w (decimal n)) ≡ true
whole w n is = and_from _ _ (and_from _ _ (le-leb 1 n is.some) (lt-ltb n (2 ^ 64) is.small)) ((bytes_eq-Decides w (decimal n)).1 is.digits)

pub not_plain : (w : List ℕ) → ltb 48 (get_or w 0 0) ≡ false → number_in w ≡ None
not_plain w low = none_if _ _ (λ h. let is = parts w (digits_value 10 w) h in
    omega (arith, ltb-false 48 _ low, first_decimal _ is.some is.small, ap (λ (d : List ℕ). get_or d 0 0) is.digits))

-- 0 is the digit 0
positive : (n : ℕ) (w : List ℕ) → decimal n ≡ w → 48 < get_or w 0 0 → 1 ≤ n
positive zero w is plain = absurd (omega (arith, ap (λ (d : List ℕ). get_or d 0 0) (sym is ∙ decimal_digit 0 (omega arith))))
positive (suc n) w is plain = omega arith

pub number_parsed : {E : Type 0} (w : List ℕ) (r : Result ℕ E) → ltb 48 (get_or w 0 0) ≡ true → ParsesUnsigned 64 10 w r → result_ok r ≡ number_in w
number_parsed {E} w (Ok n) above parsed =
    let plain : 48 < get_or w 0 0 = ltb-true 48 _ above in
    let ok = parse_plain own {E = E} 64 w (Ok n) parsed (omega arith) in
    let is : decimal n ≡ w = ap decimal ok.1 ∙ decimal-digits_value own w ok.0.0 ok.0.1 (λ z. absurd (omega arith)) ok.0.2 in
    sym (some_if _ _ n (whole w _ (record { some = omega (arith, positive n w is plain, ok.1); small = ok.0.2; digits = sym (sym (ap decimal ok.1) ∙ is) })) (sym ok.1))
number_parsed {E} w (Err e) above parsed = sym (none_if _ _ (λ h. let is = parts w (digits_value 10 w) h in
    let other : ◌≡◌ {A = Result ℕ E} (Err e) (Ok (digits_value 10 w)) = parse-decimal 64 _ w (Err e) is.small is.small is.digits parsed in absurd (cc)))

-- ---- letters

-- a property of the five letters that values have, each of one byte, is a property of each text that is one
of_letters : (P : Text → Type 0) → ((c : ℕ) → IsScalar c → c < 128 → P (c ∷ [])) → (w : Text) → is_value_letter w ≡ true → P w
of_letters P h = value_letter_is P (h 80 refl (omega arith)) (h 82 refl (omega arith)) (h 71 refl (omega arith)) (h 77 refl (omega arith)) (h 69 refl (omega arith))

letter_byte : (c : ℕ) → is_value_letter (encode_utf8 c) ≡ true → get_or (encode_utf8 c) 0 0 ≡ c
letter_byte c h = of_letters (λ text. text ≡ encode_utf8 c → get_or text 0 0 ≡ c)
    (λ d _ small is. (encode_same d c [] [] (ap (λ (t : List ℕ). t ++ []) (encode_ascii d small ∙ is))).0) (encode_utf8 c) h refl

if_true : {A : Type 0} (b : Bool) (x y z : A) → b ≡ true → x ≡ y → x ≡ (if b then y else z)
if_true true x y z h e = e
if_true false x y z h e = absurd (true≢false (sym h))

if_false : {A : Type 0} (b : Bool) (x y z : A) → b ≡ false → x ≡ z → x ≡ (if b then y else z)
if_false true x y z h e = absurd (true≢false h)
if_false false x y z h e = e

-- a character is read as a letter, if values have it
pub letter_read : (c : ℕ) (w : Text) (r : Reading ℕ) → w ≡ encode_utf8 c → is_ok r ≡ is_value_letter (encode_utf8 c)
    → IfOk r (λ d. d ≡ c) → IfErr r (λ f. f ≡ Letter) → r ≡ letter_of w
letter_read c w (Ok d) is accepts ok err = if_true _ _ _ _ (ap is_value_letter is ∙ sym accepts)
    (ap Ok (ok ∙ sym (letter_byte c (sym accepts)) ∙ ap (λ (t : List ℕ). get_or t 0 0) (sym is)))
letter_read c w (Err f) is accepts ok err = if_false _ _ _ _ (ap is_value_letter is ∙ sym accepts) (ap Err err)

refuted : (b : Bool) → (b ≡ true → ⊥) → b ≡ false
refuted true h = absurd (h refl)
refuted false h = refl

-- a text that is no character is no letter
pub no_letter : (w : Text) → ((c : ℕ) → IsScalar c → w ≢ encode_utf8 c) → Err Letter ≡ letter_of w
no_letter w none = if_false _ _ _ _ (refuted _ (λ h. of_letters (λ text. text ≡ w → ⊥)
    (λ c scalar small is. none c scalar (sym is ∙ sym (encode_ascii c small))) w h refl)) refl
