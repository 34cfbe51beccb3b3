-- The content of a string in a UTF-8 text is UTF-8.
use Rattle.cadf_json.proofs.Common.{common_steps, ◌≡◌, ℕ, ◌+◌, ◌*◌, ◌<◌, ◌&&◌, ◌||◌, ◌==◌, true, false, cond, nat_lt, List, [], ◌∷◌, ◌++◌, length, get_or, drop, Option, Some, None, IsUtf8, refl, sym, ap, ◌∙◌, subst, arith, append_assoc, append-nil, eqb-true, ltb-true, and_parts, cond_both, nat_tests, get_or_at, take_at, drop_at, length-append, IsUtf8-append, IsUtf8-encode, IsUtf8-take, IsUtf8-drop, encode_ascii, IsCharBoundary-before_ascii, IsCharBoundary-after_ascii, IsScalar, is_digit, digit_value, encode_utf8, low_scalar, code_unit, short_escape, is_high_surrogate, is_low_surrogate, surrogate_pair, Within, plain, after_backslash, after_u, after_high, prepend, content}
use Rattle.cadf_json.proofs.Given.{Given, Given-same, Given-map, Given-and_then}

-- ---- a UTF-8 text next to an ASCII byte

there : (pre : List ℕ) (x : ℕ) (xs : List ℕ) → length pre < length (pre ++ x ∷ xs)
there pre x xs = omega (arith, length-append pre (x ∷ xs))

at_byte : (pre : List ℕ) (x : ℕ) (xs : List ℕ) → get_or (pre ++ x ∷ xs) (length pre) 0 ≡ x
at_byte pre x xs = get_or_at pre x xs 0 (length pre) refl

before_ascii : (pre : List ℕ) (x : ℕ) (xs : List ℕ) → x < 128 → IsUtf8 (pre ++ x ∷ xs) → IsUtf8 pre
before_ascii pre x xs small u =
    subst IsUtf8 (take_at pre (x ∷ xs) (length pre) refl)
    (IsUtf8-take (pre ++ x ∷ xs) (length pre) u (IsCharBoundary-before_ascii (pre ++ x ∷ xs) (length pre) (there pre x xs) (omega (arith, at_byte pre x xs))))

rest_of : (pre : List ℕ) (x : ℕ) (xs : List ℕ) → drop (length pre + 1) (pre ++ x ∷ xs) ≡ xs
rest_of pre x xs =
    ap (drop (length pre + 1)) (sym (append_assoc pre (x ∷ []) xs)) ∙ drop_at (pre ++ x ∷ []) xs (length pre + 1) (length-append pre (x ∷ []))

pub behind_ascii : (pre : List ℕ) (x : ℕ) (xs : List ℕ) → x < 128 → IsUtf8 (pre ++ x ∷ xs) → IsUtf8 xs
behind_ascii pre x xs small u =
    subst IsUtf8 (rest_of pre x xs)
    (IsUtf8-drop (pre ++ x ∷ xs) (length pre + 1) u (IsCharBoundary-after_ascii (pre ++ x ∷ xs) (length pre) u (there pre x xs)
    (omega (arith, at_byte pre x xs))))

-- ---- escapes

ascii_digit : (a : ℕ) → is_digit a 16 ≡ true → a < 128
ascii_digit a h = grind (arith, nat_tests)

-- four hex digits are ASCII, and spell a code unit
record IsHex (a b c d u : ℕ) : Type 0 where
  pub first : a < 128
  pub second : b < 128
  pub third : c < 128
  pub fourth : d < 128
  pub fits : u < 65536

digit_below : (a : ℕ) → is_digit a 16 ≡ true → digit_value a < 16
digit_below a h = ltb-true (digit_value a) 16 h

spelled_unit : (a b c d : ℕ) → (is_digit a 16 && is_digit b 16 && is_digit c 16 && is_digit d 16) ≡ true
    → IsHex a b c d (digit_value a * 4096 + digit_value b * 256 + digit_value c * 16 + digit_value d)
spelled_unit a b c d h = grind (arith, common_steps, and_parts, ascii_digit, digit_below)

hex : (a b c d : ℕ) → Given (λ u. IsHex a b c d u) (code_unit a b c d)
unfolding code_unit
hex a b c d =
    cond_both (is_digit a 16 && is_digit b 16 && is_digit c 16 && is_digit d 16)
    (Some (digit_value a * 4096 + digit_value b * 256 + digit_value c * 16 + digit_value d)) None
    (Given (λ u. IsHex a b c d u)) (λ e. spelled_unit a b c d e) (λ e. tt)

-- what follows four hex digits
behind_hex : (a b c d u : ℕ) (xs : List ℕ) → IsHex a b c d u → IsUtf8 (a ∷ b ∷ c ∷ d ∷ xs) → IsUtf8 xs
behind_hex a b c d u xs h t =
    behind_ascii [] d xs h.fourth (behind_ascii [] c (d ∷ xs) h.third (behind_ascii [] b (c ∷ d ∷ xs) h.second (behind_ascii [] a (b ∷ c ∷ d ∷ xs) h.first t)))

-- a short escape and the character that it encodes are ASCII
record IsShort (x c : ℕ) : Type 0 where
  pub before : x < 128
  pub after : c < 128

-- the byte that is looked for, or else the next test
looked_for : (x n c : ℕ) (later : Option ℕ) → n < 128 → c < 128 → Given (λ d. IsShort x d) later → Given (λ d. IsShort x d) (cond (x == n) (Some c) later)
looked_for x n c later before after h = grind (arith, common_steps, cond_both, Given, eqb-true)

itself : (x : ℕ) → ((x == 34) || (x == 92) || (x == 47)) ≡ true → x < 128
itself x e = grind (arith, nat_tests)

short : (x : ℕ) → Given (λ c. IsShort x c) (short_escape x)
unfolding short_escape
short x = grind (arith, common_steps, cond_both, Given, itself, looked_for)

plain_unit : (u : ℕ) → u < 65536 → is_high_surrogate u ≡ false → is_low_surrogate u ≡ false → IsScalar u
plain_unit u fits high low = grind (arith, nat_tests)

paired : (high low : ℕ) → is_high_surrogate high ≡ true → is_low_surrogate low ≡ true → IsScalar (surrogate_pair high low)
paired high low h l = grind (arith, nat_tests)

-- ---- a character, and then the rest of the content

led : (front : List ℕ) (rest : Option (List ℕ)) → IsUtf8 front → Given IsUtf8 rest → Given IsUtf8 (prepend front rest)
led front rest u h = Given-map IsUtf8 IsUtf8 (λ s. front ++ s) (λ s k. IsUtf8-append front s u k) rest h

ascii_utf8 : (x : ℕ) → x < 128 → IsUtf8 (x ∷ [])
ascii_utf8 x small = subst IsUtf8 (encode_ascii x small) (IsUtf8-encode x (low_scalar x (omega arith)))

-- what is known of the content from xs on; within a character, `pre` is what precedes xs
abbrev IsText : Within → List ℕ → Type 0
IsText plain xs = (pre : List ℕ) → IsUtf8 (pre ++ xs) → Given (λ s. IsUtf8 (pre ++ s)) (content plain xs)
IsText after_backslash xs = IsUtf8 xs → Given IsUtf8 (content after_backslash xs)
IsText after_u xs = IsUtf8 xs → Given IsUtf8 (content after_u xs)
IsText (after_high h) xs = is_high_surrogate h ≡ true → IsUtf8 xs → Given IsUtf8 (content (after_high h) xs)

plain_byte : (pre : List ℕ) (x : ℕ) (xs : List ℕ) → IsText after_backslash xs → IsText plain xs → IsUtf8 (pre ++ x ∷ xs)
    → Given (λ s. IsUtf8 (pre ++ s)) (content plain (x ∷ xs))
unfolding content
plain_byte pre x xs escaped more u =
    cond_both (x == 34) (Some []) _ (Given (λ s. IsUtf8 (pre ++ s)))
    (λ e. subst IsUtf8 (sym (append-nil pre)) (before_ascii pre x xs (omega (arith, eqb-true x 34 e)) u))
    (λ _. cond_both (x == 92) (content after_backslash xs) _ (Given (λ s. IsUtf8 (pre ++ s)))
    (λ e.
    let small : x < 128 = omega (arith, eqb-true x 92 e) in
    Given-same IsUtf8 (λ s. IsUtf8 (pre ++ s)) (λ s k. IsUtf8-append pre s (before_ascii pre x xs small u) k) (content after_backslash xs)
    (escaped (behind_ascii pre x xs small u)))
    (λ _. cond_both (nat_lt x 32) None _ (Given (λ s. IsUtf8 (pre ++ s))) (λ _. tt)
    (λ _. Given-map (λ s. IsUtf8 ((pre ++ x ∷ []) ++ s)) (λ s. IsUtf8 (pre ++ s)) (λ s. (x ∷ []) ++ s) (λ s k. subst IsUtf8 (append_assoc pre (x ∷ []) s) k)
    (content plain xs) (more (pre ++ x ∷ []) (subst IsUtf8 (sym (append_assoc pre (x ∷ []) xs)) u)))))

escape_byte : (x : ℕ) (xs : List ℕ) → IsText after_u xs → IsText plain xs → IsUtf8 (x ∷ xs) → Given IsUtf8 (content after_backslash (x ∷ xs))
unfolding content
escape_byte x xs unit more u =
    cond_both (x == 117) (content after_u xs) _ (Given IsUtf8) (λ e. unit (behind_ascii [] x xs (omega (arith, eqb-true x 117 e)) u))
    (λ _. Given-and_then (λ c. IsShort x c) IsUtf8 (λ c. prepend (c ∷ []) (content plain xs))
    (λ c h. led (c ∷ []) (content plain xs) (ascii_utf8 c h.after) (more [] (behind_ascii [] x xs h.before u))) (short_escape x) (short x))

unit_bytes : (a b c d : ℕ) (xs : List ℕ) → ((high : ℕ) → IsText (after_high high) xs) → IsText plain xs → IsUtf8 (a ∷ b ∷ c ∷ d ∷ xs)
    → Given IsUtf8 (content after_u (a ∷ b ∷ c ∷ d ∷ xs))
unfolding content
unit_bytes a b c d xs second more u =
    Given-and_then (λ v. IsHex a b c d v) IsUtf8
    (λ v. cond (is_high_surrogate v) (content (after_high v) xs) (cond (is_low_surrogate v) None (prepend (encode_utf8 v) (content plain xs))))
    (λ v h.
    let rest = behind_hex a b c d v xs h u in
    cond_both (is_high_surrogate v) (content (after_high v) xs) _ (Given IsUtf8) (λ e. second v e rest)
    (λ e. cond_both (is_low_surrogate v) None _ (Given IsUtf8) (λ _. tt)
    (λ f. led (encode_utf8 v) (content plain xs) (IsUtf8-encode v (plain_unit v h.fits e f)) (more [] rest))))
    (code_unit a b c d) (hex a b c d)

pair_bytes : (high s t a b c d : ℕ) (xs : List ℕ) → IsText plain xs → is_high_surrogate high ≡ true → IsUtf8 (s ∷ t ∷ a ∷ b ∷ c ∷ d ∷ xs)
    → Given IsUtf8 (content (after_high high) (s ∷ t ∷ a ∷ b ∷ c ∷ d ∷ xs))
unfolding content
pair_bytes high s t a b c d xs more is u =
    cond_both ((s == 92) && (t == 117)) _ None (Given IsUtf8)
    (λ e.
    let both = and_parts (s == 92) (t == 117) e in
    let digits = behind_ascii [] t (a ∷ b ∷ c ∷ d ∷ xs) (omega (arith, eqb-true t 117 both.1))
    (behind_ascii [] s (t ∷ a ∷ b ∷ c ∷ d ∷ xs) (omega (arith, eqb-true s 92 both.0)) u) in
    Given-and_then (λ v. IsHex a b c d v) IsUtf8 (λ l. cond (is_low_surrogate l) (prepend (encode_utf8 (surrogate_pair high l)) (content plain xs)) None)
    (λ v h. cond_both (is_low_surrogate v) _ None (Given IsUtf8)
    (λ f. led (encode_utf8 (surrogate_pair high v)) (content plain xs) (IsUtf8-encode (surrogate_pair high v) (paired high v is f))
    (more [] (behind_hex a b c d v xs h digits))) (λ _. tt))
    (code_unit a b c d) (hex a b c d))
    (λ _. tt)

text_within : (w : Within) (xs : List ℕ) → IsText w xs
unfolding content
text_within plain [] = λ pre u. tt
text_within plain (x ∷ xs) = λ pre u. plain_byte pre x xs (text_within after_backslash xs) (text_within plain xs) u
text_within after_backslash [] = λ u. tt
text_within after_backslash (x ∷ xs) = λ u. escape_byte x xs (text_within after_u xs) (text_within plain xs) u
text_within after_u [] = λ u. tt
text_within after_u (a ∷ []) = λ u. tt
text_within after_u (a ∷ b ∷ []) = λ u. tt
text_within after_u (a ∷ b ∷ c ∷ []) = λ u. tt
text_within after_u (a ∷ b ∷ c ∷ d ∷ xs) = λ u. unit_bytes a b c d xs (λ high. text_within (after_high high) xs) (text_within plain xs) u
text_within (after_high h) [] = λ is u. tt
text_within (after_high h) (s ∷ []) = λ is u. tt
text_within (after_high h) (s ∷ t ∷ []) = λ is u. tt
text_within (after_high h) (s ∷ t ∷ a ∷ []) = λ is u. tt
text_within (after_high h) (s ∷ t ∷ a ∷ b ∷ []) = λ is u. tt
text_within (after_high h) (s ∷ t ∷ a ∷ b ∷ c ∷ []) = λ is u. tt
text_within (after_high h) (s ∷ t ∷ a ∷ b ∷ c ∷ d ∷ xs) = λ is u. pair_bytes h s t a b c d xs (text_within plain xs) is u

pub content_utf8 : (xs : List ℕ) → IsUtf8 xs → Given IsUtf8 (content plain xs)
content_utf8 xs u = text_within plain xs [] u
