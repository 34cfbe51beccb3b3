-- A number's word: its digits, and nothing else.
use Rattle.cadf_script.proofs.Common.{◌≡◌, ◌≢◌, ℕ, zero, suc, ◌<◌, ◌≤◌, List, [], ◌∷◌, true, false, length, get_or, Result, Ok, Some, None, sym, ap, ◌∙◌, subst, arith, true≢false, ◌^◌, decimal, IsUtf8, ParsesUnsigned, IsInRange, result_ok, digit_at, parse_plain, digits_value_short, digits_decimal, decimal-digits_value, parse-decimal, length-decimal-le, decimal_nonempty, first_decimal, decimal_digit, IsAscii-decimal, IsUtf8-from_ascii, IsScriptNumber, is_plain_number}
use Rattle.cadf_script.proofs.Cuts.{own}

pub record IsPlain (w : List ℕ) : Type 0 where
  pub some : 0 < length w
  pub short : length w ≤ 9
  pub unsigned : get_or w 0 0 ≢ 43
  pub zero : get_or w 0 0 ≡ 48 → length w ≡ 1

pub plain_facts : (w : List ℕ) → is_plain_number w ≡ true → IsPlain w
plain_facts [] h = absurd (true≢false (sym h))
plain_facts (x ∷ xs) h = record {
  some = omega arith;
  short = grind (arith, h);
  unsigned = grind (arith, h);
  zero = grind (arith, h);
}

plain_from : (w : List ℕ) → IsPlain w → is_plain_number w ≡ true
plain_from [] p = absurd (never p.some)
  where
    never : 0 < 0 → ⊥
    never h = omega (arith, h)
plain_from (x ∷ xs) p = grind (arith, p.short, p.unsigned, p.zero)

decimal_plain : (n : ℕ) → n < 10 ^ 9 → IsPlain (decimal n)
decimal_plain n small =
    let digits = digits_decimal own n (omega (arith, small)) in
    let some = decimal_nonempty n (omega (arith, small)) in
    record {
      some = some;
      short = length-decimal-le 9 n (omega arith) small (omega (arith, small));
      unsigned = above (get_or (decimal n) 0 0) (digit_at (decimal n) 0 digits some);
      zero = alone n small;
    }
  where
    above : (x : ℕ) → IsInRange 48 57 x → x ≢ 43
    above x r = grind arith

    alone : (n : ℕ) → n < 10 ^ 9 → get_or (decimal n) 0 0 ≡ 48 → length (decimal n) ≡ 1
    alone zero small e = ap length (decimal_digit 0 (omega arith))
    alone (suc n) small e = absurd (apart (get_or (decimal (suc n)) 0 0) (first_decimal (suc n) (omega arith) (omega (arith, small))) e)
      where
        apart : (x : ℕ) → 48 < x → x ≡ 48 → ⊥
        apart x h e = omega (arith, h, e)

pub not_plain : (w : List ℕ) → is_plain_number w ≡ false → (n : ℕ) → ¬ IsScriptNumber w n
not_plain w none n h = true≢false (sym (plain_from (decimal n) (decimal_plain n h.0)) ∙ ap is_plain_number (sym h.1) ∙ none)

pub not_text : (w : List ℕ) → ¬ IsUtf8 w → (n : ℕ) → ¬ IsScriptNumber w n
not_text w none n h = none (subst IsUtf8 (sym h.1) (IsUtf8-from_ascii (decimal n) (IsAscii-decimal n (omega (arith, h.0)))))

pub is_number : {E : Type 0} (w : List ℕ) (r : Result ℕ E) (n : ℕ) → r ≡ Ok n → is_plain_number w ≡ true → ParsesUnsigned 32 10 w r → IsScriptNumber w n
is_number {E} w r n e plain parsed =
    let p = plain_facts w plain in
    let ok = parse_plain own {E = E} 32 w (Ok n) (subst (ParsesUnsigned {E = E} 32 10 w) e parsed) p.unsigned in
    let value = digits_value_short own w 9 ok.0.0 p.short in (
      subst (λ v. v < 10 ^ 9) (sym ok.1) value,
      sym (decimal-digits_value own w ok.0.0 p.some p.zero (omega (arith, value))) ∙ ap decimal (sym ok.1),
    )

pub not_number : {E : Type 0} (w : List ℕ) (r : Result ℕ E) → None ≡ result_ok r → ParsesUnsigned 32 10 w r → (n : ℕ) → ¬ IsScriptNumber w n
not_number {E} w r failed parsed n h = never (failed ∙ ap result_ok (parse-decimal 32 n w r (omega (arith, h.0)) (omega (arith, h.0)) h.1 parsed))
  where
    never : None ≡ Some n → ⊥
    never e = cc
