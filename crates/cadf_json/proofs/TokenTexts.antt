-- The tokens of a UTF-8 text have UTF-8 texts.
use Rattle.cadf_json.proofs.Common.{common_steps, ℕ, ◌<◌, ◌==◌, Bool, true, false, List, [], ◌∷◌, ◌++◌, Option, IsUtf8, sym, subst, arith, append_assoc, eqb-true, ⊤, AllByRecursion, cond_both, Token, bad, content, plain, head, word, number_before, after_number, literal, Lexeme, token, comma, colon, Class, quote, backslash, operator, space, other, class, operator_lexeme, string_token, Mode, between, in_word, in_string, in_escape, lex_byte, lex, fresh, after_value, after_comma, after_key, begins_colon, if_allowed, place_token, punctuate, tokens, HasUtf8, HaveUtf8}
use Rattle.json.specs.Token.{boolean, null}
use Rattle.json.specs.Lex.{Place}
use Rattle.json.specs.Ascii as ascii
use Rattle.cadf_json.proofs.Given.{Given}
use Rattle.cadf_json.proofs.StringContent.{behind_ascii, content_utf8}

-- ---- lexemes

abbrev LexemeHasUtf8 : Lexeme → Type 0
LexemeHasUtf8 (token t) = HasUtf8 t
LexemeHasUtf8 comma = ⊤
LexemeHasUtf8 colon = ⊤

abbrev LexemesHaveUtf8 : List Lexeme → Type 0
LexemesHaveUtf8 ls = AllByRecursion LexemeHasUtf8 ls

of_string : (o : Option (List ℕ)) → Given IsUtf8 o → HasUtf8 (string_token o)
of_string o h = grind (arith, common_steps)

of_operator : (x : ℕ) → LexemeHasUtf8 (operator_lexeme x)
of_operator x = grind (arith, common_steps, cond_both)

of_number : (t : List ℕ) (o : Option (List ℕ)) → HasUtf8 (number_before t o)
of_number t o = grind (arith, common_steps, cond_both)

of_literal : (name : List ℕ) (t : Token) (xs : List ℕ) → HasUtf8 t → HasUtf8 (literal name t xs)
of_literal name t xs h = cond_both _ t bad HasUtf8 (λ _. h) (λ _. tt)

of_word : (t : List ℕ) → HasUtf8 (word t)
unfolding word
of_word t =
    cond_both (head t == ascii.lower_t) _ _ HasUtf8 (λ _. of_literal ascii.true_text (boolean true) t tt)
    (λ _. cond_both (head t == ascii.lower_f) _ _ HasUtf8 (λ _. of_literal ascii.false_text (boolean false) t tt)
    (λ _. cond_both (head t == ascii.lower_n) _ _ HasUtf8 (λ _. of_literal ascii.null_text null t tt) (λ _. of_number t (after_number t))))

-- a quote is ASCII
abbrev IsAsciiQuote : ℕ → Class → Type 0
IsAsciiQuote x quote = x < 128
IsAsciiQuote x backslash = ⊤
IsAsciiQuote x operator = ⊤
IsAsciiQuote x space = ⊤
IsAsciiQuote x other = ⊤

ascii_quote : (x : ℕ) → IsAsciiQuote x (class x)
ascii_quote x = grind (arith, common_steps, cond_both, eqb-true)

-- xs ends a UTF-8 text
abbrev IsEnd : List ℕ → Type 0
IsEnd xs = (pre : List ℕ) × IsUtf8 (pre ++ xs)

further : (x : ℕ) (xs : List ℕ) → IsEnd (x ∷ xs) → IsEnd xs
further x xs t = (t.0 ++ x ∷ [], subst IsUtf8 (sym (append_assoc t.0 (x ∷ []) xs)) t.1)

of_byte : (m : Mode) (c : Class) (x : ℕ) (xs : List ℕ) (k : Mode → List Lexeme) → IsAsciiQuote x c → IsEnd (x ∷ xs) → ((next : Mode) → LexemesHaveUtf8 (k next))
    → LexemesHaveUtf8 (lex_byte m c x xs k)
of_byte between quote x xs k small t later = (of_string (content plain xs) (content_utf8 xs (behind_ascii t.0 x xs small t.1)), later in_string)
of_byte between backslash x xs k small t later = (tt, later in_word)
of_byte between operator x xs k small t later = (of_operator x, later between)
of_byte between space x xs k small t later = later between
of_byte between other x xs k small t later = (of_word (x ∷ xs), later in_word)
of_byte in_word quote x xs k small t later = later in_word
of_byte in_word backslash x xs k small t later = later in_word
of_byte in_word operator x xs k small t later = (of_operator x, later between)
of_byte in_word space x xs k small t later = later between
of_byte in_word other x xs k small t later = later in_word
of_byte in_string quote x xs k small t later = later between
of_byte in_string backslash x xs k small t later = later in_escape
of_byte in_string operator x xs k small t later = later in_string
of_byte in_string space x xs k small t later = later in_string
of_byte in_string other x xs k small t later = later in_string
of_byte in_escape c x xs k small t later = later in_string

lexemes_utf8 : (m : Mode) (xs : List ℕ) → IsEnd xs → LexemesHaveUtf8 (lex m xs)
unfolding lex
lexemes_utf8 m [] t = tt
lexemes_utf8 m (x ∷ xs) t = of_byte m (class x) x xs (λ next. lex next xs) (ascii_quote x) t (λ next. lexemes_utf8 next xs (further x xs t))

-- ---- commas and colons

allowed : (b : Bool) (t : Token) (k : Place → List Token) (next : Place) → HasUtf8 t → ((p : Place) → HaveUtf8 (k p)) → HaveUtf8 (if_allowed b t k next)
allowed b t k next h later = grind (arith, common_steps)

placed : (p : Place) (t : Token) (b : Bool) (k : Place → List Token) → HasUtf8 t → ((next : Place) → HaveUtf8 (k next)) → HaveUtf8 (place_token p t b k)
placed p t b k h later = grind (arith, common_steps, allowed)

punctuated : (p : Place) (ls : List Lexeme) → LexemesHaveUtf8 ls → HaveUtf8 (punctuate p ls)
unfolding punctuate
punctuated fresh [] h = tt
punctuated after_value [] h = tt
punctuated after_comma [] h = (tt, tt)
punctuated after_key [] h = (tt, tt)
punctuated p (token t ∷ ls) h = placed p t (begins_colon ls) (λ next. punctuate next ls) h.0 (λ next. punctuated next ls h.1)
punctuated fresh (comma ∷ ls) h = (tt, tt)
punctuated after_value (comma ∷ ls) h = punctuated after_comma ls h.1
punctuated after_comma (comma ∷ ls) h = (tt, tt)
punctuated after_key (comma ∷ ls) h = (tt, tt)
punctuated fresh (colon ∷ ls) h = (tt, tt)
punctuated after_value (colon ∷ ls) h = (tt, tt)
punctuated after_comma (colon ∷ ls) h = (tt, tt)
punctuated after_key (colon ∷ ls) h = punctuated fresh ls h.1

pub tokens_utf8 : (text : List ℕ) → IsUtf8 text → HaveUtf8 (tokens text)
tokens_utf8 text u = punctuated fresh (lex between text) (lexemes_utf8 between text ([], u))
