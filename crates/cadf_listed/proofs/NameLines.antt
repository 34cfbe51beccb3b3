-- A name and its line.
use Rattle.cadf_listed.proofs.Common.{◌≡◌, ℕ, List, [], ◌∷◌, ◌++◌, map, Bool, true, false, cond, Option, Some, None, refl, sym, ◌∙◌, ap, subst, arith, ◌&&◌, nat_eq, option_map, AllByRecursion, common_steps, true≢false, encode_lower, Text, is_unbroken, chosen, begins_digest, digest_of, digest-again, digest-only, unbroken_digest_of, name, is_mark, mark_letter, name_line, IsName, name_in, names_in}

marked : (mark : ℕ) → is_mark mark ≡ true → mark_letter mark ≡ mark
marked mark h = grind (arith, common_steps)

pub name-again : (n : Text) → IsName n → name_in (name_line n) ≡ Some n
name-again [] h = absurd h
name-again (mark ∷ d) h =
    ap (λ m. cond (is_mark m && true) (option_map (name m) (digest_of (encode_lower d))) None) (marked mark h.0)
    ∙ ap (λ b. cond (b && true) (option_map (name mark) (digest_of (encode_lower d))) None) h.0
    ∙ ap (option_map (name mark)) (digest-again d h.1)

-- a line that is read as a name is that name's line
pub name-only : (l : List ℕ) (n : Text) → name_in l ≡ Some n → (l ≡ name_line n) × IsName n
name-only [] n e = absurd (cc)
name-only (mark ∷ []) n e = absurd (cc)
name-only (mark ∷ blank ∷ text) n e =
    let c = chosen (is_mark mark && nat_eq blank 32) (option_map (name mark) (digest_of text)) n e in
    by (digest_of text) refl c.0 c.1
  where
    blank_is : (b : Bool) (k : ℕ) → (b && nat_eq k 32) ≡ true → (b ≡ true) × (k ≡ 32)
    blank_is b k h = grind (arith, common_steps)

    by : (o : Option Text) → digest_of text ≡ o → (is_mark mark && nat_eq blank 32) ≡ true → option_map (name mark) o ≡ Some n
        → (mark ∷ blank ∷ text ≡ name_line n) × IsName n
    by None is both k = absurd (cc)
    by (Some d) is both k =
        let p = digest-only text d is in
        let m = blank_is (is_mark mark) blank both in
        let same : mark ∷ d ≡ n = cc in
        subst (λ x. (mark ∷ blank ∷ text ≡ name_line x) × IsName x) same
        ((λ i. sym (marked mark m.0) i ∷ m.1 i ∷ p.0 i), (m.0, p.1))

-- ---- it is no digest line, and not broken

pub plain_name : (n : Text) → begins_digest (name_line n) ≡ false
plain_name [] = refl
plain_name (mark ∷ d) = by (nat_eq mark 75)
  where
    by : (b : Bool) → begins_digest (cond b 75 70 ∷ 32 ∷ encode_lower d) ≡ false
    by true = refl
    by false = refl

pub unbroken_name : (n : Text) → is_unbroken (name_line n) ≡ true
unbroken_name [] = refl
unbroken_name (mark ∷ d) = by (nat_eq mark 75) ∙ unbroken_digest_of d
  where
    by : (b : Bool) → is_unbroken (cond b 75 70 ∷ 32 ∷ encode_lower d) ≡ is_unbroken (encode_lower d)
    by true = refl
    by false = refl

-- the digest line is no name's line
digest_line_none : (l : List ℕ) → begins_digest l ≡ true → name_in l ≡ None
digest_line_none l h = by (name_in l) refl
  where
    by : (o : Option Text) → name_in l ≡ o → o ≡ None
    by None e = refl
    by (Some n) e = absurd (true≢false (sym h ∙ ap begins_digest (name-only l n e).0 ∙ plain_name n))

-- ---- lines of names

abbrev pub AreEachNames : List Text → Type 0
AreEachNames ns = AllByRecursion IsName ns

pub names_in-lines : (ns : List Text) → AreEachNames ns → names_in (map name_line ns) ≡ ns
names_in-lines [] h = refl
names_in-lines (n ∷ ns) h = rw (name-again n h.0) (ap (λ xs. n ∷ xs) (names_in-lines ns h.1))

pub names_in-closed : (ns : List Text) (l : List ℕ) → AreEachNames ns → begins_digest l ≡ true → names_in (map name_line ns ++ l ∷ []) ≡ ns
names_in-closed [] l h is = rw (digest_line_none l is) refl
names_in-closed (n ∷ ns) l h is = rw (name-again n h.0) (ap (λ xs. n ∷ xs) (names_in-closed ns l h.1 is))
