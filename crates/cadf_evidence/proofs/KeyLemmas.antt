-- A key and its line.
use Rattle.cadf_evidence.proofs.Common.{◌≡◌, ◌∙◌, ℕ, List, [], ◌∷◌, ◌++◌, length, take, drop, Bool, true, false, cond, ◌||◌, Option, Some, None, refl, sym, ap, subst, arith, common_steps, bytes_eq, bytes_eq-Decides, take-append-drop, take-append_seam, drop-append_seam, Text, Texts, is_text, is_name_text, is_unbroken, unbroken_quoted, chosen, begins_digest, ◌-◌, length-append, quoted, name_of, name-again, name-only, both_unbroken, line, geolocation_letter, metric_letter, property_letter, resource_letter, is_value_letter, line_in_pieces, line_spelled, IsKey, key_in, key_with, letter_in, opens, IsUtf8, name_not_text}
unfoldable use Rattle.json.specs.Print.{escape_byte}
unfoldable use Rattle.cadf_evidence.specs.KeyVerdict.{name_before_end}

-- ---- a letter, and its canonical text

pub record IsLetter (l : Text) : Type 0 where
  pub byte : ℕ
  pub is : l ≡ byte ∷ []
  pub spelled : quoted l ≡ 34 ∷ byte ∷ 34 ∷ []

of_text : (l : Text) (c : ℕ) → quoted (c ∷ []) ≡ 34 ∷ c ∷ 34 ∷ [] → is_text l (c ∷ []) ≡ true → IsLetter l
of_text l c e h = let is = (bytes_eq-Decides l (c ∷ [])).0 h in record { byte = c; is = is; spelled = ap quoted is ∙ e }

either : {X : Type 0} (a b : Bool) → (a || b) ≡ true → (a ≡ true → X) → (b ≡ true → X) → X
either true b h f g = f refl
either false b h f g = g h

pub letter : (l : Text) → is_value_letter l ≡ true → IsLetter l
unfolding escape_byte
letter l h =
    either (is_text l property_letter) _ h (of_text l 80 refl) (λ h.
    either (is_text l resource_letter) _ h (of_text l 82 refl) (λ h.
    either (is_text l geolocation_letter) _ h (of_text l 71 refl) (λ h.
    either (is_text l metric_letter) _ h (of_text l 77 refl) (of_text l 69 refl))))

-- ---- a name, and the closing bracket

end_at : (xs : List ℕ) → length (xs ++ 93 ∷ []) - 1 ≡ length xs
end_at xs = omega (arith, length-append xs (93 ∷ []))

name_again : (k : Text) → is_name_text k ≡ true → name_before_end (quoted k ++ 93 ∷ []) ≡ Some k
unfolding name_before_end
name_again k h =
    ap (λ n. cond (bytes_eq (drop n (quoted k ++ 93 ∷ [])) (93 ∷ [])) (name_of (take n (quoted k ++ 93 ∷ []))) None) (end_at (quoted k))
    ∙ (λ i. cond (bytes_eq (drop-append_seam (quoted k) (93 ∷ []) i) (93 ∷ [])) (name_of (take-append_seam (quoted k) (93 ∷ []) i)) None)
    ∙ name-again k h

name_only : (t : List ℕ) (k : Text) → name_before_end t ≡ Some k → (t ≡ quoted k ++ 93 ∷ []) × (is_name_text k ≡ true)
unfolding name_before_end
name_only t k e =
    let n = length t - 1 in
    let c = chosen (bytes_eq (drop n t) (93 ∷ [])) (name_of (take n t)) k e in
    let p = name-only (take n t) k c.1 in
    (sym (take-append-drop n t) ∙ (λ i. p.0 i ++ (bytes_eq-Decides (drop n t) (93 ∷ [])).0 c.0 i), p.1)

pub name_none : (t : List ℕ) → (IsUtf8 (take (length t - 1) t) → ⊥) → name_before_end t ≡ None
unfolding name_before_end
name_none t h = by (bytes_eq (drop (length t - 1) t) (93 ∷ []))
  where
    by : (b : Bool) → cond b (name_of (take (length t - 1) t)) None ≡ None
    by true = name_not_text (take (length t - 1) t) h
    by false = refl

-- ---- the line of a key

key_line : (l k : Text) (c : ℕ) → quoted l ≡ 34 ∷ c ∷ 34 ∷ [] → line (l ∷ k ∷ []) ≡ 91 ∷ 34 ∷ c ∷ 34 ∷ 44 ∷ (quoted k ++ 93 ∷ [])
key_line l k c e = sym (line_in_pieces (l ∷ k ∷ [])) ∙ ap (λ x. (91 ∷ x) ++ ((44 ∷ quoted k) ++ 93 ∷ [])) e

letter_again : (c : ℕ) → is_value_letter (c ∷ []) ≡ true → letter_in c ≡ Some (c ∷ [])
letter_again c h = ap (λ b. cond b (Some (c ∷ [])) None) h

pub key-again : (q : Texts) → IsKey q → key_in (line q) ≡ Some q
key-again [] h = absurd h
key-again (l ∷ []) h = absurd h
key-again (l ∷ k ∷ []) h =
    let w = letter l h.0 in
    ap key_in (key_line l k w.byte w.spelled)
    ∙ (λ i. key_with (letter_again w.byte (subst (λ x. is_value_letter x ≡ true) w.is h.0) i) (name_again k h.1 i))
    ∙ ap (λ x. Some (x ∷ k ∷ [])) (sym w.is)
key-again (l ∷ k ∷ m ∷ more) h = absurd h

opens_are : (a b c d : ℕ) → opens a b c d ≡ true → (a ≡ 91) × (b ≡ 34) × (c ≡ 34) × (d ≡ 44)
opens_are a b c d h = grind (arith, common_steps)

pub letter_only : (c : ℕ) (l : Text) → letter_in c ≡ Some l → (l ≡ c ∷ []) × (is_value_letter l ≡ true)
letter_only c l e = by (is_value_letter (c ∷ [])) refl e
  where
    by : (b : Bool) → is_value_letter (c ∷ []) ≡ b → cond b (Some (c ∷ [])) None ≡ Some l → (l ≡ c ∷ []) × (is_value_letter l ≡ true)
    by true is k = let same : c ∷ [] ≡ l = cc in (sym same, subst (λ x. is_value_letter x ≡ true) same is)
    by false is k = absurd (cc)

-- a line that is read as a key is that key's line
pub key-only : (t : List ℕ) (q : Texts) → key_in t ≡ Some q → (t ≡ line q) × IsKey q
key-only [] q e = absurd (cc)
key-only (a ∷ []) q e = absurd (cc)
key-only (a ∷ b ∷ []) q e = absurd (cc)
key-only (a ∷ b ∷ x ∷ []) q e = absurd (cc)
key-only (a ∷ b ∷ x ∷ c ∷ []) q e = absurd (cc)
key-only (a ∷ b ∷ x ∷ c ∷ d ∷ t) q e =
    let p = chosen (opens a b c d) (key_with (letter_in x) (name_before_end t)) q e in
    by (letter_in x) (name_before_end t) refl refl (opens_are a b c d p.0) p.1
  where
    by : (l k : Option Text) → letter_in x ≡ l → name_before_end t ≡ k → (a ≡ 91) × (b ≡ 34) × (c ≡ 34) × (d ≡ 44) → key_with l k ≡ Some q
        → (a ∷ b ∷ x ∷ c ∷ d ∷ t ≡ line q) × IsKey q
    by None k is named are e = absurd (cc)
    by (Some l) None is named are e = absurd (cc)
    by (Some l) (Some k) is named are e =
        let same : l ∷ k ∷ [] ≡ q = cc in
        let n = name_only t k named in
        let o = letter_only x l is in
        let w = letter l o.1 in
        let byte : x ∷ [] ≡ w.byte ∷ [] = sym o.0 ∙ w.is in
        let head : x ≡ w.byte = cc in
        subst (λ r. (a ∷ b ∷ x ∷ c ∷ d ∷ t ≡ line r) × IsKey r) same (
          (λ i. are.0 i ∷ are.1 i ∷ head i ∷ are.2 i ∷ are.3 i ∷ n.0 i) ∙ sym (key_line l k w.byte w.spelled),
          (o.1, n.1),
        )

-- ---- it is no digest line, and not broken

pub plain_key : (q : Texts) → begins_digest (line q) ≡ false
plain_key q = ap begins_digest (sym (line_spelled q))

pub unbroken_key : (q : Texts) → IsKey q → is_unbroken (line q) ≡ true
unbroken_key [] h = absurd h
unbroken_key (l ∷ []) h = absurd h
unbroken_key (l ∷ k ∷ []) h =
    ap is_unbroken (sym (line_in_pieces (l ∷ k ∷ [])))
    ∙ both_unbroken (91 ∷ quoted l) ((44 ∷ quoted k) ++ 93 ∷ []) (unbroken_quoted l) (both_unbroken (44 ∷ quoted k) (93 ∷ []) (unbroken_quoted k) refl)
unbroken_key (l ∷ k ∷ m ∷ more) h = absurd h
