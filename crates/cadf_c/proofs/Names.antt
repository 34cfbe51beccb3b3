-- Bytes that spell a name.
use Rattle.cadf_c.proofs.Common.{◌≡◌, Bool, true, false, ◌&&◌, if◌then◌else◌, ℕ, List, Result, Ok, Err, IfOk, IfErr, refl, sym, ap, ◌∙◌, inl, inr, IsUtf8, is_utf8, is_utf8-from_IsUtf8, IsUtf8-from_is_utf8, is_name, ArgumentFault, Memory, spells_name, unless, IsAsked}

module _ (bytes : List ℕ) (refusal : ArgumentFault) where
  abbrev pub name_asked : Bool → Result (List ℕ) ArgumentFault
  name_asked b = unless b refusal (Ok bytes)

  spells : IsUtf8 bytes → spells_name bytes ≡ is_name bytes
  spells utf8 = ap (λ b. b && is_name bytes) (is_utf8-from_IsUtf8 bytes utf8)

  pub spelled : (r : Result (List ℕ) ArgumentFault) (text : List ℕ) → text ≡ bytes → IsUtf8 bytes → IfOk r (λ name. name ≡ text)
      → IfOk r (λ _. is_name text ≡ true) → IfErr r (λ f. f ≡ (if is_name text then Memory else refusal))
      → IsAsked (name_asked (spells_name bytes)) r
  spelled (Ok name) text is utf8 same named err = inr (ap Ok (same ∙ is) ∙ ap name_asked (sym (spells utf8 ∙ ap is_name (sym is) ∙ named)))
  spelled (Err f) text is utf8 same named err = by (is_name bytes) refl
    where
      fault : (b : Bool) → is_name bytes ≡ b → f ≡ (if b then Memory else refusal)
      fault b e = err ∙ ap (λ t. if is_name t then Memory else refusal) is ∙ ap (λ b. if b then Memory else refusal) e

      by : (b : Bool) → is_name bytes ≡ b → IsAsked (name_asked (spells_name bytes)) (Err f)
      by true e = inl (ap Err (fault true e))
      by false e = inr (ap Err (fault false e) ∙ ap name_asked (sym (spells utf8 ∙ e)))

  pub spells_none : ¬ IsUtf8 bytes → IsAsked (name_asked (spells_name bytes)) (Err refusal)
  spells_none other = inr (ap name_asked (sym (by (is_utf8 bytes) refl)))
    where
      by : (b : Bool) → is_utf8 bytes ≡ b → (b && is_name bytes) ≡ false
      by true e = absurd (other (IsUtf8-from_is_utf8 bytes e))
      by false e = refl
