-- What stands before the text of a buffer is kept where bytes are written behind it.
use Rattle.cadf_memory.proofs.Common.{◌≡◌, ℕ, List, ◌∷◌, ◌++◌, length, take, drop, sym, ap, ◌∙◌, append_assoc, take-append_seam, drop-append_seam, Buffer, buffer_name, buffer_before, buffer_text}

-- all that a buffer tells as written
abbrev pub frame : Buffer → List ℕ
frame b = buffer_name b ∷ length (buffer_before b) ∷ buffer_before b ++ buffer_text b

first_same : (x y x' y' : ℕ) (xs xs' : List ℕ) → x' ∷ y' ∷ xs' ≡ x ∷ y ∷ xs → x' ≡ x
first_same x y x' y' xs xs' e = cc

second_same : (x y x' y' : ℕ) (xs xs' : List ℕ) → x' ∷ y' ∷ xs' ≡ x ∷ y ∷ xs → y' ≡ y
second_same x y x' y' xs xs' e = cc

others_same : (x y x' y' : ℕ) (xs xs' : List ℕ) → x' ∷ y' ∷ xs' ≡ x ∷ y ∷ xs → xs' ≡ xs
others_same x y x' y' xs xs' e = cc

module _ (p p' t t' more : List ℕ) (long : length p' ≡ length p) (all : p' ++ t' ≡ (p ++ t) ++ more) where
  joined : p' ++ t' ≡ p ++ (t ++ more)
  joined = all ∙ append_assoc p t more

  front_same : p' ≡ p
  front_same =
      sym (take-append_seam p' t') ∙ ap (take (length p')) joined ∙ ap (λ (n : ℕ). take n (p ++ (t ++ more))) long
      ∙ take-append_seam p (t ++ more)

  rest_added : t' ≡ t ++ more
  rest_added =
      sym (drop-append_seam p' t') ∙ ap (drop (length p')) joined ∙ ap (λ (n : ℕ). drop n (p ++ (t ++ more))) long
      ∙ drop-append_seam p (t ++ more)

module _ (b c : Buffer) (more : List ℕ) (e : frame c ≡ frame b ++ more) where
  long : length (buffer_before c) ≡ length (buffer_before b)
  long = second_same _ _ _ _ _ _ e

  rest : buffer_before c ++ buffer_text c ≡ (buffer_before b ++ buffer_text b) ++ more
  rest = others_same _ _ _ _ _ _ e

  pub name_kept : buffer_name c ≡ buffer_name b
  name_kept = first_same _ _ _ _ _ _ e

  pub before_kept : buffer_before c ≡ buffer_before b
  before_kept = front_same (buffer_before b) (buffer_before c) (buffer_text b) (buffer_text c) more long rest

  pub text_added : buffer_text c ≡ buffer_text b ++ more
  text_added = rest_added (buffer_before b) (buffer_before c) (buffer_text b) (buffer_text c) more long rest
