-- The value of a canonical text.
use Rattle.cadf_scan.proofs.Common.{◌≡◌, Option, unwrap_or, sym, ap, ◌∙◌, subst, Data, null, IsValue, text, read-text, Text, IsTextOf, value_of}

pub value_of-text : (v : Data) → IsValue v → value_of (text v) ≡ v
unfolding value_of
value_of-text v h = ap (λ (o : Option Data). unwrap_or o null) (read-text v h)

pub value_of_is : {P : Data → Type 0} (t : Text) (c : IsTextOf P t) → value_of t ≡ c.0
value_of_is t c = ap value_of c.1.1 ∙ value_of-text c.0 c.1.0

pub spelled : {P : Data → Type 0} (t : Text) → IsTextOf P t → IsValue (value_of t)
spelled t c = subst IsValue (sym (value_of_is t c)) c.1.0

pub text-value_of : {P : Data → Type 0} (t : Text) → IsTextOf P t → text (value_of t) ≡ t
text-value_of t c = ap text (value_of_is t c) ∙ sym c.1.1

pub spelled_holds : (P : Data → Type 0) (t : Text) → IsTextOf P t → P (value_of t)
spelled_holds P t c = subst P (sym (value_of_is t c)) c.1.2
