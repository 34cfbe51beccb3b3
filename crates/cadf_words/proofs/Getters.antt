-- What the getters make of the rows.
use Rattle.cadf_words.proofs.Common.{◌≡◌, ◌∙◌, ap, List, [], map, Option, Some, None, option_map, UnwrapsOrElse, unwrap_or, Bor, Text, texts}

pub text_or_none : (o : Option (Bor Text)) (r : Bor Text) (found : Option Text) → UnwrapsOrElse o (λ x. x.now ≡ []) r
    → option_map (λ s. s.now) o ≡ found → r.now ≡ unwrap_or found []
text_or_none None r found is e = is ∙ ap (λ f. unwrap_or f []) e
text_or_none (Some x) r found is e = ap (λ b. b.now) is ∙ ap (λ f. unwrap_or f []) e

pub texts_or_none : (o : Option (Bor (List (Bor Text)))) (r : Bor (List (Bor Text))) (found : Option (List Text)) → UnwrapsOrElse o (λ x. x.now ≡ []) r
    → option_map (λ s. map (λ v. v.now) s.now) o ≡ found → texts r.now ≡ unwrap_or found []
texts_or_none None r found is e = ap texts is ∙ ap (λ f. unwrap_or f []) e
texts_or_none (Some x) r found is e = ap (λ b. texts b.now) is ∙ ap (λ f. unwrap_or f []) e
