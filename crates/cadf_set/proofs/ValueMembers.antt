-- One line of membership for the values of a key and for the parts of a body.
use Rattle.cadf_set.proofs.Common.{common_steps, ◌≡◌, [], ◌∷◌, sym, subst, ◌∙◌, arith, ◌↔◌, Contains, Listed, rising, Text, Texts, Contents, Has, suffixes_of, texts_total, texts_same, contains-section, listed-rising, rising-listed, event_letter, filter_map_listed, strip, only, values, parts}
use Rattle.cadf_join.specs.Sets as set
use Rattle.cadf_set.proofs.ShownAgain.{value_is, value_listed}
use Rattle.cadf_set.proofs.AfterPrefix.{behind_four}
use Rattle.cadf_set.proofs.History.{listed_contains, contains_listed}

pub listed_value : (s : Contents) (letter key x : Text) → Listed x (values s letter key) → Has s (letter ∷ key ∷ x ∷ [])
listed_value s letter key x l =
    let t = filter_map_listed (λ q. only (strip (letter ∷ key ∷ []) q)) (rising s) x l in
    subst (Has s) (value_is letter key t.0 x t.2) (listed-rising texts_total texts_same s t.0 t.1)

pub in_values : (s : Contents) (letter key x : Text) → Contains (values s letter key) x ↔ Has s (letter ∷ key ∷ x ∷ [])
in_values s letter key x = grind (arith, common_steps, listed_value, contains_listed, listed_contains, value_listed)

-- the suffixes after four texts
in_four : (s : Contents) (a b c d : Text) (r : Texts) → set.contains (suffixes_of (suffixes_of (suffixes_of (suffixes_of s a) b) c) d) r
    ≡ set.contains s (a ∷ b ∷ c ∷ d ∷ r)
in_four s a b c d r =
    contains-section (suffixes_of (suffixes_of (suffixes_of s a) b) c) d r ∙ contains-section (suffixes_of (suffixes_of s a) b) c (d ∷ r)
    ∙ contains-section (suffixes_of s a) b (c ∷ d ∷ r) ∙ contains-section s a (b ∷ c ∷ d ∷ r)

pub in_parts : (s : Contents) (id body letter : Text) (r : Texts) → Contains (parts s id body letter) r ↔ Has s (event_letter ∷ id ∷ body ∷ letter ∷ r)
in_parts s id body letter r =
    let part = suffixes_of (suffixes_of (suffixes_of (suffixes_of s event_letter) id) body) letter in
    let are : parts s id body letter ≡ rising part = behind_four s event_letter id body letter in (
      λ h. sym (in_four s event_letter id body letter r)
          ∙ listed-rising texts_total texts_same part r (subst (Listed r) are (contains_listed _ _ h)),
      λ h. listed_contains _ _
          (subst (Listed r) (sym are) (rising-listed texts_total texts_same part r (in_four s event_letter id body letter r ∙ h))),
    )
