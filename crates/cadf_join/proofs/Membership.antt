-- One line of membership for each set that the contracts name.
use Rattle.cadf_join.proofs.Common.{◌≡◌, Bool, [], ◌∷◌, true, false, refl, sym, ap, subst, ◌∙◌, ◌↔◌, ◌≢◌, ◌&&◌, true≢false, Text, Texts, TextSetValue, Contents, Has, under, suffixes_of, singles, text_total, text_same, contains-under, empty_list-under, contains-section, contains-singles, empty_list-singles, longer-singles, MapValue, heads, held, contents_at, chains, empty_list-chains, contains-chains, empty_list-joined, contains-joined, head_has, has_head}
use Rattle.std.specs.FinMap as fin
use Rattle.cadf_join.proofs.Members as members

not_false : {A : Type 0} {b : Bool} → b ≡ false → b ≡ true → A
not_false f t = absurd (true≢false (sym t ∙ f))

pub in_under : (k : Text) (s : Contents) (q : Texts) → Has (under k s) q ↔ ((r : Texts) × (q ≡ k ∷ r) × Has s r)
in_under k s q = (find q, λ found. there found.0 found.1 found.2)
  where
    find : (q : Texts) → Has (under k s) q → (r : Texts) × (q ≡ k ∷ r) × Has s r
    find [] h = not_false (empty_list-under k s) h
    find (t ∷ r) h =
        let both = sym (contains-under k s t r) ∙ h in
        (r, ap (λ x. x ∷ r) (members.equal_to text_total text_same t k (members.and_first _ _ both)), members.and_second _ _ both)

    there : (r : Texts) → q ≡ k ∷ r → Has s r → Has (under k s) q
    there r is h = subst (Has (under k s)) (sym is) (contains-under k s k r ∙ (λ i. members.equal_itself text_total text_same k i && h i))

pub in_section : (s : Contents) (k : Text) (r : Texts) → Has (suffixes_of s k) r ↔ Has s (k ∷ r)
in_section s k r = (λ h. sym (contains-section s k r) ∙ h, λ h. contains-section s k r ∙ h)

pub in_singles : (s : TextSetValue) (q : Texts) → Has (singles s) q ↔ ((t : Text) × (q ≡ t ∷ []) × Has s t)
in_singles s q = (find q, λ found. subst (Has (singles s)) (sym found.1) (contains-singles s found.0 ∙ found.2))
  where
    find : (q : Texts) → Has (singles s) q → (t : Text) × (q ≡ t ∷ []) × Has s t
    find [] h = not_false (empty_list-singles s) h
    find (t ∷ []) h = (t, refl, sym (contains-singles s t) ∙ h)
    find (t ∷ u ∷ c) h = not_false (longer-singles s t u c) h

pub in_heads : (s : Contents) (k : Text) → Has (heads s) k ↔ ((r : Texts) × Has s (k ∷ r))
in_heads s k = (head_has s k, λ found. has_head s k found.0 found.1)

pub in_chains : (s : Contents) (q : Texts) → Has (chains s) q ↔ (Has s q × (q ≢ []))
in_chains s q = (find q, λ found. there q found.0 found.1)
  where
    find : (q : Texts) → Has (chains s) q → Has s q × (q ≢ [])
    find [] h = not_false (empty_list-chains s) h
    find (k ∷ r) h = (sym (contains-chains s k r) ∙ h, λ e. cc)

    there : (q : Texts) → Has s q → q ≢ [] → Has (chains s) q
    there [] h some = absurd (some refl)
    there (k ∷ r) h some = contains-chains s k r ∙ h

pub in_contents : {V : Type 0} (C : V → Contents) (m : MapValue V) (q : Texts)
    → Has (contents_at C m) q ↔ ((k : Text) × (r : Texts) × (q ≡ k ∷ r) × Has (held C (fin.get m k)) r)
in_contents C m q = (find q, λ found. there found.0 found.1 found.2 found.3)
  where
    find : (q : Texts) → Has (contents_at C m) q → (k : Text) × (r : Texts) × (q ≡ k ∷ r) × Has (held C (fin.get m k)) r
    find [] h = not_false (empty_list-joined C m) h
    find (k ∷ r) h = (k, r, refl, sym (contains-joined C m k r) ∙ h)

    there : (k : Text) (r : Texts) → q ≡ k ∷ r → Has (held C (fin.get m k)) r → Has (contents_at C m) q
    there k r is h = subst (Has (contents_at C m)) (sym is) (contains-joined C m k r ∙ h)

pub in_joined : (m : MapValue Contents) (k : Text) (r : Texts) → Has (contents_at (λ s. s) m) (k ∷ r) ↔ Has (held (λ s. s) (fin.get m k)) r
in_joined m k r = (λ h. sym (contains-joined (λ s. s) m k r) ∙ h, λ h. contains-joined (λ s. s) m k r ∙ h)
