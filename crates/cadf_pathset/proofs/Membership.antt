-- One line of membership for each set that the contracts name.
use Rattle.cadf_pathset.proofs.Common.{◌≡◌, ◌⊎◌, List, [], ◌∷◌, ◌++◌, map, refl, sym, ap, subst, ◌∙◌, inl, inr, ◌↔◌, Listed, Texts, Contents, Has, suffixes_of, texts_total, texts_same, contains-section, with_carriers_by, suffixes_after}
use Rattle.cadf_join.specs.Sets as set
use Rattle.cadf_join.proofs.Members as members

pub in_suffixes : (s : Contents) (p r : Texts) → Has (suffixes_after s p) r ↔ Has s (p ++ r)
in_suffixes s [] r = (λ h. h, λ h. h)
in_suffixes s (t ∷ p) r =
    let rest = in_suffixes (suffixes_of s t) p r in
    (λ h. sym (contains-section s t (p ++ r)) ∙ rest.0 h, λ h. rest.1 (contains-section s t (p ++ r) ∙ h))

-- ---- carriers

listed_map : {A B : Type 0} (f : A → B) (xs : List A) (x : A) → Listed x xs → Listed (f x) (map f xs)
listed_map f [] x l = absurd l
listed_map f (y ∷ xs) x (inl e) = inl (ap f e)
listed_map f (y ∷ xs) x (inr l) = inr (listed_map f xs x l)

pub map_listed : {A B : Type 0} (f : A → B) (xs : List A) (y : B) → Listed y (map f xs) → (x : A) × Listed x xs × (y ≡ f x)
map_listed f [] y l = absurd l
map_listed f (x ∷ xs) y (inl e) = (x, inl refl, e)
map_listed f (x ∷ xs) y (inr l) = let t = map_listed f xs y l in (t.0, inr t.1, t.2)

pub has_carrier : (carrier : Texts → Texts) (s : Contents) (q : Texts) → Has s q → Has (with_carriers_by carrier s) (carrier q)
has_carrier carrier s q h = members.in_union_right texts_total texts_same s _ (carrier q)
    (members.has_from_list texts_total texts_same _ _ (listed_map carrier (set.items s) q (members.listed_in texts_total texts_same s q h)))

of_carriers : (carrier : Texts → Texts) (s : Contents) (q : Texts) → Has (with_carriers_by carrier s) q
    → Has s q ⊎ ((x : Texts) × Has s x × (q ≡ carrier x))
of_carriers carrier s q h = elim (members.of_union texts_total texts_same s _ q h) [
  | inl k ↦ inl k
  | inr k ↦
      let t = map_listed carrier (set.items s) q (members.from_list_has texts_total texts_same _ q k) in
      inr (t.0, members.has_listed texts_total texts_same s t.0 t.1, t.2)
]

pub in_carriers : (carrier : Texts → Texts) (s : Contents) (q : Texts)
    → Has (with_carriers_by carrier s) q ↔ (Has s q ⊎ ((x : Texts) × Has s x × (q ≡ carrier x)))
in_carriers carrier s q = (of_carriers carrier s q, back)
  where
    back : Has s q ⊎ ((x : Texts) × Has s x × (q ≡ carrier x)) → Has (with_carriers_by carrier s) q
    back (inl h) = members.in_union_left texts_total texts_same s _ q h
    back (inr (x, h, is)) = subst (Has (with_carriers_by carrier s)) (sym is) (has_carrier carrier s x h)
