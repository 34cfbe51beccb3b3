-- Which parts have the values of a conflicted key.
use Rattle.cadf_split.proofs.Common.{◌≡◌, ◌⊎◌, true, List, [], ◌∷◌, length, refl, sym, ap, ◌∙◌, subst, inl, inr, true≢false, arith, le-leb, ◌≢◌, nat_le, is_eq, Less, Equal, tied_itself, bytes_decides, IsStrictlySortedBy, Listed, Text, Texts, Contents, text_cmp, Has, text_total, AllByRecursion-listed, is_text, values, is_conflicted, value_listed, values_rise, listed_value, part_by, IsInTwoParts}
use Rattle.cadf_join.proofs.Members as members
use Rattle.cadf_split.proofs.PartMembers.{in_part, part_has, part_key}

-- ---- two values

abbrev TwoListed : List Text → Type 0
TwoListed vs = (v : Text) × ((w : Text) × ((v ≢ w) × (Listed v vs × Listed w vs)))

below_is_other : (v w : Text) → text_cmp v w ≡ Less → v ≢ w
below_is_other v w less e = true≢false (ap is_eq (sym (subst (λ y. text_cmp v y ≡ Equal) e (tied_itself text_total v)) ∙ less))

two_listed : (vs : List Text) → IsStrictlySortedBy text_cmp vs → nat_le 2 (length vs) ≡ true → TwoListed vs
unfolding IsStrictlySortedBy
two_listed (v ∷ w ∷ vs) rises h =
    (v, (w, (below_is_other v w (AllByRecursion-listed (λ y. text_cmp v y ≡ Less) (w ∷ vs) rises.0 w (inl refl)), (inl refl, inr (inl refl)))))
two_listed _ rises h = absurd (true≢false (sym h))

listed_two : (vs : List Text) (v w : Text) → v ≢ w → Listed v vs → Listed w vs → nat_le 2 (length vs) ≡ true
listed_two [] v w other l m = absurd l
listed_two (x ∷ []) v w other (inl e) (inl f) = absurd (other (e ∙ sym f))
listed_two (x ∷ []) v w other (inl e) (inr m) = absurd m
listed_two (x ∷ []) v w other (inr l) m = absurd l
listed_two (x ∷ y ∷ vs) v w other l m = le-leb 2 (length (x ∷ y ∷ vs)) (omega arith)

pub two_values : (s : Contents) (letter name : Text) → is_conflicted s letter name ≡ true
    → (v : Text) × ((w : Text) × ((v ≢ w) × (Has s (letter ∷ name ∷ v ∷ []) × Has s (letter ∷ name ∷ w ∷ []))))
two_values s letter name h =
    let t = two_listed (values s letter name) (values_rise s letter name) h in
    (t.0, (t.1.0, (t.1.1.0, (listed_value s letter name t.0 t.1.1.1.0, listed_value s letter name t.1.0 t.1.1.1.1))))

pub conflicted_by : (s : Contents) (letter name v w : Text) → v ≢ w → Has s (letter ∷ name ∷ v ∷ []) → Has s (letter ∷ name ∷ w ∷ [])
    → is_conflicted s letter name ≡ true
conflicted_by s letter name v w other h g = listed_two (values s letter name) v w other (value_listed s letter name v h) (value_listed s letter name w g)

-- ---- in parts

module _ (of : Texts → Text) (s : Contents) (letter name : Text) where
  abbrev at : Text → Texts
  at v = letter ∷ name ∷ v ∷ []

  abbrev pub IsConflictedInParts : Type 0
  IsConflictedInParts = ((k : Text) × (is_conflicted (part_by of k s) letter name ≡ true)) ⊎ IsInTwoParts of s letter name

  pub conflicted_in_parts : is_conflicted s letter name ≡ true → IsConflictedInParts
  conflicted_in_parts h =
      let t = two_values s letter name h in
      let v = t.0 in
      let w = t.1.0 in
      let has_v = in_part of (of (at v)) s (at v) t.1.1.1.0 refl in
      let has_w = in_part of (of (at w)) s (at w) t.1.1.1.1 refl in
      elim (members.decide (is_text (of (at w)) (of (at v)))) [
        | inl same ↦
            let e : of (at w) ≡ of (at v) = (bytes_decides (of (at w)) (of (at v))).0 same in
            inl (of (at v), conflicted_by (part_by of (of (at v)) s) letter name v w t.1.1.0 has_v (subst (λ k. Has (part_by of k s) (at w)) e has_w))
        | inr other ↦ inr (of (at v), (of (at w), (λ e. other ((bytes_decides (of (at w)) (of (at v))).1 (sym e)), ((v, has_v), (w, has_w)))))
      ]

  pub conflicted_from_parts : IsConflictedInParts → is_conflicted s letter name ≡ true
  conflicted_from_parts (inl (k, h)) =
      let t = two_values (part_by of k s) letter name h in
      conflicted_by s letter name t.0 t.1.0 t.1.1.0 (part_has of k s (at t.0) t.1.1.1.0) (part_has of k s (at t.1.0) t.1.1.1.1)
  conflicted_from_parts (inr (k, (l, (other, ((v, h), (w, g)))))) =
      conflicted_by s letter name v w
      (λ e. other (sym (part_key of k s (at v) h) ∙ ap (λ x. of (at x)) e ∙ part_key of l s (at w) g))
      (part_has of k s (at v) h) (part_has of l s (at w) g)
