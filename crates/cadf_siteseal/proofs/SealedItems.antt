-- The lines of a site seal's items: each encodes its item, and no other line does.
use Rattle.cadf_siteseal.proofs.Common.{◌≡◌, ◌∙◌, ℕ, List, [], ◌∷◌, ◌++◌, Bool, true, false, cond, Option, Some, None, refl, ap, subst, nat_eq, unwrap_or, eqb-true, is_unbroken, both_unbroken, first_word, words_after, begins_digest, chosen, has_blank, first_is, after_is, TimeUnit, Root, is_window, is_part, roots_text, roots_in, AreSealed, floor_in, gone_with, held_with, part_with, seal_items, sealed_in, sealed_text, SealedPart, SealItem, Floor, Gone, Held}
use Rattle.cadf_siteseal.specs.SealItems.{IsItem, item_in, item_line}
unfoldable use Rattle.cadf_siteseal.specs.SealItems.{marked_item}
use Rattle.cadf_siteseal.proofs.NameForms.{part_unblank, part_unbroken, window_unblank, window_unbroken}
use Rattle.cadf_siteseal.proofs.SiteLemmas.{IsItemKind}
use Rattle.cadf_siteseal.proofs.Words.{roots-again, roots-only, roots_some, roots_unbroken, spaced}

-- ---- the words of a part

sealed-again : (p : SealedPart) → has_blank p.name ≡ false → AreSealed p → sealed_in (sealed_text p) ≡ Some p
sealed-again p plain are =
    let t = roots_text p.facts p.keys in
    (λ i. part_with (first_is p.name t plain i) (roots_in (after_is p.name t plain i))) ∙ ap (part_with p.name) (roots-again p.facts p.keys are.0 are.1)

record IsSealedIn (text : List ℕ) (p : SealedPart) : Type 0 where
  pub words : text ≡ sealed_text p
  pub sealed : AreSealed p

sealed-only : (text : List ℕ) (p : SealedPart) → sealed_in text ≡ Some p → IsSealedIn text p
sealed-only text p e = by (roots_in (words_after text)) refl e
  where
    by : (o : Option (Root × Root)) → roots_in (words_after text) ≡ o → part_with (first_word text) o ≡ Some p → IsSealedIn text p
    by None is k = absurd (cc)
    by (Some r) is k =
        let a = roots-only (words_after text) r.0 r.1 is in
        let same : record { name = first_word text; facts = r.0; keys = r.1 } ≡ p = ap (λ o. unwrap_or o p) k in
        subst (IsSealedIn text) same
        (record { words = spaced text (roots_some (words_after text) r.0 r.1 a) ∙ ap (λ w. first_word text ++ 32 ∷ w) a.words; sealed = (a.facts, a.keys) })

-- ---- lines

line-again : (u : TimeUnit) (i : SealItem) → IsItem u i → item_in u (item_line i) ≡ Some i
unfolding marked_item
line-again u (Floor t) is = ap (λ b. cond b (Some (Floor t)) None) is
line-again u (Gone p) is = ap (gone_with u) (sealed-again p (window_unblank u p.name is.0) is.1) ∙ ap (λ b. cond b (Some (Gone p)) None) is.0
line-again u (Held p) is = ap (held_with u) (sealed-again p (part_unblank u p.name is.0) is.1) ∙ ap (λ b. cond b (Some (Held p)) None) is.0

abbrev IsLine : TimeUnit → ℕ → List ℕ → SealItem → Type 0
IsLine u m t i = (m ∷ 32 ∷ t ≡ item_line i) × IsItem u i

module _ (u : TimeUnit) (m : ℕ) (t : List ℕ) (i : SealItem) where
  floor-only : nat_eq m 84 ≡ true → floor_in u t ≡ Some i → IsLine u m t i
  floor-only mark e =
      let c = chosen (is_window u t) (Some (Floor t)) i e in
      let same : Floor t ≡ i = ap (λ o. unwrap_or o i) c.1 in
      subst (IsLine u m t) same ((λ n. eqb-true m 84 mark n ∷ 32 ∷ t), c.0)

  gone-only : nat_eq m 71 ≡ true → gone_with u (sealed_in t) ≡ Some i → IsLine u m t i
  gone-only mark e = by (sealed_in t) refl e
    where
      by : (o : Option SealedPart) → sealed_in t ≡ o → gone_with u o ≡ Some i → IsLine u m t i
      by None is k = absurd (cc)
      by (Some p) is k =
          let c = chosen (is_window u p.name) (Some (Gone p)) i k in
          let same : Gone p ≡ i = ap (λ o. unwrap_or o i) c.1 in
          let s = sealed-only t p is in
          subst (IsLine u m t) same ((λ n. eqb-true m 71 mark n ∷ 32 ∷ s.words n), (c.0, s.sealed))

  held-only : nat_eq m 87 ≡ true → held_with u (sealed_in t) ≡ Some i → IsLine u m t i
  held-only mark e = by (sealed_in t) refl e
    where
      by : (o : Option SealedPart) → sealed_in t ≡ o → held_with u o ≡ Some i → IsLine u m t i
      by None is k = absurd (cc)
      by (Some p) is k =
          let c = chosen (is_part u p.name) (Some (Held p)) i k in
          let same : Held p ≡ i = ap (λ o. unwrap_or o i) c.1 in
          let s = sealed-only t p is in
          subst (IsLine u m t) same ((λ n. eqb-true m 87 mark n ∷ 32 ∷ s.words n), (c.0, s.sealed))

  marked-only : marked_item u m t ≡ Some i → IsLine u m t i
  unfolding marked_item
  marked-only e = floor (nat_eq m 84) refl e
    where
      held : (b : Bool) → nat_eq m 87 ≡ b → cond b (held_with u (sealed_in t)) None ≡ Some i → IsLine u m t i
      held true is k = held-only is k
      held false is k = absurd (cc)

      gone : (b : Bool) → nat_eq m 71 ≡ b → cond b (gone_with u (sealed_in t)) (cond (nat_eq m 87) (held_with u (sealed_in t)) None) ≡ Some i → IsLine u m t i
      gone true is k = gone-only is k
      gone false is k = held (nat_eq m 87) refl k

      floor : (b : Bool) → nat_eq m 84 ≡ b
          → cond b (floor_in u t) (cond (nat_eq m 71) (gone_with u (sealed_in t)) (cond (nat_eq m 87) (held_with u (sealed_in t)) None)) ≡ Some i → IsLine u m t i
      floor true is k = floor-only is k
      floor false is k = gone (nat_eq m 71) refl k

line-only : (u : TimeUnit) (l : List ℕ) (i : SealItem) → item_in u l ≡ Some i → (l ≡ item_line i) × IsItem u i
line-only u [] i e = absurd (cc)
line-only u (m ∷ []) i e = absurd (cc)
line-only u (m ∷ b ∷ t) i e =
    let c = chosen (nat_eq b 32) (marked_item u m t) i e in
    let o = marked-only u m t i c.1 in
    ((λ n. m ∷ eqb-true b 32 c.0 n ∷ t) ∙ o.0, o.1)

line_plain : (i : SealItem) → begins_digest (item_line i) ≡ false
line_plain (Floor t) = refl
line_plain (Gone p) = refl
line_plain (Held p) = refl

line_unbroken : (u : TimeUnit) (i : SealItem) → IsItem u i → is_unbroken (item_line i) ≡ true
line_unbroken u (Floor t) is = window_unbroken u t is
line_unbroken u (Gone p) is = both_unbroken p.name _ (window_unbroken u p.name is.0) (roots_unbroken p.facts p.keys is.1.0 is.1.1)
line_unbroken u (Held p) is = both_unbroken p.name _ (part_unbroken u p.name is.0) (roots_unbroken p.facts p.keys is.1.0 is.1.1)

pub seal_kind : IsItemKind seal_items IsItem
seal_kind = record { header = refl; plain = line_plain; unbroken = line_unbroken; again = line-again; only = line-only }
