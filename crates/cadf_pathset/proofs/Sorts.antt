-- Merge sort: lists sorted by merging their sorted halves.
use Rattle.cadf_pathset.proofs.Common.{common_steps, ◌≡◌, ℕ, ◌≤◌, ◌<◌, true, List, [], ◌∷◌, ◌++◌, refl, sym, ap, ◌∙◌, subst, length, take, drop, map, get_or, arith, take-append-drop, Less, list_any, IsStrictlySortedBy, eq_by_cmp, Texts, texts_cmp, texts_total, texts_same, contents_same, contains-from_list, contains-insert, contains-union, ◌||◌, Bool, false, sorted_merge}
use Rattle.cadf_join.specs.Sets as set
use Rattle.cadf_pathset.proofs.Merges.{merged_rises, merged_is_union}
use Rattle.cadf_pathset.proofs.Grown.{all_turned}

module _ {A : Type 0} (f : A → Texts) where
  rises_on : (rest : List A) (d e : A) → 2 ≤ length rest → texts_cmp (f (get_or rest 0 d)) (f (get_or (drop 1 rest) 0 e)) ≡ Less
      → IsStrictlySortedBy texts_cmp (map f (drop 1 rest)) → IsStrictlySortedBy texts_cmp (map f rest)
  unfolding IsStrictlySortedBy
  rises_on [] d e h less s = tt
  rises_on (x ∷ []) d e h less s = absurd (omega (arith, h))
  rises_on (x ∷ y ∷ rest) d e h less s = (
    (
      less,
      all_turned (λ z. texts_cmp (f y) z ≡ Less) (λ z. texts_cmp (f x) z ≡ Less) (map f rest) (λ z more. texts_total.trans (f x) (f y) z less more)
          s.0,
    ),
    s,
  )

  pub first_rises : (rest more : List A) (d e : A) → more ≡ drop 1 rest → 2 ≤ length rest → texts_cmp (f (get_or rest 0 d)) (f (get_or more 0 e)) ≡ Less
      → IsStrictlySortedBy texts_cmp (map f more) → IsStrictlySortedBy texts_cmp (map f rest)
  first_rises rest more d e is h less s =
      rises_on rest d e h (subst (λ m. texts_cmp (f (get_or rest 0 d)) (f (get_or m 0 e)) ≡ Less) is less)
      (subst (λ m. IsStrictlySortedBy texts_cmp (map f m)) is s)

  pub one_rises : (rest : List A) → length rest < 2 → IsStrictlySortedBy texts_cmp (map f rest)
  unfolding IsStrictlySortedBy
  one_rises [] h = tt
  one_rises (x ∷ []) h = (tt, tt)
  one_rises (x ∷ y ∷ rest) h = absurd (omega (arith, h))

pub map_append : {A B : Type 0} (f : A → B) (xs ys : List A) → map f (xs ++ ys) ≡ map f xs ++ map f ys
map_append f [] ys = refl
map_append f (x ∷ xs) ys = ap (λ z. f x ∷ z) (map_append f xs ys)

any_append : (p : Texts → Bool) (xs ys : List Texts) → list_any p (xs ++ ys) ≡ (list_any p xs || list_any p ys)
any_append p [] ys = refl
any_append p (x ∷ xs) ys = grind (arith, common_steps, (any_append p xs ys))

of_both : (xs ys : List Texts) → set.from_list {R = texts_cmp} (xs ++ ys) ≡ set.union (set.from_list xs) (set.from_list ys)
of_both xs ys = contents_same _ _ (λ q.
    contains-from_list texts_total (xs ++ ys) q ∙ any_append (eq_by_cmp texts_cmp q) xs ys
    ∙ (λ i. sym (contains-from_list texts_total xs q) i || sym (contains-from_list texts_total ys q) i)
    ∙ sym (contains-union texts_total (set.from_list xs) (set.from_list ys) q))

module _ {A : Type 0} (f : A → Texts) (front back a b : List A) (a_is : a ≡ front) (b_is : b ≡ back) (all : List Texts)
    (merged : all ≡ sorted_merge texts_cmp true (map f a) (map f b)) where
  of_halves : all ≡ sorted_merge texts_cmp true (map f front) (map f back)
  of_halves = merged ∙ (λ i. sorted_merge texts_cmp true (map f (a_is i)) (map f (b_is i)))

  pub halves_rise : IsStrictlySortedBy texts_cmp (map f front) → IsStrictlySortedBy texts_cmp (map f back) → IsStrictlySortedBy texts_cmp all
  halves_rise s t = subst (IsStrictlySortedBy texts_cmp) (sym of_halves) (merged_rises texts_total texts_same (map f front) (map f back) s t)

  pub halves_are_all : (lists before behind : List A) (n : ℕ) → before ≡ take n lists → behind ≡ drop n lists
      → set.from_list {R = texts_cmp} (map f front) ≡ set.from_list (map f before) → set.from_list {R = texts_cmp} (map f back) ≡ set.from_list (map f behind)
      → set.from_list {R = texts_cmp} all ≡ set.from_list (map f lists)
  halves_are_all lists before behind n before_is behind_is same also =
      ap set.from_list of_halves ∙ merged_is_union texts_total texts_same (map f front) (map f back) ∙ (λ i. set.union (same i) (also i))
      ∙ sym (of_both (map f before) (map f behind)) ∙ ap set.from_list (sym (map_append f before behind))
      ∙ ap (λ ls. set.from_list (map f ls)) ((λ i. before_is i ++ behind_is i) ∙ take-append-drop n lists)

pub pushed_is_insert : (xs : List Texts) (q : Texts) → set.from_list {R = texts_cmp} (xs ++ q ∷ []) ≡ set.insert (set.from_list xs) q
pushed_is_insert xs q = contents_same _ _ (λ x.
    contains-from_list texts_total (xs ++ q ∷ []) x ∙ any_append (eq_by_cmp texts_cmp x) xs (q ∷ [])
    ∙ turned (list_any (eq_by_cmp texts_cmp x) xs) (eq_by_cmp texts_cmp x q)
    ∙ ap (λ b. eq_by_cmp texts_cmp x q || b) (sym (contains-from_list texts_total xs x)) ∙ sym (contains-insert texts_total (set.from_list xs) q x))
  where
    turned : (a b : Bool) → (a || (b || false)) ≡ (b || a)
    turned true true = refl
    turned true false = refl
    turned false true = refl
    turned false false = refl
