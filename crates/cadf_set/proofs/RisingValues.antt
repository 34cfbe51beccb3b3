-- Strictly ascending lists: lists one after another, the images of a list's elements, and the elements that a filter keeps.
use Rattle.cadf_set.proofs.Common.{common_steps, ◌≡◌, List, [], ◌∷◌, ◌++◌, map, refl, sym, ap, ◌∙◌, subst, inl, inr, arith, Option, Some, None, filter_map, flat_map, cons_option, IsStrictlySortedBy, ordering_then, tied_itself, Listed, rising, AllByRecursion-listed, listed-AllByRecursion, rising_is_sorted, listed_either, Text, Texts, Contents, text_cmp, texts_cmp, text_total, texts_total, texts_same, strip, only, values, flat_map_listed, filter_map_listed, map_listed}
use Rattle.std.proofs.Common.{Ordering, Less}
use Rattle.cadf_set.proofs.ShownAgain.{value_is}

module _ {K : Type 0} (R : K → K → Ordering) where
  pub sorted_append : (xs ys : List K) → IsStrictlySortedBy R xs → IsStrictlySortedBy R ys → ((x y : K) → Listed x xs → Listed y ys → R x y ≡ Less)
      → IsStrictlySortedBy R (xs ++ ys)
  unfolding IsStrictlySortedBy
  sorted_append [] ys a b cross = b
  sorted_append (x ∷ xs) ys a b cross = (
    listed-AllByRecursion (λ y. R x y ≡ Less) (xs ++ ys) (λ y l. elim (listed_either y xs ys l) [
      | inl m ↦ AllByRecursion-listed (λ z. R x z ≡ Less) xs a.0 y m
      | inr m ↦ cross x y (inl refl) m
    ]),
    sorted_append xs ys a.1 b (λ v w l m. cross v w (inr l) m),
  )

  pub sorted_flat_map : {A : Type 0} (Q : A → A → Ordering) (f : A → List K) (ks : List A) → IsStrictlySortedBy Q ks → ((k : A) → IsStrictlySortedBy R (f k))
      → ((j k : A) (x y : K) → Q j k ≡ Less → Listed x (f j) → Listed y (f k) → R x y ≡ Less) → IsStrictlySortedBy R (flat_map f ks)
  unfolding IsStrictlySortedBy
  sorted_flat_map Q f [] h each cross = tt
  sorted_flat_map Q f (k ∷ ks) h each cross =
      sorted_append (f k) (flat_map f ks) (each k) (sorted_flat_map Q f ks h.1 each cross)
      (λ x y l m. let t = flat_map_listed f ks y m in cross k t.0 x y (AllByRecursion-listed (λ j. Q k j ≡ Less) ks h.0 t.0 t.1) l t.2)

  pub sorted_map : {A : Type 0} (Q : A → A → Ordering) (g : A → K) (xs : List A) → IsStrictlySortedBy Q xs → ((x y : A) → Q x y ≡ Less → R (g x) (g y) ≡ Less)
      → IsStrictlySortedBy R (map g xs)
  unfolding IsStrictlySortedBy
  sorted_map Q g [] h up = tt
  sorted_map Q g (x ∷ xs) h up = (
    listed-AllByRecursion (λ y. R (g x) y ≡ Less) (map g xs) (λ y l.
        let t = map_listed g xs y l in
        subst (λ z. R (g x) z ≡ Less) (sym t.2) (up x t.0 (AllByRecursion-listed (λ j. Q x j ≡ Less) xs h.0 t.0 t.1))),
    sorted_map Q g xs h.1 up,
  )

  pub sorted_filter_map : {A : Type 0} (Q : A → A → Ordering) (f : A → Option K) (xs : List A) → IsStrictlySortedBy Q xs
      → ((x y : A) (v w : K) → Q x y ≡ Less → f x ≡ Some v → f y ≡ Some w → R v w ≡ Less) → IsStrictlySortedBy R (filter_map f xs)
  unfolding IsStrictlySortedBy
  sorted_filter_map Q f [] h up = tt
  sorted_filter_map Q f (x ∷ xs) h up = by (sorted_filter_map Q f xs h.1 up) (f x) refl
    where
      by : IsStrictlySortedBy R (filter_map f xs) → (o : Option K) → f x ≡ o → IsStrictlySortedBy R (cons_option o (filter_map f xs))
      by rest None is = rest
      by rest (Some v) is = (
        listed-AllByRecursion (λ y. R v y ≡ Less) (filter_map f xs) (λ y l.
            let t = filter_map_listed f xs y l in
            up x t.0 v y (AllByRecursion-listed (λ j. Q x j ≡ Less) xs h.0 t.0 t.1) is t.2),
        rest,
      )

-- lists with a common prefix are in the order of their suffixes
pub same_first : (l : Text) (xs ys : Texts) → texts_cmp (l ∷ xs) (l ∷ ys) ≡ texts_cmp xs ys
same_first l xs ys = ap (λ o. ordering_then o (texts_cmp xs ys)) (tied_itself text_total l)

pub lower_first : (k l : Text) (xs ys : Texts) → text_cmp k l ≡ Less → texts_cmp (k ∷ xs) (l ∷ ys) ≡ Less
lower_first k l xs ys h = ap (λ o. ordering_then o (texts_cmp xs ys)) h

single_first : (x y : Text) → texts_cmp (x ∷ []) (y ∷ []) ≡ text_cmp x y
single_first x y = grind (arith, common_steps)

-- the values of one key are in the order of their atoms
pub value_order : (l n x y : Text) → texts_cmp (l ∷ n ∷ x ∷ []) (l ∷ n ∷ y ∷ []) ≡ text_cmp x y
value_order l n x y = same_first l (n ∷ x ∷ []) (n ∷ y ∷ []) ∙ same_first n (x ∷ []) (y ∷ []) ∙ single_first x y

pub values_rise : (s : Contents) (l n : Text) → IsStrictlySortedBy text_cmp (values s l n)
values_rise s l n = sorted_filter_map text_cmp texts_cmp (λ q. only (strip (l ∷ n ∷ []) q)) (rising s) (rising_is_sorted texts_total texts_same s)
    (λ p q v w less hp hq.
    sym (value_order l n v w)
    ∙ sym (λ i. texts_cmp (value_is l n p v hp i) (value_is l n q w hq i))
    ∙ less)
