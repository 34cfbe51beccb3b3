-- The sets of two strictly ascending lists merged, and of the first without the second.
use Rattle.cadf_pathset.proofs.Common.{◌≡◌, true, List, [], ◌∷◌, ◌++◌, refl, sym, ap, ◌∙◌, subst, inl, inr, ◌⊎◌, ℕ, suc, zero, take, drop, true≢false, Ordering, Less, Equal, Greater, match_ordering, ordering_reverse, is_eq, AllByRecursion, not, IsStrictlySortedBy, IsTotalOrder, tied_itself, IsAntisymmetric, Listed, AllByRecursion-listed, listed-AllByRecursion, contains-from_list, contains-union, contains-difference, any_listed, listed_any, sorted_merge, merge_step, sorted_without, without_step}
use Rattle.cadf_join.specs.Sets as set
use Rattle.cadf_join.specs.laws.Sets as sets
use Rattle.cadf_pathset.proofs.Grown.{all_more}

module _ {K : Type 0} (R : K → K → Ordering) where
  pub alone : (xs : List K) → sorted_merge R true xs [] ≡ xs
  alone [] = refl
  alone (x ∷ xs) = refl

  module _ (P : K → Type 0) where
    all_step : (x : K) (xs : List K) (on : List K → List K) → P x → AllByRecursion P xs → ((ys : List K) → AllByRecursion P ys → AllByRecursion P (on ys))
        → (ys : List K) → AllByRecursion P ys → AllByRecursion P (merge_step R true x xs on ys)
    all_step x xs on px pxs h [] a = (px, pxs)
    all_step x xs on px pxs h (y ∷ ys) a = by (R x y) (all_step x xs on px pxs h ys a.1)
      where
        by : (r : Ordering) → AllByRecursion P (merge_step R true x xs on ys)
            → AllByRecursion P (match_ordering r (x ∷ on (y ∷ ys)) (x ∷ on ys) (y ∷ merge_step R true x xs on ys))
        by Less rest = (px, h (y ∷ ys) a)
        by Equal rest = (px, h ys a.1)
        by Greater rest = (a.0, rest)

    all_merged : (xs ys : List K) → AllByRecursion P xs → AllByRecursion P ys → AllByRecursion P (sorted_merge R true xs ys)
    all_merged [] ys a b = b
    all_merged (x ∷ xs) ys a b = all_step x xs (sorted_merge R true xs) a.0 a.1 (λ zs. all_merged xs zs a.1) ys b

    all_left : (x : K) (xs : List K) (on : List K → List K) → P x → AllByRecursion P xs → ((ys : List K) → AllByRecursion P (on ys)) → (ys : List K)
        → AllByRecursion P (without_step R x xs on ys)
    all_left x xs on px pxs h [] = (px, pxs)
    all_left x xs on px pxs h (y ∷ ys) = by (R x y) (all_left x xs on px pxs h ys)
      where
        by : (r : Ordering) → AllByRecursion P (without_step R x xs on ys)
            → AllByRecursion P (match_ordering r (x ∷ on (y ∷ ys)) (on ys) (without_step R x xs on ys))
        by Less rest = (px, h (y ∷ ys))
        by Equal rest = h ys
        by Greater rest = rest

    all_without : (xs ys : List K) → AllByRecursion P xs → AllByRecursion P (sorted_without R xs ys)
    all_without [] ys a = tt
    all_without (x ∷ xs) ys a = all_left x xs (sorted_without R xs) a.0 a.1 (λ zs. all_without xs zs a.1) ys

  keeps_first : (q x : K) (xs : List K) (on : List K → List K) → ((ys : List K) → Listed q xs → Listed q (on ys)) → (ys : List K) → Listed q (x ∷ xs)
      → Listed q (merge_step R true x xs on ys)
  keeps_first q x xs on h [] l = l
  keeps_first q x xs on h (y ∷ ys) l = by (R x y) l (keeps_first q x xs on h ys l)
    where
      by : (r : Ordering) → Listed q (x ∷ xs) → Listed q (merge_step R true x xs on ys)
          → Listed q (match_ordering r (x ∷ on (y ∷ ys)) (x ∷ on ys) (y ∷ merge_step R true x xs on ys))
      by Less (inl e) rest = inl e
      by Less (inr m) rest = inr (h (y ∷ ys) m)
      by Equal (inl e) rest = inl e
      by Equal (inr m) rest = inr (h ys m)
      by Greater m rest = inr rest

  merged_first : (q : K) (xs ys : List K) → Listed q xs → Listed q (sorted_merge R true xs ys)
  merged_first q [] ys l = absurd l
  merged_first q (x ∷ xs) ys l = keeps_first q x xs (sorted_merge R true xs) (λ zs. merged_first q xs zs) ys l

module _ {K : Type 0} {R : K → K → Ordering} (o : IsTotalOrder R) (same : IsAntisymmetric R) where
  turned : (x y : K) → R x y ≡ Greater → R y x ≡ Less
  turned x y e = o.antisymm y x ∙ ap ordering_reverse e

  not_itself : (x y : K) → R x y ≡ Less → x ≡ y → ⊥
  not_itself x y lt e = true≢false (ap is_eq (sym (subst (λ z. R x z ≡ Equal) e (tied_itself o x)) ∙ lt))

  all_above : (x y : K) (ys : List K) → R x y ≡ Less → AllByRecursion (λ z. R y z ≡ Less) ys → AllByRecursion (λ z. R x z ≡ Less) ys
  all_above x y [] lt a = tt
  all_above x y (z ∷ ys) lt a = (o.trans x y z lt a.0, all_above x y ys lt a.1)

  keeps_second : (q x : K) (xs : List K) (on : List K → List K) → ((ys : List K) → Listed q ys → Listed q (on ys)) → (ys : List K) → Listed q ys
      → Listed q (merge_step R true x xs on ys)
  keeps_second q x xs on h [] l = absurd l
  keeps_second q x xs on h (y ∷ ys) l = by (R x y) refl l (λ m. keeps_second q x xs on h ys m)
    where
      by : (r : Ordering) → R x y ≡ r → Listed q (y ∷ ys) → (Listed q ys → Listed q (merge_step R true x xs on ys))
          → Listed q (match_ordering r (x ∷ on (y ∷ ys)) (x ∷ on ys) (y ∷ merge_step R true x xs on ys))
      by Less is m rest = inr (h (y ∷ ys) m)
      by Equal is (inl e) rest = inl (e ∙ sym (same x y is))
      by Equal is (inr m) rest = inr (h ys m)
      by Greater is (inl e) rest = inl e
      by Greater is (inr m) rest = inr (rest m)

  merged_second : (q : K) (xs ys : List K) → Listed q ys → Listed q (sorted_merge R true xs ys)
  merged_second q [] ys l = l
  merged_second q (x ∷ xs) ys l = keeps_second q x xs (sorted_merge R true xs) (λ zs. merged_second q xs zs) ys l

  of_either : (q : K) (xs ys : List K) → Listed q (sorted_merge R true xs ys) → Listed q xs ⊎ Listed q ys
  of_either q xs ys l = AllByRecursion-listed (λ z. Listed z xs ⊎ Listed z ys) (sorted_merge R true xs ys)
      (all_merged R (λ z. Listed z xs ⊎ Listed z ys) xs ys (listed-AllByRecursion _ xs (λ z m. inl m)) (listed-AllByRecursion _ ys (λ z m. inr m))) q l

  rises_step : (x : K) (xs : List K) → IsStrictlySortedBy R (x ∷ xs)
      → ((ys : List K) → IsStrictlySortedBy R ys → IsStrictlySortedBy R (sorted_merge R true xs ys)) → (ys : List K) → IsStrictlySortedBy R ys
      → IsStrictlySortedBy R (sorted_merge R true (x ∷ xs) ys)
  unfolding IsStrictlySortedBy
  rises_step x xs s h [] t = s
  rises_step x xs s h (y ∷ ys) t = by (R x y) refl (rises_step x xs s h ys t.1)
    where
      by : (r : Ordering) → R x y ≡ r → IsStrictlySortedBy R (sorted_merge R true (x ∷ xs) ys)
          → IsStrictlySortedBy R
          (match_ordering r (x ∷ sorted_merge R true xs (y ∷ ys)) (x ∷ sorted_merge R true xs ys) (y ∷ sorted_merge R true (x ∷ xs) ys))
      by Less is rest = (all_merged R (λ z. R x z ≡ Less) xs (y ∷ ys) s.0 (is, all_above x y ys is t.0), h (y ∷ ys) t)
      by Equal is rest = (all_merged R (λ z. R x z ≡ Less) xs ys s.0 (subst (λ w. AllByRecursion (λ z. R w z ≡ Less) ys) (sym (same x y is)) t.0), h ys t.1)
      by Greater is rest = (all_merged R (λ z. R y z ≡ Less) (x ∷ xs) ys (turned x y is, all_above y x xs (turned x y is) s.0) t.0, rest)

  pub merged_rises : (xs ys : List K) → IsStrictlySortedBy R xs → IsStrictlySortedBy R ys → IsStrictlySortedBy R (sorted_merge R true xs ys)
  unfolding IsStrictlySortedBy
  merged_rises [] ys s t = t
  merged_rises (x ∷ xs) ys s t = rises_step x xs s (λ zs. merged_rises xs zs s.1) ys t

  left_rises : (x : K) (xs : List K) → IsStrictlySortedBy R (x ∷ xs) → ((ys : List K) → IsStrictlySortedBy R (sorted_without R xs ys)) → (ys : List K)
      → IsStrictlySortedBy R (sorted_without R (x ∷ xs) ys)
  unfolding IsStrictlySortedBy
  left_rises x xs s h [] = s
  left_rises x xs s h (y ∷ ys) = by (R x y) (left_rises x xs s h ys)
    where
      by : (r : Ordering) → IsStrictlySortedBy R (sorted_without R (x ∷ xs) ys)
          → IsStrictlySortedBy R (match_ordering r (x ∷ sorted_without R xs (y ∷ ys)) (sorted_without R xs ys) (sorted_without R (x ∷ xs) ys))
      by Less rest = (all_without R (λ z. R x z ≡ Less) xs (y ∷ ys) s.0, h (y ∷ ys))
      by Equal rest = h ys
      by Greater rest = rest

  pub without_rises : (xs ys : List K) → IsStrictlySortedBy R xs → IsStrictlySortedBy R (sorted_without R xs ys)
  unfolding IsStrictlySortedBy
  without_rises [] ys s = tt
  without_rises (x ∷ xs) ys s = left_rises x xs s (λ zs. without_rises xs zs s.1) ys

  of_first : (q : K) (xs ys : List K) → Listed q (sorted_without R xs ys) → Listed q xs
  of_first q xs ys l =
      AllByRecursion-listed (λ z. Listed z xs) (sorted_without R xs ys) (all_without R (λ z. Listed z xs) xs ys (listed-AllByRecursion _ xs (λ z m. m))) q l

  keeps_lacking : (q x : K) (xs : List K) (on : List K → List K) → ((ys : List K) → Listed q xs → (Listed q ys → ⊥) → Listed q (on ys)) → (ys : List K)
      → Listed q (x ∷ xs) → (Listed q ys → ⊥) → Listed q (without_step R x xs on ys)
  keeps_lacking q x xs on h [] l n = l
  keeps_lacking q x xs on h (y ∷ ys) l n = by (R x y) refl l (keeps_lacking q x xs on h ys l (λ k. n (inr k)))
    where
      by : (r : Ordering) → R x y ≡ r → Listed q (x ∷ xs) → Listed q (without_step R x xs on ys)
          → Listed q (match_ordering r (x ∷ on (y ∷ ys)) (on ys) (without_step R x xs on ys))
      by Less is (inl e) rest = inl e
      by Less is (inr m) rest = inr (h (y ∷ ys) m n)
      by Equal is (inl e) rest = absurd (n (inl (e ∙ same x y is)))
      by Equal is (inr m) rest = h ys m (λ k. n (inr k))
      by Greater is m rest = rest

  lacking : (q : K) (xs ys : List K) → Listed q xs → (Listed q ys → ⊥) → Listed q (sorted_without R xs ys)
  lacking q [] ys l n = absurd l
  lacking q (x ∷ xs) ys l n = keeps_lacking q x xs (sorted_without R xs) (λ zs. lacking q xs zs) ys l n

  none_step : (q x : K) (xs : List K) → IsStrictlySortedBy R (x ∷ xs)
      → ((ys : List K) → IsStrictlySortedBy R ys → Listed q (sorted_without R xs ys) → Listed q ys → ⊥) → (ys : List K) → IsStrictlySortedBy R ys
      → Listed q (sorted_without R (x ∷ xs) ys) → Listed q ys → ⊥
  unfolding IsStrictlySortedBy
  none_step q x xs s h [] t l k = k
  none_step q x xs s h (y ∷ ys) t l k = by (R x y) refl l k (λ m. none_step q x xs s h ys t.1 m)
    where
      above : Listed q xs → R x q ≡ Less
      above m = AllByRecursion-listed (λ z. R x z ≡ Less) xs s.0 q m

      not_lower : R y x ≡ Less → Listed q (x ∷ xs) → q ≡ y → ⊥
      not_lower lt (inl e) is = not_itself y x lt (sym is ∙ e)
      not_lower lt (inr m) is = not_itself y q (o.trans y x q lt (above m)) (sym is)

      by : (r : Ordering) → R x y ≡ r → Listed q (match_ordering r (x ∷ sorted_without R xs (y ∷ ys)) (sorted_without R xs ys) (sorted_without R (x ∷ xs) ys))
          → Listed q (y ∷ ys) → (Listed q (sorted_without R (x ∷ xs) ys) → Listed q ys → ⊥) → ⊥
      by Less is (inl e) (inl k) rest = not_itself x y is (sym e ∙ k)
      by Less is (inl e) (inr k) rest = not_itself x q (AllByRecursion-listed (λ z. R x z ≡ Less) ys (all_above x y ys is t.0) q k) (sym e)
      by Less is (inr m) k rest = h (y ∷ ys) t m k
      by Equal is m (inl k) rest = not_itself x q (above (of_first q xs ys m)) (same x y is ∙ sym k)
      by Equal is m (inr k) rest = h ys t.1 m k
      by Greater is m (inl k) rest = not_lower (turned x y is) (of_first q (x ∷ xs) ys m) k
      by Greater is m (inr k) rest = rest m k

  none_of_second : (q : K) (xs ys : List K) → IsStrictlySortedBy R xs → IsStrictlySortedBy R ys → Listed q (sorted_without R xs ys) → Listed q ys → ⊥
  unfolding IsStrictlySortedBy
  none_of_second q [] ys s t l k = l
  none_of_second q (x ∷ xs) ys s t l k = none_step q x xs s (λ zs. none_of_second q xs zs s.1) ys t l k

  has : (ks : List K) (q : K) → Listed q ks → set.contains (set.from_list {R = R} ks) q ≡ true
  has ks q l = contains-from_list o ks q ∙ any_listed o same ks q l

  had : (ks : List K) (q : K) → set.contains (set.from_list {R = R} ks) q ≡ true → Listed q ks
  had ks q h = listed_any o same ks q (sym (contains-from_list o ks q) ∙ h)

  pub merged_is_union : (xs ys : List K) → set.from_list {R = R} (sorted_merge R true xs ys) ≡ set.union (set.from_list xs) (set.from_list ys)
  merged_is_union xs ys = sets.same_from_within o same _ _
      (λ q h. contains-union o (set.from_list xs) (set.from_list ys) q ∙ elim (of_either q xs ys (had (sorted_merge R true xs ys) q h)) [
        | inl l ↦ sets.or_left _ _ (has xs q l)
        | inr l ↦ sets.or_right _ _ (has ys q l)
      ])
      (λ q h. has (sorted_merge R true xs ys) q
      (sets.or_cases {P = Listed q (sorted_merge R true xs ys)} _ _ (sym (contains-union o (set.from_list xs) (set.from_list ys) q) ∙ h)
      (λ a. merged_first R q xs ys (had xs q a))
      (λ b. merged_second q xs ys (had ys q b))))

  pub without_is_difference : (xs ys : List K) → IsStrictlySortedBy R xs → IsStrictlySortedBy R ys
      → set.from_list {R = R} (sorted_without R xs ys) ≡ set.difference (set.from_list xs) (set.from_list ys)
  without_is_difference xs ys s t = sets.same_from_within o same _ _
      (λ q h. let l = had (sorted_without R xs ys) q h in
      contains-difference o (set.from_list xs) (set.from_list ys) q
      ∙ sets.and_both _ _ (has xs q (of_first q xs ys l)) (ap not (sets.false_from _ (λ there. none_of_second q xs ys s t l (had ys q there)))))
      (λ q h. let both = sym (contains-difference o (set.from_list xs) (set.from_list ys) q) ∙ h in
      has (sorted_without R xs ys) q
      (lacking q xs ys (had xs q (sets.and_first _ _ both)) (λ k. true≢false (sym (sets.and_second _ _ both) ∙ ap not (has ys q k)))))

  pub from_list-nil : set.from_list {R = R} [] ≡ set.empty
  from_list-nil = set.same_set o same (set.from_list []) set.empty (λ q. contains-from_list o [] q ∙ sym (set.contains-empty R q))

  pub nil_rises : IsStrictlySortedBy R []
  unfolding IsStrictlySortedBy
  nil_rises = tt

  rises_before : (xs : List K) (x : K) → IsStrictlySortedBy R xs → ((y : K) → Listed y xs → R y x ≡ Less) → IsStrictlySortedBy R (xs ++ x ∷ [])
  unfolding IsStrictlySortedBy
  rises_before [] x s below = (tt, tt)
  rises_before (y ∷ xs) x s below = (all_more (λ z. R y z ≡ Less) xs x s.0 (below y (inl refl)), rises_before xs x s.1 (λ z m. below z (inr m)))

  pub pushed_rises : (xs : List K) (x : K) → IsStrictlySortedBy R xs → ((y : K) → set.contains (set.from_list {R = R} xs) y ≡ true → R y x ≡ Less)
      → IsStrictlySortedBy R (xs ++ x ∷ [])
  pushed_rises xs x s below = rises_before xs x s (λ y m. below y (has xs y m))

  -- what is below the next of theirs comes first, and then that one or its equal
  pub merge_skip : (xs : List K) (y : K) (ys : List K) (n : ℕ) → AllByRecursion (λ l. R l y ≡ Less) (take n xs)
      → sorted_merge R true xs (y ∷ ys) ≡ take n xs ++ sorted_merge R true (drop n xs) (y ∷ ys)
  merge_skip xs y ys zero h = refl
  merge_skip [] y ys (suc n) h = refl
  merge_skip (x ∷ xs) y ys (suc n) h =
      ap (λ r. match_ordering r (x ∷ sorted_merge R true xs (y ∷ ys)) (x ∷ sorted_merge R true xs ys) (y ∷ merge_step R true x xs (sorted_merge R true xs) ys))
      h.0
      ∙ ap (λ z. x ∷ z) (merge_skip xs y ys n h.1)
