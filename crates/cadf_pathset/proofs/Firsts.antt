-- The members of a set after a given one, from an ascending list of them that may have duplicates.
use Rattle.cadf_pathset.proofs.Common.{◌≡◌, Bool, true, false, cond, List, [], ◌∷◌, Option, Some, refl, sym, ap, ◌∙◌, subst, ◌||◌, Ordering, Less, Equal, Greater, eq_by_cmp, IsTotalOrder, AllByRecursion, find, list_any, IsStrictlySortedBy, IsAntisymmetric, contains-from_list, Listed, listed_any, contains-rising, rising-from_list, rising_is_sorted, listed-rising, listed-AllByRecursion, AllByRecursion-listed}
use Rattle.cadf_join.specs.Sets as set
use Rattle.cadf_pathset.proofs.Grown.{all_turned}

module _ {K : Type 0} {R : K → K → Ordering} (o : IsTotalOrder R) (same : IsAntisymmetric R) where
  abbrev pub DoesNotFall : List K → Type 0
  DoesNotFall [] = Unit {0}
  DoesNotFall (k ∷ ks) = AllByRecursion (λ x. R k x ≡ Greater → ⊥) ks × DoesNotFall ks

  pub below_all : (k : K) (ks : List K) → AllByRecursion (λ x. R k x ≡ Less) ks → set.rising (set.from_list {R = R} (k ∷ ks)) ≡ k
      ∷ set.rising (set.from_list {R = R} ks)
  unfolding IsStrictlySortedBy
  below_all k ks h =
      let s = set.from_list {R = R} ks in
      ap set.rising (set.same_set o same (set.from_list {R = R} (k ∷ ks)) (set.from_list (k ∷ set.rising s)) (λ q.
      contains-from_list o (k ∷ ks) q ∙ ap (λ b. eq_by_cmp R q k || b) (sym (contains-from_list o ks q) ∙ contains-rising o s q)
      ∙ sym (contains-from_list o (k ∷ set.rising s) q)))
      ∙ rising-from_list o same (k ∷ set.rising s) (
        listed-AllByRecursion (λ x. R k x ≡ Less) (set.rising s)
            (λ x m. AllByRecursion-listed (λ y. R k y ≡ Less) ks h x (listed_any o same ks x (sym (contains-from_list o ks x) ∙ listed-rising o same s x m))),
        rising_is_sorted o same s,
      )

  further : (k j : K) → R k j ≡ Less → (ks : List K) → AllByRecursion (λ x. R j x ≡ Greater → ⊥) ks → AllByRecursion (λ x. R k x ≡ Less) ks
  further k j less ks h = all_turned (λ x. R j x ≡ Greater → ⊥) (λ x. R k x ≡ Less) ks (λ x n. by x (R j x) refl n) h
    where
      by : (x : K) (r : Ordering) → R j x ≡ r → (R j x ≡ Greater → ⊥) → R k x ≡ Less
      by x Less e n = o.trans k j x less e
      by x Equal e n = subst (λ z. R k z ≡ Less) (same j x e) less
      by x Greater e n = absurd (n e)

  pub twice : (j : K) (ks : List K) → set.from_list {R = R} (j ∷ j ∷ ks) ≡ set.from_list (j ∷ ks)
  twice j ks = set.same_set o same (set.from_list {R = R} (j ∷ j ∷ ks)) (set.from_list (j ∷ ks))
      (λ q. contains-from_list o (j ∷ j ∷ ks) q ∙ again (eq_by_cmp R q j) (list_any (eq_by_cmp R q) ks) ∙ sym (contains-from_list o (j ∷ ks) q))
    where
      again : (b c : Bool) → (b || (b || c)) ≡ (b || c)
      again true c = refl
      again false c = refl

  -- searching the members of its set is searching the list
  pub find_rising : (f : K → Bool) (ks : List K) → DoesNotFall ks → find f (set.rising (set.from_list {R = R} ks)) ≡ find f ks
  unfolding IsStrictlySortedBy
  find_rising f [] h = ap (find f) (rising-from_list o same [] tt)
  find_rising f (k ∷ []) h = ap (find f) (rising-from_list o same (k ∷ []) (tt, tt))
  find_rising f (k ∷ j ∷ ks) h = by (R k j) refl (find_rising f (j ∷ ks) h.1)
    where
      again : (b : Bool) (x y : Option K) → cond b x y ≡ cond b x (cond b x y)
      again true x y = refl
      again false x y = refl

      by : (r : Ordering) → R k j ≡ r → find f (set.rising (set.from_list {R = R} (j ∷ ks))) ≡ find f (j ∷ ks)
          → find f (set.rising (set.from_list {R = R} (k ∷ j ∷ ks))) ≡ find f (k ∷ j ∷ ks)
      by Less e on = ap (find f) (below_all k (j ∷ ks) (e, further k j e ks h.1.0)) ∙ ap (cond (f k) (Some k)) on
      by Equal e on =
          subst (λ z. find f (set.rising (set.from_list {R = R} (z ∷ j ∷ ks))) ≡ find f (z ∷ j ∷ ks)) (sym (same k j e))
          (ap (λ s. find f (set.rising s)) (twice j ks) ∙ on ∙ again (f j) (Some j) (find f ks))
      by Greater e on = absurd (h.0.0 e)
