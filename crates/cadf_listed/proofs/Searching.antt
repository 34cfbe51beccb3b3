-- A binary search among names that rise finds each that is there.
use Rattle.cadf_listed.proofs.Common.{◌≡◌, ◌∙◌, ◌+◌, ◌<◌, ℕ, zero, suc, Bool, true, false, List, [], ◌∷◌, length, refl, ap, arith, searchable_from_sorted, Less-from_sorted, common_steps, ◌||◌, nat_lt, slice_index_or, ltb-true, ltb-false, AllWithin, HoldsAt, list_any, IsNonDecreasingBy, IsPartitionPoint, eq_by_cmp, is_eq, is_lt, ordering_index, ordering_reverse, Ordering, Less, Equal, Greater, Text, text_cmp, text_total, AreRising}
use Rattle.cadf_join.specs.Sets as set

module _ (q : Text) where
  abbrev pub order : Text → Ordering
  order n = text_cmp n q

  -- whether one is the other, whichever is compared
  tied : (n : Text) → eq_by_cmp text_cmp q n ≡ is_eq (ordering_reverse (order n))
  tied n = ap is_eq (text_total.antisymm q n)

  or_right : (a b : Bool) → b ≡ true → (a || b) ≡ true
  or_right a b e = grind (arith, common_steps)

  any_at : (ns : List Text) (i : ℕ) → i < length ns → HoldsAt (λ n. order n ≡ Equal) ns i → list_any (eq_by_cmp text_cmp q) ns ≡ true
  any_at [] i low h = absurd (omega (arith, low))
  any_at (n ∷ ns) zero low h = ap (λ b. b || list_any (eq_by_cmp text_cmp q) ns) (tied n ∙ ap (λ o. is_eq (ordering_reverse o)) (h n))
  any_at (n ∷ ns) (suc i) low h = or_right (eq_by_cmp text_cmp q n) _ (any_at ns i (omega (arith, low)) h)

  none_at : (ns : List Text) → AllWithin (λ n. eq_by_cmp text_cmp q n ≡ false) ns 0 (length ns) → list_any (eq_by_cmp text_cmp q) ns ≡ false
  none_at [] h = refl
  none_at (n ∷ ns) h = λ i. h 0 n (omega arith) (omega arith) i || none_at ns (λ k d from low. h (suc k) d (omega arith) (omega (arith, low))) i

  pub found : (ns : List Text) (i : ℕ) → i < length ns → HoldsAt (λ n. order n ≡ Equal) ns i → set.contains {R = text_cmp} (set.from_list ns) q ≡ true
  found ns i low h = set.contains-from_list text_total ns q ∙ any_at ns i low h

  pub missing : (ns : List Text) (i : ℕ) → AreRising ns
      → (IsNonDecreasingBy (λ n. ordering_index (order n)) ns → IsPartitionPoint (λ n. order n ≡ Less) (λ n. order n ≡ Greater) ns i)
      → set.contains {R = text_cmp} (set.from_list ns) q ≡ false
  missing ns i up h = set.contains-from_list text_total ns q ∙ none_at ns apart
    where
      after : (a b : Text) → text_cmp a b ≡ Less → is_lt (text_cmp b a) ≡ false
      after a b e = ap is_lt (text_total.antisymm b a ∙ ap ordering_reverse e)

      point : IsPartitionPoint (λ n. order n ≡ Less) (λ n. order n ≡ Greater) ns i
      point = h (searchable_from_sorted text_total (λ n. n) ns q (λ k d from low.
          after (slice_index_or ns k d) (slice_index_or ns (k + 1) d) (Less-from_sorted text_cmp ns k (k + 1) d up (omega arith) low)))

      not_tied : (n : Text) (o : Ordering) → order n ≡ o → is_eq (ordering_reverse o) ≡ false → eq_by_cmp text_cmp q n ≡ false
      not_tied n o e f = tied n ∙ ap (λ p. is_eq (ordering_reverse p)) e ∙ f

      apart : AllWithin (λ n. eq_by_cmp text_cmp q n ≡ false) ns 0 (length ns)
      apart k d from low = by (nat_lt k i) refl
        where
          by : (b : Bool) → nat_lt k i ≡ b → eq_by_cmp text_cmp q (slice_index_or ns k d) ≡ false
          by true e = not_tied (slice_index_or ns k d) Less (point.0 k d (omega arith) (ltb-true _ _ e)) refl
          by false e = not_tied (slice_index_or ns k d) Greater (point.1 k d (ltb-false _ _ e) low) refl
