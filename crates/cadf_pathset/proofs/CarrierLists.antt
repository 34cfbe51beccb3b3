-- The carriers of strictly ascending lists, each once, are strictly ascending, and are those of the set.
use Rattle.cadf_pathset.proofs.Common.{◌≡◌, Bool, true, false, cond, List, [], ◌∷◌, ◌++◌, refl, sym, ap, ◌∙◌, subst, inl, inr, ◌⊎◌, map, true≢false, Ordering, Less, Equal, Greater, is_lt, AllByRecursion, IsStrictlySortedBy, Listed, Texts, texts_cmp, texts_total, texts_same, carriers_in, with_carriers_by, last_of, is_above_last, sorted_merge}
use Rattle.cadf_join.specs.Sets as set
use Rattle.cadf_join.proofs.Members as members
use Rattle.cadf_join.specs.laws.Sets as sets
use Rattle.cadf_pathset.proofs.Above.{above_last, last_listed}
use Rattle.cadf_pathset.proofs.Merges.{pushed_rises, merged_is_union}

listed_before : (q : Texts) (xs : List Texts) (x : Texts) → Listed q xs → Listed q (xs ++ x ∷ [])
listed_before q [] x m = absurd m
listed_before q (y ∷ xs) x (inl e) = inl e
listed_before q (y ∷ xs) x (inr m) = inr (listed_before q xs x m)

listed_last : (xs : List Texts) (x : Texts) → Listed x (xs ++ x ∷ [])
listed_last [] x = inl refl
listed_last (y ∷ xs) x = inr (listed_last xs x)

of_more : (q : Texts) (xs : List Texts) (x : Texts) → Listed q (xs ++ x ∷ []) → Listed q xs ⊎ (q ≡ x)
of_more q [] x (inl e) = inr e
of_more q [] x (inr m) = absurd m
of_more q (y ∷ xs) x (inl e) = inl (inl e)
of_more q (y ∷ xs) x (inr m) = elim (of_more q xs x m) as (λ _. Listed q (y ∷ xs) ⊎ (q ≡ x)) [ inl k ↦ inl (inr k) | inr e ↦ inr e ]

pub last-more : (p : Texts) (xs : List Texts) (x : Texts) → last_of p (xs ++ x ∷ []) ≡ x
last-more p [] x = refl
last-more p (y ∷ xs) x = last-more y xs x

-- no further carrier is below the last one found
abbrev pub IsNotBelow : (Texts → Texts) → List Texts → List Texts → Type 0
IsNotBelow carrier found ls = AllByRecursion (λ x. texts_cmp (last_of [] found) (carrier x) ≡ Greater → ⊥) ls

is_found : (found : List Texts) (c : Texts) → (texts_cmp (last_of [] found) c ≡ Greater → ⊥) → is_above_last found c ≡ false → Listed c found
is_found [] c never e = absurd (true≢false e)
is_found (l ∷ ls) c never e = by (texts_cmp (last_of l ls) c) refl e never
  where
    by : (r : Ordering) → texts_cmp (last_of l ls) c ≡ r → is_lt r ≡ false → (r ≡ Greater → ⊥) → Listed c (l ∷ ls)
    by Less is h n = absurd (true≢false h)
    by Equal is h n = subst (λ z. Listed z (l ∷ ls)) (texts_same (last_of l ls) c is) (last_listed l ls)
    by Greater is h n = absurd (n refl)

module _ (carrier : Texts → Texts) where
  keeps : (q : Texts) (ls found : List Texts) → Listed q found → Listed q (carriers_in carrier found ls)
  keeps q [] found m = m
  keeps q (l ∷ ls) found m = keeps q ls (cond (is_above_last found (carrier l)) (found ++ carrier l ∷ []) found) (by (is_above_last found (carrier l)))
    where
      by : (b : Bool) → Listed q (cond b (found ++ carrier l ∷ []) found)
      by true = listed_before q found (carrier l) m
      by false = m

  pub only : (q : Texts) (ls found : List Texts) → Listed q (carriers_in carrier found ls) → Listed q found ⊎ Listed q (map carrier ls)
  only q [] found m = inl m
  only q (l ∷ ls) found m =
      elim (only q ls (cond (is_above_last found (carrier l)) (found ++ carrier l ∷ []) found) m) as (λ _. Listed q found ⊎ Listed q (map carrier (l ∷ ls))) [
        | inl k ↦ by (is_above_last found (carrier l)) k
        | inr k ↦ inr (inr k)
      ]
    where
      by : (b : Bool) → Listed q (cond b (found ++ carrier l ∷ []) found) → Listed q found ⊎ Listed q (map carrier (l ∷ ls))
      by true k = elim (of_more q found (carrier l) k) as (λ _. Listed q found ⊎ Listed q (map carrier (l ∷ ls))) [ inl j ↦ inl j | inr e ↦ inr (inl e) ]
      by false k = inl k

  pub rises : (ls found : List Texts) → IsStrictlySortedBy texts_cmp found → IsStrictlySortedBy texts_cmp (carriers_in carrier found ls)
  rises [] found s = s
  rises (l ∷ ls) found s = rises ls (cond (is_above_last found (carrier l)) (found ++ carrier l ∷ []) found) (by (is_above_last found (carrier l)) refl)
    where
      by : (b : Bool) → is_above_last found (carrier l) ≡ b → IsStrictlySortedBy texts_cmp (cond b (found ++ carrier l ∷ []) found)
      by true e = pushed_rises texts_total texts_same found (carrier l) s (above_last found (carrier l) s e)
      by false e = s

  module _ (in_order : (x y : Texts) → texts_cmp x y ≡ Less → texts_cmp (carrier x) (carrier y) ≡ Greater → ⊥) where
    not_below : (x : Texts) (ls : List Texts) → AllByRecursion (λ y. texts_cmp x y ≡ Less) ls
        → AllByRecursion (λ y. texts_cmp (carrier x) (carrier y) ≡ Greater → ⊥) ls
    not_below x [] a = tt
    not_below x (y ∷ ls) a = (in_order x y a.0, not_below x ls a.1)

    pub each : (q : Texts) (ls found : List Texts) → IsStrictlySortedBy texts_cmp ls → IsNotBelow carrier found ls → Listed q (map carrier ls)
        → Listed q (carriers_in carrier found ls)
    unfolding IsStrictlySortedBy
    each q [] found s n m = absurd m
    each q (l ∷ ls) found s n (inl e) =
        keeps q ls (cond (is_above_last found (carrier l)) (found ++ carrier l ∷ []) found) (by (is_above_last found (carrier l)) refl)
      where
        by : (b : Bool) → is_above_last found (carrier l) ≡ b → Listed q (cond b (found ++ carrier l ∷ []) found)
        by true h = subst (λ z. Listed z (found ++ carrier l ∷ [])) (sym e) (listed_last found (carrier l))
        by false h = subst (λ z. Listed z found) (sym e) (is_found found (carrier l) n.0 h)
    each q (l ∷ ls) found s n (inr m) =
        each q ls (cond (is_above_last found (carrier l)) (found ++ carrier l ∷ []) found) s.1 (by (is_above_last found (carrier l))) m
      where
        by : (b : Bool) → IsNotBelow carrier (cond b (found ++ carrier l ∷ []) found) ls
        by true = subst (λ z. AllByRecursion (λ x. texts_cmp z (carrier x) ≡ Greater → ⊥) ls) (sym (last-more [] found (carrier l))) (not_below l ls s.0)
        by false = n.1

    first_of_none : (ls : List Texts) → IsNotBelow carrier [] ls
    first_of_none [] = tt
    first_of_none (l ∷ ls) = (below_all (carrier l), first_of_none ls)
      where
        below_all : (c : Texts) → texts_cmp [] c ≡ Greater → ⊥
        below_all [] e = cc
        below_all (t ∷ c) e = cc

    map_in : (q : Texts) (xs ys : List Texts) → ((x : Texts) → Listed x xs → Listed x ys) → Listed q (map carrier xs) → Listed q (map carrier ys)
    map_in q [] ys f m = absurd m
    map_in q (x ∷ xs) ys f (inl e) = subst (λ z. Listed z (map carrier ys)) (sym e) (at x ys (f x (inl refl)))
      where
        at : (y : Texts) (zs : List Texts) → Listed y zs → Listed (carrier y) (map carrier zs)
        at y [] k = absurd k
        at y (z ∷ zs) (inl i) = inl (ap carrier i)
        at y (z ∷ zs) (inr k) = inr (at y zs k)
    map_in q (x ∷ xs) ys f (inr m) = map_in q xs ys (λ z k. f z (inr k)) m

    pub with_theirs : (ls : List Texts) → IsStrictlySortedBy texts_cmp ls
        → set.from_list {R = texts_cmp} (sorted_merge texts_cmp true ls (carriers_in carrier [] ls)) ≡ with_carriers_by carrier (set.from_list ls)
    with_theirs ls s =
        let items = set.items (set.from_list {R = texts_cmp} ls) in
        merged_is_union texts_total texts_same ls (carriers_in carrier [] ls)
        ∙ ap (set.union (set.from_list ls)) (sets.same_from_within texts_total texts_same _ _
        (λ q h. elim (only q ls [] (members.from_list_has texts_total texts_same (carriers_in carrier [] ls) q h)) as
        (λ _. set.contains (set.from_list {R = texts_cmp} (map carrier items)) q ≡ true) [
          | inl k ↦ absurd k
          | inr k ↦ members.has_from_list texts_total texts_same (map carrier items) q
              (map_in q ls items
              (λ x m. members.listed_in texts_total texts_same (set.from_list ls) x (members.has_from_list texts_total texts_same ls x m)) k)
        ])
        (λ q h. members.has_from_list texts_total texts_same (carriers_in carrier [] ls) q
        (each q ls [] s (first_of_none ls)
        (map_in q items ls
        (λ x m. members.from_list_has texts_total texts_same ls x (members.has_listed texts_total texts_same (set.from_list ls) x m))
        (members.from_list_has texts_total texts_same (map carrier items) q h)))))
