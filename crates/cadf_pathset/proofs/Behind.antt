-- The suffixes after a text in ascending lists, and the first texts of the lists.
use Rattle.cadf_pathset.proofs.Common.{common_steps, ◌≡◌, ◌≤◌, ℕ, suc, zero, true, false, cond, List, [], ◌∷◌, Option, Some, None, refl, sym, ap, ◌∙◌, subst, length, take, drop, get_or, map, ◌<◌, ◌+◌, arith, Bor, at_drop_more, true≢false, Ordering, Less, Equal, Greater, is_lt, is_eq, eq_by_cmp, match_ordering, ordering_reverse, AllByRecursion, cons_option, filter_map, find, IsStrictlySortedBy, Text, Texts, Contents, text_cmp, texts_cmp, is_after, next_after, tails_of, suffixes_of, text_total, text_same, texts_total, texts_same, firsts, heads, texts_at, rising-from_list, rising_is_sorted, rising-section, first_text, is_before, strip, suffixes_after}
use Rattle.cadf_join.specs.Sets as set
use Rattle.cadf_pathset.proofs.Firsts.{DoesNotFall, find_rising}
use Rattle.cadf_pathset.proofs.Halving.{first_dropped}

module _ (t : Text) where
  turned : (u : Text) → text_cmp t u ≡ ordering_reverse (text_cmp u t)
  turned u = text_total.antisymm t u

  -- a first text that is not above t
  at_most : (u : Text) (c : Texts) → is_before (t ∷ []) true (u ∷ c) ≡ true → is_after text_cmp (Some t) u ≡ false
  at_most u c h = ap is_lt (turned u) ∙ by (text_cmp u t) h
    where
      by : (r : Ordering) → match_ordering (match_ordering r Less Equal Greater) true true false ≡ true → is_lt (ordering_reverse r) ≡ false
      by Less k = refl
      by Equal k = refl
      by Greater k = absurd (true≢false (sym k))

  above : (u : Text) (c : Texts) → is_before (t ∷ []) true (u ∷ c) ≡ false → is_after text_cmp (Some t) u ≡ true
  above u c h = ap is_lt (turned u) ∙ by (text_cmp u t) h
    where
      by : (r : Ordering) → match_ordering (match_ordering r Less Equal Greater) true true false ≡ false → is_lt (ordering_reverse r) ≡ true
      by Less k = absurd (true≢false k)
      by Equal k = absurd (true≢false k)
      by Greater k = refl

  firsts_skip : (ls : List Texts) (n : ℕ) → AllByRecursion (λ l. is_before (t ∷ []) true l ≡ true) (take n ls)
      → find (is_after text_cmp (Some t)) (firsts ls) ≡ find (is_after text_cmp (Some t)) (firsts (drop n ls))
  firsts_skip ls zero h = refl
  firsts_skip [] (suc n) h = refl
  firsts_skip ([] ∷ ls) (suc n) h = firsts_skip ls n h.1
  firsts_skip ((u ∷ c) ∷ ls) (suc n) h =
      ap (λ b. cond b (Some u) (find (is_after text_cmp (Some t)) (firsts ls))) (at_most u c h.0) ∙ firsts_skip ls n h.1

  firsts_found : (ls : List Texts) → AllByRecursion (λ l. is_before (t ∷ []) true l ≡ false) ls
      → find (is_after text_cmp (Some t)) (firsts ls) ≡ first_text (get_or ls 0 [])
  firsts_found [] h = refl
  firsts_found ([] ∷ ls) h = absurd (true≢false h.0)
  firsts_found ((u ∷ c) ∷ ls) h = ap (λ b. cond b (Some u) (find (is_after text_cmp (Some t)) (firsts ls))) (above u c h.0)

  -- the first text at the bound is the next
  pub text_at_bound : (ls : List Texts) (n : ℕ) → AllByRecursion (λ l. is_before (t ∷ []) true l ≡ true) (take n ls)
      → AllByRecursion (λ l. is_before (t ∷ []) true l ≡ false) (drop n ls) → find (is_after text_cmp (Some t)) (firsts ls) ≡ first_text (get_or ls n [])
  text_at_bound ls n below over = firsts_skip ls n below ∙ firsts_found (drop n ls) over ∙ ap first_text (first_dropped ls n)

  same_text : (u : Text) → eq_by_cmp text_cmp t u ≡ is_eq (text_cmp u t)
  same_text u = ap is_eq (turned u) ∙ by (text_cmp u t)
    where
      by : (r : Ordering) → is_eq (ordering_reverse r) ≡ is_eq r
      by Less = refl
      by Equal = refl
      by Greater = refl

  other_text : (u : Text) (c : Texts) (ls : List Texts) → is_eq (text_cmp u t) ≡ false → tails_of t ((u ∷ c) ∷ ls) ≡ tails_of t ls
  other_text u c ls h = ap (λ b. cond b (c ∷ tails_of t ls) (tails_of t ls)) (same_text u ∙ h)

  -- none of those below t begins with it
  pub rests_from : (ls : List Texts) (n : ℕ) → AllByRecursion (λ l. is_before (t ∷ []) false l ≡ true) (take n ls) → tails_of t (drop n ls) ≡ tails_of t ls
  rests_from ls zero h = refl
  rests_from [] (suc n) h = refl
  rests_from ([] ∷ ls) (suc n) h = rests_from ls n h.1
  rests_from ((u ∷ c) ∷ ls) (suc n) h = rests_from ls n h.1 ∙ sym (other_text u c ls (by (text_cmp u t) h.0))
    where
      by : (r : Ordering) → match_ordering (match_ordering r Less Equal Greater) true false false ≡ true → is_eq r ≡ false
      by Less k = refl
      by Equal k = absurd (true≢false (sym k))
      by Greater k = refl

  none_above : (ls : List Texts) → AllByRecursion (λ l. is_before (t ∷ []) true l ≡ false) ls → tails_of t ls ≡ []
  none_above [] h = refl
  none_above ([] ∷ ls) h = none_above ls h.1
  none_above ((u ∷ c) ∷ ls) h = other_text u c ls (by (text_cmp u t) h.0) ∙ none_above ls h.1
    where
      by : (r : Ordering) → match_ordering (match_ordering r Less Equal Greater) true true false ≡ false → is_eq r ≡ false
      by Less k = refl
      by Equal k = absurd (true≢false k)
      by Greater k = refl

  -- nor those above it
  pub rests_up_to : (ls : List Texts) (n : ℕ) → AllByRecursion (λ l. is_before (t ∷ []) true l ≡ false) (drop n ls) → tails_of t (take n ls) ≡ tails_of t ls
  rests_up_to ls zero h = sym (none_above ls h)
  rests_up_to [] (suc n) h = refl
  rests_up_to ([] ∷ ls) (suc n) h = rests_up_to ls n h
  rests_up_to ((u ∷ c) ∷ ls) (suc n) h = ap (λ z. cond (eq_by_cmp text_cmp t u) (c ∷ z) z) (rests_up_to ls n h)

  -- each of those between begins with it
  pub rests_between : (ls : List Texts) → AllByRecursion (λ l. is_before (t ∷ []) false l ≡ false) ls
      → AllByRecursion (λ l. is_before (t ∷ []) true l ≡ true) ls
      → tails_of t ls ≡ map (λ l. drop 1 l) ls
  rests_between [] g h = refl
  rests_between ([] ∷ ls) g h = absurd (true≢false g.0)
  rests_between ((u ∷ c) ∷ ls) g h =
      ap (λ b. cond b (c ∷ tails_of t ls) (tails_of t ls)) (same_text u ∙ by (text_cmp u t) g.0 h.0) ∙ ap (λ z. c ∷ z) (rests_between ls g.1 h.1)
    where
      by : (r : Ordering) → match_ordering (match_ordering r Less Equal Greater) true false false ≡ false
          → match_ordering (match_ordering r Less Equal Greater) true true false ≡ true → is_eq r ≡ true
      by Less k j = absurd (true≢false k)
      by Equal k j = refl
      by Greater k j = absurd (true≢false (sym j))

least_second : (ls : List Texts) → IsStrictlySortedBy texts_cmp ls → first_text (get_or ls 0 []) ≡ None
    → find (is_after text_cmp None) (firsts ls) ≡ first_text (get_or ls 1 [])
unfolding IsStrictlySortedBy
least_second [] s e = refl
least_second ([] ∷ []) s e = refl
least_second ([] ∷ [] ∷ ls) s e = grind (arith, common_steps)
least_second ([] ∷ (u ∷ c) ∷ ls) s e = refl
least_second ((u ∷ c) ∷ ls) s e = grind (arith, common_steps)

-- of the first list that isn't empty
pub least_at : (ls : List Texts) → IsStrictlySortedBy texts_cmp ls → (n : ℕ) → n ≤ 1 → (n ≡ 0 → first_text (get_or ls 0 []) ≡ None → ⊥)
    → (n ≡ 1 → first_text (get_or ls 0 []) ≡ None) → find (is_after text_cmp None) (firsts ls) ≡ first_text (get_or ls n [])
least_at [] s zero few some empty = absurd (some refl refl)
least_at ([] ∷ ls) s zero few some empty = absurd (some refl refl)
least_at ((u ∷ c) ∷ ls) s zero few some empty = refl
least_at ls s (suc zero) few some empty = least_second ls s (empty refl)
least_at ls s (suc (suc n)) few some empty = absurd (omega (arith, few))

not_below : (t : Text) (c : Texts) (ls : List Texts) → AllByRecursion (λ l. texts_cmp (t ∷ c) l ≡ Less) ls
    → AllByRecursion (λ u. text_cmp t u ≡ Greater → ⊥) (firsts ls)
not_below t c [] h = tt
not_below t c ([] ∷ ls) h = not_below t c ls h.1
not_below t c ((u ∷ d) ∷ ls) h = grind (arith, common_steps, (not_below t c ls h.1))

pub firsts_do_not_fall : (ls : List Texts) → IsStrictlySortedBy texts_cmp ls → DoesNotFall text_total text_same (firsts ls)
unfolding IsStrictlySortedBy
firsts_do_not_fall [] s = tt
firsts_do_not_fall ([] ∷ ls) s = firsts_do_not_fall ls s.1
firsts_do_not_fall ((t ∷ c) ∷ ls) s = (not_below t c ls s.0, firsts_do_not_fall ls s.1)

pub next_is : (s : Contents) (g : Option Text) → next_after (heads s) g ≡ find (is_after text_cmp g) (firsts (set.rising s))
unfolding heads
next_is s g = find_rising text_total text_same (is_after text_cmp g) (firsts (set.rising s))
    (firsts_do_not_fall (set.rising s) (rising_is_sorted texts_total texts_same s))

pub section_of : (t : Text) (ls : List Texts) → IsStrictlySortedBy texts_cmp ls → suffixes_of (set.from_list ls) t ≡ set.from_list (tails_of t ls)
unfolding suffixes_of
section_of t ls s = ap (λ xs. set.from_list (tails_of t xs)) (rising-from_list texts_total texts_same ls s)

pub rests_rise : (t : Text) (ls : List Texts) → IsStrictlySortedBy texts_cmp ls → IsStrictlySortedBy texts_cmp (tails_of t ls)
rests_rise t ls s =
    subst (IsStrictlySortedBy texts_cmp) (rising-section (set.from_list ls) t ∙ ap (tails_of t) (rising-from_list texts_total texts_same ls s))
    (rising_is_sorted texts_total texts_same (suffixes_of (set.from_list ls) t))

strip_rests : (t : Text) (p : Texts) (ls : List Texts) → filter_map (strip p) (tails_of t ls) ≡ filter_map (strip (t ∷ p)) ls
strip_rests t p [] = refl
strip_rests t p ([] ∷ ls) = strip_rests t p ls
strip_rests t p ((u ∷ c) ∷ ls) =
    ap (λ b. filter_map (strip p) (cond b (c ∷ tails_of t ls) (tails_of t ls))) (same_text t u) ∙ by (text_cmp u t) (strip_rests t p ls)
  where
    by : (r : Ordering) → filter_map (strip p) (tails_of t ls) ≡ filter_map (strip (t ∷ p)) ls
        → filter_map (strip p) (cond (is_eq r) (c ∷ tails_of t ls) (tails_of t ls))
        ≡ cons_option (match_ordering r None (strip p c) None) (filter_map (strip (t ∷ p)) ls)
    by Less on = on
    by Equal on = ap (cons_option (strip p c)) on
    by Greater on = on

filter_all : (ls : List Texts) → filter_map (strip []) ls ≡ ls
filter_all [] = refl
filter_all (l ∷ ls) = ap (λ z. l ∷ z) (filter_all ls)

pub rising_strip : (p : Texts) (s : Contents) → set.rising (suffixes_after s p) ≡ filter_map (strip p) (set.rising s)
rising_strip [] s = sym (filter_all (set.rising s))
rising_strip (t ∷ p) s = rising_strip p (suffixes_of s t) ∙ ap (filter_map (strip p)) (rising-section s t) ∙ strip_rests t p (set.rising s)

pub after_first : (prefix : List (Bor Text)) (i : ℕ) (part below : Contents) (otherwise : Bor Text) → i < length prefix
    → below ≡ suffixes_of part (get_or prefix i otherwise).now → suffixes_after below (texts_at (drop (i + 1) prefix)) ≡ suffixes_after part (texts_at (drop i prefix))
after_first prefix i part below otherwise h is = grind (arith, common_steps, at_drop_more)
