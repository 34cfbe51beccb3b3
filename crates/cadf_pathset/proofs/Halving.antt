-- The result of a binary search in strictly ascending lists.
use Rattle.cadf_pathset.proofs.Common.{common_steps, ◌≡◌, ℕ, ◌+◌, ◌≤◌, ◌<◌, Bool, true, false, List, [], ◌∷◌, ◌++◌, refl, sym, ap, ◌∙◌, suc, zero, length, take, drop, get_or, ◌||◌, arith, None, Some, true≢false, Ordering, Less, Equal, Greater, match_ordering, ordering_then, ordering_reverse, eq_by_cmp, is_eq, is_lt, tied_itself, AllByRecursion, list_any, IsStrictlySortedBy, Result, Ok, Err, IfOk, IfErr, is_ok, Texts, Contents, is_after, text_cmp, texts_cmp, text_total, text_same, texts_total, contents_same, contains-from_list, contains-insert, prefix_cmp, is_before}
use Rattle.cadf_join.specs.laws.Sets as sets
use Rattle.cadf_join.specs.Sets as set
use Rattle.cadf_pathset.proofs.Grown.{all_turned}
use Rattle.cadf_pathset.proofs.Inserts.{all_put}

-- lists below a list that is before the bound are before the bound
pub before_below : (p : Texts) (more : Bool) (a b : Texts) → texts_cmp a b ≡ Less → is_before p more b ≡ true → is_before p more a ≡ true
before_below [] more a b less h = h
before_below (t ∷ p) more [] b less h = refl
before_below (t ∷ p) more (u ∷ a) [] less h = grind (arith, common_steps)
before_below (t ∷ p) more (u ∷ a) (v ∷ b) less h = by (text_cmp u v) refl (text_cmp v t) refl less h (λ l k. before_below p more a b l k)
  where
    with_less : text_cmp u t ≡ Less → is_before (t ∷ p) more (u ∷ a) ≡ true
    with_less e = ap (λ r. match_ordering (match_ordering r Less (prefix_cmp a p) Greater) true more false) e

    by : (r : Ordering) → text_cmp u v ≡ r → (s : Ordering) → text_cmp v t ≡ s → ordering_then r (texts_cmp a b) ≡ Less
        → match_ordering (match_ordering s Less (prefix_cmp b p) Greater) true more false ≡ true
        → (texts_cmp a b ≡ Less → is_before p more b ≡ true → is_before p more a ≡ true) → is_before (t ∷ p) more (u ∷ a) ≡ true
    by Less e Less f l k on = with_less (text_total.trans u v t e f)
    by Less e Equal f l k on = with_less (sym (ap (text_cmp u) (text_same v t f)) ∙ e)
    by Equal e Less f l k on = with_less (ap (λ z. text_cmp z t) (text_same u v e) ∙ f)
    by Equal e Equal f l k on =
        ap (λ r. match_ordering (match_ordering r Less (prefix_cmp a p) Greater) true more false) (ap (λ z. text_cmp z t) (text_same u v e) ∙ f)
        ∙ on l k
    by r e Greater f l k on = absurd (true≢false (sym k))
    by Greater e s f l k on = absurd (never l)
      where
        never : Greater ≡ Less → ⊥
        never q = cc

rising_from : (x : Texts) (xs : List Texts) (j : ℕ) → AllByRecursion (λ y. texts_cmp x y ≡ Less) xs → j < length xs → texts_cmp x (get_or xs j []) ≡ Less
rising_from x [] j h l = absurd (omega (arith, l))
rising_from x (y ∷ xs) zero h l = h.0
rising_from x (y ∷ xs) (suc j) h l = rising_from x xs j h.1 (omega (arith, l))

pub rising_at : (xs : List Texts) (i j : ℕ) → IsStrictlySortedBy texts_cmp xs → i < j → j < length xs → texts_cmp (get_or xs i []) (get_or xs j []) ≡ Less
unfolding IsStrictlySortedBy
rising_at [] i j s b l = absurd (omega (arith, l))
rising_at (x ∷ xs) i zero s b l = absurd (omega (arith, b))
rising_at (x ∷ xs) zero (suc j) s b l = rising_from x xs j s.0 (omega (arith, l))
rising_at (x ∷ xs) (suc i) (suc j) s b l = rising_at xs i j s.1 (omega (arith, b)) (omega (arith, l))

at_or_below : {P : Type 0} (i j : ℕ) → i < j + 1 → (i ≡ j → P) → (i < j → P) → P
at_or_below zero zero h same lower = same refl
at_or_below zero (suc j) h same lower = lower (omega arith)
at_or_below (suc i) zero h same lower = absurd (omega (arith, h))
at_or_below (suc i) (suc j) h same lower = at_or_below i j (omega (arith, h)) (λ e. same (ap suc e)) (λ b. lower (omega (arith, b)))

module _ (xs : List Texts) (s : IsStrictlySortedBy texts_cmp xs) (p : Texts) (more : Bool) (j : ℕ) (l : j < length xs) where
  pub all_before : is_before p more (get_or xs j []) ≡ true → (i : ℕ) → i < j + 1 → is_before p more (get_or xs i []) ≡ true
  all_before h i b = at_or_below i j b
      (λ same. ap (λ k. is_before p more (get_or xs k [])) same ∙ h)
      (λ lower. before_below p more (get_or xs i []) (get_or xs j []) (rising_at xs i j s lower l) h)

  pub none_before : is_before p more (get_or xs j []) ≡ false → (i : ℕ) → j ≤ i → i < length xs → is_before p more (get_or xs i []) ≡ false
  none_before h i b m = at_or_below j i (omega (arith, b))
      (λ same. ap (λ k. is_before p more (get_or xs k [])) (sym same) ∙ h)
      (λ higher. sets.false_from (is_before p more (get_or xs i [])) (λ yes. true≢false (
      sym (before_below p more (get_or xs j []) (get_or xs i []) (rising_at xs j i s higher m) yes) ∙ h)))

pub all_taken : (P : Texts → Type 0) (xs : List Texts) (n : ℕ) → n ≤ length xs → ((i : ℕ) → i < n → P (get_or xs i [])) → AllByRecursion P (take n xs)
all_taken P xs zero l h = tt
all_taken P [] (suc n) l h = tt
all_taken P (x ∷ xs) (suc n) l h = (h 0 (omega arith), all_taken P xs n (omega (arith, l)) (λ i b. h (suc i) (omega (arith, b))))

pub all_dropped : (P : Texts → Type 0) (xs : List Texts) (n : ℕ) → ((i : ℕ) → n ≤ i → i < length xs → P (get_or xs i [])) → AllByRecursion P (drop n xs)
all_dropped P [] zero h = tt
all_dropped P [] (suc n) h = tt
all_dropped P (x ∷ xs) zero h = (h 0 (omega arith) (omega arith), all_dropped P xs zero (λ i b l. h (suc i) (omega arith) (omega (arith, l))))
all_dropped P (x ∷ xs) (suc n) h = all_dropped P xs n (λ i b l. h (suc i) (omega (arith, b)) (omega (arith, l)))

pub turned : (a q : Texts) → texts_cmp a q ≡ Greater → texts_cmp q a ≡ Less
turned a q h = texts_total.antisymm q a ∙ ap ordering_reverse h

not_after : (x q : Texts) → texts_cmp x q ≡ Less → is_after texts_cmp (Some q) x ≡ false
not_after x q h = ap is_lt (texts_total.antisymm q x ∙ ap ordering_reverse h)

pub drop_sorted : (xs : List Texts) (n : ℕ) → IsStrictlySortedBy texts_cmp xs → IsStrictlySortedBy texts_cmp (drop n xs)
unfolding IsStrictlySortedBy
drop_sorted xs zero s = s
drop_sorted [] (suc n) s = tt
drop_sorted (x ∷ xs) (suc n) s = drop_sorted xs n s.1

pub first_dropped : (xs : List Texts) (n : ℕ) → get_or (drop n xs) 0 [] ≡ get_or xs n []
first_dropped [] zero = refl
first_dropped (x ∷ xs) zero = refl
first_dropped [] (suc n) = refl
first_dropped (x ∷ xs) (suc n) = first_dropped xs n

found_at : (q : Texts) (xs : List Texts) (n : ℕ) → n < length xs → get_or xs n [] ≡ q → list_any (eq_by_cmp texts_cmp q) xs ≡ true
found_at q [] n l same = absurd (omega (arith, l))
found_at q (x ∷ xs) zero l same =
    sets.or_left (eq_by_cmp texts_cmp q x) _ (ap (λ z. eq_by_cmp texts_cmp q z) same ∙ ap is_eq (tied_itself texts_total q))
found_at q (x ∷ xs) (suc n) l same = sets.or_right (eq_by_cmp texts_cmp q x) _ (found_at q xs n (omega (arith, l)) same)

not_there : (q : Texts) (xs : List Texts) (n : ℕ) → AllByRecursion (λ l. texts_cmp l q ≡ Less) (take n xs)
    → AllByRecursion (λ l. texts_cmp q l ≡ Less) (drop n xs)
    → list_any (eq_by_cmp texts_cmp q) xs ≡ false
not_there q [] n below above = refl
not_there q (x ∷ xs) zero below above = grind (arith, common_steps, (not_there q xs zero tt above.1))
not_there q (x ∷ xs) (suc n) below above =
    ap (λ r. is_eq r || list_any (eq_by_cmp texts_cmp q) xs) (texts_total.antisymm q x ∙ ap ordering_reverse below.0) ∙ not_there q xs n below.1 above

pub put_rises : (q : Texts) (xs : List Texts) (n : ℕ) → IsStrictlySortedBy texts_cmp xs
    → AllByRecursion (λ l. texts_cmp l q ≡ Less) (take n xs) → AllByRecursion (λ l. texts_cmp q l ≡ Less) (drop n xs)
    → IsStrictlySortedBy texts_cmp (take n xs ++ q ∷ drop n xs)
unfolding IsStrictlySortedBy
put_rises q xs zero s below above = (above, s)
put_rises q [] (suc n) s below above = (tt, tt)
put_rises q (x ∷ xs) (suc n) s below above = (all_put (λ y. texts_cmp x y ≡ Less) xs n q s.0 below.0, put_rises q xs n s.1 below.1 above)

any_put : (f : Texts → Bool) (xs : List Texts) (n : ℕ) (x : Texts) → list_any f (take n xs ++ x ∷ drop n xs) ≡ (f x || list_any f xs)
any_put f xs zero x = refl
any_put f [] (suc n) x = refl
any_put f (y ∷ xs) (suc n) x = grind (arith, common_steps, (any_put f xs n x))

pub put_is_insert : (xs : List Texts) (n : ℕ) (q : Texts) → set.from_list {R = texts_cmp} (take n xs ++ q ∷ drop n xs) ≡ set.insert (set.from_list xs) q
put_is_insert xs n q = contents_same _ _ (λ x.
    contains-from_list texts_total (take n xs ++ q ∷ drop n xs) x ∙ any_put (eq_by_cmp texts_cmp x) xs n q
    ∙ ap (λ b. eq_by_cmp texts_cmp x q || b) (sym (contains-from_list texts_total xs x)) ∙ sym (contains-insert texts_total (set.from_list xs) q x))

module _ (q : Texts) (xs : List Texts) (s : IsStrictlySortedBy texts_cmp xs) (n : ℕ) (l : n < length xs) where
  -- the lists up to one that is below q, and those from one on that is above q
  pub below_here : texts_cmp (get_or xs n []) q ≡ Less → (k : ℕ) → k < n + 1 → texts_cmp (get_or xs k []) q ≡ Less
  below_here e k b = at_or_below k n b
      (λ same. ap (λ i. texts_cmp (get_or xs i []) q) same ∙ e)
      (λ lower. texts_total.trans (get_or xs k []) (get_or xs n []) q (rising_at xs k n s lower l) e)

  pub above_here : texts_cmp (get_or xs n []) q ≡ Greater → (k : ℕ) → n ≤ k → k < length xs → texts_cmp q (get_or xs k []) ≡ Less
  above_here e k b m = at_or_below n k (omega (arith, b))
      (λ same. ap (λ i. texts_cmp q (get_or xs i [])) (sym same) ∙ turned (get_or xs n []) q e)
      (λ higher. texts_total.trans q (get_or xs n []) (get_or xs k []) (turned (get_or xs n []) q e) (rising_at xs n k s higher m))

  -- those up to q itself, and those above it
  module _ (same : get_or xs n [] ≡ q) where
    pub not_after_it : AllByRecursion (λ x. is_after texts_cmp (Some q) x ≡ false) (take (n + 1) xs)
    not_after_it = all_taken (λ x. is_after texts_cmp (Some q) x ≡ false) xs (n + 1) (omega (arith, l)) (λ i b. at_or_below i n b
        (λ e. ap (λ j. is_lt (texts_cmp q (get_or xs j []))) e ∙ ap (λ z. is_lt (texts_cmp q z)) same ∙ ap is_lt (tied_itself texts_total q))
        (λ lower. not_after (get_or xs i []) q (ap (texts_cmp (get_or xs i [])) (sym same) ∙ rising_at xs i n s lower l)))

    pub after_it : AllByRecursion (λ x. is_after texts_cmp (Some q) x ≡ true) (drop (n + 1) xs)
    after_it = all_dropped (λ x. is_after texts_cmp (Some q) x ≡ true) xs (n + 1)
        (λ i b m. ap is_lt (sym (ap (λ z. texts_cmp z (get_or xs i [])) same) ∙ rising_at xs n i s (omega (arith, b)) m))

pub none_after : (q : Texts) (xs : List Texts) → AllByRecursion (λ l. texts_cmp l q ≡ Less) xs → AllByRecursion (λ l. is_after texts_cmp (Some q) l ≡ false) xs
none_after q xs h = all_turned (λ l. texts_cmp l q ≡ Less) (λ l. is_after texts_cmp (Some q) l ≡ false) xs (λ x k. not_after x q k) h

pub all_after : (q : Texts) (xs : List Texts) → AllByRecursion (λ l. texts_cmp q l ≡ Less) xs → AllByRecursion (λ l. is_after texts_cmp (Some q) l ≡ true) xs
all_after q xs h = all_turned (λ l. texts_cmp q l ≡ Less) (λ l. is_after texts_cmp (Some q) l ≡ true) xs (λ x k. ap is_lt k) h

-- whether a search has found the list is whether the set has it
pub found_is_held : (q : Texts) (xs : List Texts) (s : Contents) (r : Result ℕ ℕ) → set.from_list {R = texts_cmp} xs ≡ s
    → IfOk r (λ n. (n < length xs) × (get_or xs n [] ≡ q)) → IfErr r (λ n. AllByRecursion (λ l. texts_cmp l q ≡ Less) (take n xs))
    → IfErr r (λ n. AllByRecursion (λ l. texts_cmp q l ≡ Less) (drop n xs)) → is_ok r ≡ set.contains s q
found_is_held q xs s (Ok n) view held below above =
    sym (found_at q xs n held.0 held.1) ∙ sym (contains-from_list texts_total xs q) ∙ ap (λ z. set.contains z q) view
found_is_held q xs s (Err n) view held below above =
    sym (not_there q xs n below above) ∙ sym (contains-from_list texts_total xs q) ∙ ap (λ z. set.contains z q) view

pub each_passes : {A : Type 0} (P : A → Type 0) (xs : List A) → ((x : A) → P x) → AllByRecursion P xs
each_passes P [] h = tt
each_passes P (x ∷ xs) h = (h x, each_passes P xs h)

-- the lists from some index on pass a test, and none before it
abbrev pub Splits : (Texts → Bool) → List Texts → ℕ → Type 0
Splits f xs n = (n ≤ length xs) × AllByRecursion (λ l. f l ≡ false) (take n xs) × AllByRecursion (λ l. f l ≡ true) (drop n xs)

pub splits_behind : (q : Texts) (xs : List Texts) → IsStrictlySortedBy texts_cmp xs → (n : ℕ) → n < length xs → get_or xs n [] ≡ q
    → Splits (is_after texts_cmp (Some q)) xs (n + 1)
splits_behind q xs s n l e = (omega (arith, l), not_after_it q xs s n l e, after_it q xs s n l e)

pub splits_between : (q : Texts) (xs : List Texts) (n : ℕ) → n ≤ length xs → AllByRecursion (λ l. texts_cmp l q ≡ Less) (take n xs)
    → AllByRecursion (λ l. texts_cmp q l ≡ Less) (drop n xs) → Splits (is_after texts_cmp (Some q)) xs n
splits_between q xs n l below above = (l, none_after q (take n xs) below, all_after q (drop n xs) above)

pub splits_first : (xs : List Texts) → Splits (is_after texts_cmp None) xs 0
splits_first xs = (omega arith, tt, each_passes _ xs (λ l. refl))
