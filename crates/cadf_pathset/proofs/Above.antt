-- A list above the last of ascending lists is above each of them.
use Rattle.cadf_pathset.proofs.Common.{◌≡◌, true, List, [], ◌∷◌, refl, sym, ap, ◌∙◌, subst, inl, inr, true≢false, Ordering, Less, Equal, Greater, is_lt, IsStrictlySortedBy, Listed, contains-from_list, AllByRecursion-listed, any_listed, listed_any, Texts, texts_cmp, texts_total, texts_same, last_of, is_above_last}
use Rattle.cadf_join.specs.Sets as set

is_less : (r : Ordering) → is_lt r ≡ true → r ≡ Less
is_less Less h = refl
is_less Equal h = absurd (true≢false (sym h))
is_less Greater h = absurd (true≢false (sym h))

pub last_listed : (l : Texts) (ls : List Texts) → Listed (last_of l ls) (l ∷ ls)
last_listed l [] = inl refl
last_listed l (k ∷ ls) = inr (last_listed k ls)

all_below : (l : Texts) (ls : List Texts) (q : Texts) → IsStrictlySortedBy texts_cmp (l ∷ ls) → texts_cmp (last_of l ls) q ≡ Less → (y : Texts)
    → Listed y (l ∷ ls) → texts_cmp y q ≡ Less
unfolding IsStrictlySortedBy
all_below l [] q s h y (inl e) = subst (λ z. texts_cmp z q ≡ Less) (sym e) h
all_below l [] q s h y (inr m) = absurd m
all_below l (k ∷ ls) q s h y (inl e) =
    subst (λ z. texts_cmp z q ≡ Less) (sym e)
    (texts_total.trans l (last_of k ls) q (AllByRecursion-listed (λ z. texts_cmp l z ≡ Less) (k ∷ ls) s.0 (last_of k ls) (last_listed k ls)) h)
all_below l (k ∷ ls) q s h y (inr m) = all_below k ls q s.1 h y m

pub above_last : (ls : List Texts) (q : Texts) → IsStrictlySortedBy texts_cmp ls → is_above_last ls q ≡ true → (y : Texts)
    → set.contains (set.from_list {R = texts_cmp} ls) y ≡ true → texts_cmp y q ≡ Less
above_last [] q s h y there = absurd (listed_any texts_total texts_same [] y (sym (contains-from_list texts_total [] y) ∙ there))
above_last (l ∷ ls) q s h y there =
    all_below l ls q s (is_less _ h) y (listed_any texts_total texts_same (l ∷ ls) y (sym (contains-from_list texts_total (l ∷ ls) y) ∙ there))

pub above_all : (ls : List Texts) (q : Texts) → ((y : Texts) → set.contains (set.from_list {R = texts_cmp} ls) y ≡ true → texts_cmp y q ≡ Less)
    → is_above_last ls q ≡ true
above_all [] q h = refl
above_all (l ∷ ls) q h =
    ap is_lt (h (last_of l ls)
    (contains-from_list texts_total (l ∷ ls) (last_of l ls) ∙ any_listed texts_total texts_same (l ∷ ls) (last_of l ls) (last_listed l ls)))
