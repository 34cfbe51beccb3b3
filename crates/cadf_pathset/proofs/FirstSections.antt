-- The sections of strictly ascending lists: that of the least first text, and those above it.
--     children ls    the first texts of the lists, each once, in order
use Rattle.cadf_pathset.proofs.Common.{common_steps, ◌≡◌, ℕ, ◌+◌, ◌<◌, ◌≤◌, suc, zero, true, false, List, [], ◌∷◌, Option, Some, None, refl, sym, ap, ◌∙◌, subst, take, drop, get_or, map, length, arith, le-leb, length-map, is_some, nat_le, true≢false, Ordering, Less, Equal, Greater, match_ordering, ordering_reverse, tied_itself, AllByRecursion, IsStrictlySortedBy, Text, Texts, Contents, text_cmp, texts_cmp, suffixes_of, tails_of, text_total, text_same, texts_total, texts_same, from_list-rising, rising-from_list, rising_is_sorted, firsts, heads, first_text, is_before, sections_from, sections_of}
use Rattle.cadf_join.specs.laws.Sets as sets
use Rattle.cadf_join.specs.Sets as set
use Rattle.cadf_pathset.specs.declared.suffix_set.Section as held
use Rattle.cadf_pathset.proofs.Behind.{rests_from, rests_rise, section_of}
use Rattle.cadf_pathset.proofs.Firsts.{below_all, twice}
use Rattle.cadf_pathset.proofs.Halving.{all_before, before_below, drop_sorted}
use Rattle.cadf_pathset.proofs.Narrowed.{all_of_first, section_between}
use Rattle.cadf_pathset.proofs.Grown.{all_turned, map_same}

abbrev children : List Texts → List Text
children ls = set.rising (set.from_list {R = text_cmp} (firsts ls))

children_are : (ls : List Texts) → IsStrictlySortedBy texts_cmp ls → set.rising (heads (set.from_list ls)) ≡ children ls
unfolding heads
children_are ls s = ap children (rising-from_list texts_total texts_same ls s)

children-nil : children [] ≡ []
unfolding IsStrictlySortedBy
children-nil = rising-from_list text_total text_same [] tt

none_is_not_some : (t : Text) → None ≡ Some t → ⊥
none_is_not_some t e = cc

-- the first two lists have no first text, so none has
no_first : (ls : List Texts) → IsStrictlySortedBy texts_cmp ls → first_text (get_or ls 0 []) ≡ None → first_text (get_or ls 1 []) ≡ None
    → firsts ls ≡ []
unfolding IsStrictlySortedBy
no_first [] s first second = refl
no_first ([] ∷ []) s first second = refl
no_first ([] ∷ [] ∷ ls) s first second = grind (arith, common_steps)
no_first ([] ∷ (u ∷ c) ∷ ls) s first second = absurd (none_is_not_some u (sym second))
no_first ((u ∷ c) ∷ ls) s first second = absurd (none_is_not_some u (sym first))

sorted_head : (t : Text) (ks : List Text) → IsStrictlySortedBy text_cmp (t ∷ ks) → AllByRecursion (λ k. text_cmp t k ≡ Less) ks
unfolding IsStrictlySortedBy
sorted_head t ks s = s.0

some_is : (u t : Text) → Some u ≡ Some t → u ≡ t
some_is u t e = cc

module _ (t : Text) where
  itself : (more : _) (c : Texts) → is_before (t ∷ []) more (t ∷ c) ≡ more
  itself more c = ap (λ r. match_ordering (match_ordering r Less Equal Greater) true more false) (tied_itself text_total t)

  -- the list of which it is the first text
  begins_before : (l : Texts) → first_text l ≡ Some t → is_before (t ∷ []) true l ≡ true
  begins_before [] e = absurd (none_is_not_some t e)
  begins_before (u ∷ c) e = ap (λ z. is_before (t ∷ []) true (z ∷ c)) (some_is u t e) ∙ itself true c

  begins_within : (ls : List Texts) (i : ℕ) → first_text (get_or ls i []) ≡ Some t → i < length ls
  begins_within [] zero e = absurd (none_is_not_some t e)
  begins_within [] (suc i) e = absurd (none_is_not_some t e)
  begins_within (l ∷ ls) zero e = omega arith
  begins_within (l ∷ ls) (suc i) e = let rest = begins_within ls i e in omega (arith, rest)

  begins : (u : Text) (c : Texts) → is_before (t ∷ []) true (u ∷ c) ≡ true → is_before (t ∷ []) false (u ∷ c) ≡ false → u ≡ t
  begins u c h k = by (text_cmp u t) refl h k
    where
      by : (r : Ordering) → text_cmp u t ≡ r → match_ordering (match_ordering r Less Equal Greater) true true false ≡ true
          → match_ordering (match_ordering r Less Equal Greater) true false false ≡ false → u ≡ t
      by Less e p q = absurd (true≢false q)
      by Equal e p q = text_same u t e
      by Greater e p q = absurd (true≢false (sym p))

  firsts_above : (ls : List Texts) → AllByRecursion (λ l. is_before (t ∷ []) true l ≡ false) ls → AllByRecursion (λ u. text_cmp t u ≡ Less) (firsts ls)
  firsts_above [] h = tt
  firsts_above ([] ∷ ls) h = absurd (true≢false h.0)
  firsts_above ((u ∷ c) ∷ ls) h = (text_total.antisymm t u ∙ by (text_cmp u t) h.0, firsts_above ls h.1)
    where
      by : (r : Ordering) → match_ordering (match_ordering r Less Equal Greater) true true false ≡ false → ordering_reverse r ≡ Less
      by Less k = absurd (true≢false k)
      by Equal k = absurd (true≢false k)
      by Greater k = refl

  -- lists that begin with t add nothing to it
  again : (ls : List Texts) (n : ℕ) → AllByRecursion (λ l. is_before (t ∷ []) false l ≡ false) (take n ls)
      → AllByRecursion (λ l. is_before (t ∷ []) true l ≡ true) (take n ls) → AllByRecursion (λ l. is_before (t ∷ []) true l ≡ false) (drop n ls)
      → set.rising (set.from_list {R = text_cmp} (t ∷ firsts ls)) ≡ t ∷ children (drop n ls)
  again ls zero from below above = below_all text_total text_same t (firsts ls) (firsts_above ls above)
  again [] (suc n) from below above = below_all text_total text_same t [] tt
  again ([] ∷ ls) (suc n) from below above = absurd (true≢false from.0)
  again ((u ∷ c) ∷ ls) (suc n) from below above =
      ap (λ z. set.rising (set.from_list {R = text_cmp} (t ∷ z ∷ firsts ls))) (begins u c below.0 from.0)
      ∙ ap set.rising (twice text_total text_same t (firsts ls)) ∙ again ls n from.1 below.1 above

  not_before : (c : Texts) (ls : List Texts) → AllByRecursion (λ y. texts_cmp (t ∷ c) y ≡ Less) ls
      → AllByRecursion (λ l. is_before (t ∷ []) false l ≡ false) ls
  not_before c ls h = all_turned (λ y. texts_cmp (t ∷ c) y ≡ Less) (λ l. is_before (t ∷ []) false l ≡ false) ls (λ y less.
      sets.false_from (is_before (t ∷ []) false y) (λ yes. true≢false (sym (before_below (t ∷ []) false (t ∷ c) y less yes) ∙ itself false c))) h

  not_below : (ls : List Texts) → IsStrictlySortedBy texts_cmp ls → (i : ℕ) → first_text (get_or ls i []) ≡ Some t
      → AllByRecursion (λ l. is_before (t ∷ []) false l ≡ false) (drop i ls)
  unfolding IsStrictlySortedBy
  not_below [] s zero e = tt
  not_below [] s (suc i) e = tt
  not_below ([] ∷ ls) s zero e = absurd (none_is_not_some t e)
  not_below ((u ∷ c) ∷ ls) s zero e =
      let is = some_is u t e in (
        ap (λ z. is_before (t ∷ []) false (z ∷ c)) is ∙ itself false c,
        not_before c ls (subst (λ z. AllByRecursion (λ y. texts_cmp (z ∷ c) y ≡ Less) ls) is s.0),
      )
  not_below (x ∷ ls) s (suc i) e = not_below ls s.1 i e

  -- the first text of a list, and those of the lists above all that begin with it
  children-some : (ls : List Texts) → IsStrictlySortedBy texts_cmp ls → (i n : ℕ) → i < n → first_text (get_or ls i []) ≡ Some t
      → AllByRecursion (λ l. is_before (t ∷ []) true l ≡ true) (take n ls) → AllByRecursion (λ l. is_before (t ∷ []) true l ≡ false) (drop n ls)
      → children (drop i ls) ≡ t ∷ children (drop n ls)
  unfolding IsStrictlySortedBy
  children-some ls s i zero b e below above = absurd (omega (arith, b))
  children-some [] s i (suc n) b e below above = absurd (none_is_not_some t e)
  children-some ([] ∷ ls) s zero (suc n) b e below above = absurd (none_is_not_some t e)
  children-some ((u ∷ c) ∷ ls) s zero (suc n) b e below above =
      ap (λ z. set.rising (set.from_list {R = text_cmp} (z ∷ firsts ls))) (some_is u t e)
      ∙ again ls n (all_of_first (λ l. is_before (t ∷ []) false l ≡ false) ls n (not_below ((u ∷ c) ∷ ls) s zero e).1) below.1 above
  children-some (x ∷ ls) s (suc i) (suc n) b e below above = children-some ls s.1 i n (omega (arith, b)) e below.1 above

  -- what isn't above t is below each text above t
  below_next : (k : Text) → text_cmp t k ≡ Less → (l : Texts) → is_before (t ∷ []) true l ≡ true → is_before (k ∷ []) false l ≡ true
  below_next k less [] h = refl
  below_next k less (u ∷ c) h = by (text_cmp u t) refl h
    where
      with_less : text_cmp u k ≡ Less → is_before (k ∷ []) false (u ∷ c) ≡ true
      with_less e = ap (λ r. match_ordering (match_ordering r Less Equal Greater) true false false) e

      by : (r : Ordering) → text_cmp u t ≡ r → match_ordering (match_ordering r Less Equal Greater) true true false ≡ true
          → is_before (k ∷ []) false (u ∷ c) ≡ true
      by Less e p = with_less (text_total.trans u t k e less)
      by Equal e p = with_less (ap (λ z. text_cmp z k) (text_same u t e) ∙ less)
      by Greater e p = absurd (true≢false (sym p))

  -- an empty list before them adds nothing
  skipped : (ls : List Texts) (i : ℕ) → i ≤ 1 → (i ≡ 1 → first_text (get_or ls 0 []) ≡ None) → children (drop i ls) ≡ children ls
  skipped ls zero few empty = refl
  skipped [] (suc i) few empty = refl
  skipped ([] ∷ ls) (suc zero) few empty = refl
  skipped ((u ∷ c) ∷ ls) (suc zero) few empty = absurd (none_is_not_some u (sym (empty refl)))
  skipped ls (suc (suc i)) few empty = absurd (omega (arith, few))

  none_below : (ls : List Texts) (i : ℕ) → i ≤ 1 → (i ≡ 1 → first_text (get_or ls 0 []) ≡ None)
      → AllByRecursion (λ l. is_before (t ∷ []) false l ≡ true) (take i ls)
  none_below ls zero few empty = tt
  none_below [] (suc i) few empty = tt
  none_below ([] ∷ ls) (suc zero) few empty = (refl, tt)
  none_below ((u ∷ c) ∷ ls) (suc zero) few empty = absurd (none_is_not_some u (sym (empty refl)))
  none_below ls (suc (suc i)) few empty = absurd (omega (arith, few))

  sections-some : (ls : List Texts) → IsStrictlySortedBy texts_cmp ls → (i n : ℕ) → i < n → i ≤ 1 → (i ≡ 1 → first_text (get_or ls 0 []) ≡ None)
      → first_text (get_or ls i []) ≡ Some t → AllByRecursion (λ l. is_before (t ∷ []) true l ≡ true) (take n ls)
      → AllByRecursion (λ l. is_before (t ∷ []) true l ≡ false) (drop n ls)
      → (t, set.from_list (tails_of t ls)) ∷ sections_of (set.from_list (drop n ls)) ≡ sections_of (set.from_list ls)
  sections-some ls s i n b few empty e below above =
      let behind : Text → Text × Contents = λ k. (k, suffixes_of (set.from_list ls) k) in
      let rest = drop n ls in
      let rest_rises = drop_sorted ls n s in
      let all : set.rising (heads (set.from_list ls)) ≡ t ∷ children rest =
      children_are ls s ∙ sym (skipped ls i few empty) ∙ children-some ls s i n b e below above in
      let higher = (subst (IsStrictlySortedBy text_cmp) all (rising_is_sorted text_total text_same (heads (set.from_list ls)))) in
      sym (ap (map behind) all
      ∙ (λ j. (t, section_of t ls s j) ∷ map_same (λ k. text_cmp t k ≡ Less) behind (λ k. (k, suffixes_of (set.from_list rest) k)) (children rest)
      (λ k less. ap (λ z. (k, z)) (section_of k ls s
      ∙ ap set.from_list (sym (rests_from k ls n (all_turned (λ l. is_before (t ∷ []) true l ≡ true) (λ l. is_before (k ∷ []) false l ≡ true) (take n ls)
      (below_next k less) below)))
      ∙ sym (section_of k rest rest_rises)))
      (sorted_head t (children rest) higher) j)
      ∙ ap (λ ks. (t, set.from_list (tails_of t ls)) ∷ map (λ k. (k, suffixes_of (set.from_list rest) k)) ks) (sym (children_are rest rest_rises)))

-- the list of index i begins with t, and none before it has a first text
module _ (t : Text) (s : Contents) (i : ℕ) (few : i ≤ 1) (empty : i ≡ 1 → first_text (get_or (set.rising s) 0 []) ≡ None)
    (text : first_text (get_or (set.rising s) i []) ≡ Some t) where
  rises : IsStrictlySortedBy texts_cmp (set.rising s)
  rises = rising_is_sorted texts_total texts_same s

  pub none_passed : (k : ℕ) → k < i + 1 → is_before (t ∷ []) true (get_or (set.rising s) k []) ≡ true
  none_passed = all_before (set.rising s) rises (t ∷ []) true i (begins_within t (set.rising s) i text)
      (begins_before t (get_or (set.rising s) i []) text)

  module _ (n : ℕ) (from : i + 1 ≤ n) (below : AllByRecursion (λ l. is_before (t ∷ []) true l ≡ true) (take n (set.rising s)))
      (above : AllByRecursion (λ l. is_before (t ∷ []) true l ≡ false) (drop n (set.rising s))) where
    behind_is : map (λ l. drop 1 l) (drop i (take n (set.rising s))) ≡ tails_of t (set.rising s)
    behind_is = section_between t (set.rising s) i n below above (none_below t (set.rising s) i few empty) (not_below t (set.rising s) rises i text)

    pub part_rises : IsStrictlySortedBy texts_cmp (map (λ l. drop 1 l) (drop i (take n (set.rising s))))
    part_rises = subst (IsStrictlySortedBy texts_cmp) (sym behind_is) (rests_rise t (set.rising s) rises)

    pub sections_are : (t, set.from_list (map (λ l. drop 1 l) (drop i (take n (set.rising s))))) ∷ sections_of (set.from_list (drop n (set.rising s)))
        ≡ sections_of s
    sections_are =
        (λ j. (t, set.from_list (behind_is j)) ∷ sections_of (set.from_list (drop n (set.rising s))))
        ∙ sections-some t (set.rising s) rises i n (omega (arith, from)) few empty text below above
        ∙ ap sections_of (from_list-rising texts_total texts_same s)

-- lists without first texts have no sections
pub sections-none : (s : Contents) → first_text (get_or (set.rising s) 0 []) ≡ None → first_text (get_or (set.rising s) 1 []) ≡ None → [] ≡ sections_of s
unfolding heads
sections-none s first second =
    ap (map (λ k. (k, suffixes_of s k)))
    (sym (ap (λ ts. set.rising (set.from_list {R = text_cmp} ts)) (no_first (set.rising s) (rising_is_sorted texts_total texts_same s) first second)
    ∙ children-nil))

-- ---- the count of first texts

counted : (s : Contents) (ps : List (Text × Contents)) → ps ≡ sections_of s → length ps ≡ length (set.rising (heads s))
counted s ps is = ap length is ∙ length-map (set.rising (heads s)) (λ t. (t, suffixes_of s t))

pub several : (s : Contents) (f : held.Section) (next : Option held.Section) → sections_from (Some f) ≡ sections_of s
    → sections_from next ≡ sections_of f.above
    → is_some next ≡ nat_le 2 (length (set.rising (heads s)))
several s f None is rest = ap (nat_le 2) (counted s ((f.text.now, f.behind) ∷ []) (ap (λ ps. (f.text.now, f.behind) ∷ ps) rest ∙ is))
several s f (Some g) is rest =
    sym (le-leb 2 (length ((f.text.now, f.behind) ∷ sections_from (Some g))) (omega arith))
    ∙ ap (nat_le 2) (counted s ((f.text.now, f.behind) ∷ sections_from (Some g)) (ap (λ ps. (f.text.now, f.behind) ∷ ps) rest ∙ is))

pub not_several : (s : Contents) → [] ≡ sections_of s → false ≡ nat_le 2 (length (set.rising (heads s)))
not_several s is = ap (nat_le 2) (counted s [] is)
