-- The members of a finite set, in order.
--     contains-rising, rising_is_sorted      the members are strictly ascending, and are those that the set contains
--     rising-from_list     a strictly ascending list is `rising` of its set
--     from_list-rising, same_rising          a set is that of its members, and so two sets with one list of members are one
--     some_member, lacking_member            a member of a set that is not empty, and one that another set lacks
use Rattle.std.specs.Prelude.{◌≡◌, Bool, true, false, ◌||◌, List, [], ◌∷◌, ◌⊎◌}
use Rattle.std.proofs.Common.{refl, sym, ap, subst, ◌∙◌, inl, inr}
use mathlib.Core.Bool.{true≢false}
use Rattle.std.specs.declared.cmp.Ordering.{Ordering}
use Rattle.std.specs.declared.cmp.Ordering.TheVariants.{Less, Equal, Greater}
use Rattle.std.specs.List.{list_any, AllByRecursion}
use Rattle.std.specs.List.Sorted.{IsStrictlySortedBy}
use Rattle.std.specs.Ordering.{eq_by_cmp, is_eq, match_ordering, ordering_reverse}
use Rattle.std.specs.Cmp.{IsTotalOrder, Equal-is, tied_itself, alike_right}
use Rattle.std.specs.BTreeSet.{insert_key}
use Rattle.cadf_join.specs.Sets.{FinSet, IsAntisymmetric, empty, contains, from_list, is_subset, items, contains-from_list, contains-items}
use Rattle.cadf_join.specs.Sets.{contains_tied, contains-is_subset, same_set, Listed, sorted_keys, rising}

or_swap : (a b c : Bool) → (a || (b || c)) ≡ (b || (a || c))
or_swap true true c = refl
or_swap true false c = refl
or_swap false b c = refl

or_again : (a b : Bool) → (a || b) ≡ (a || (a || b))
or_again true b = refl
or_again false b = refl

or_true : (a : Bool) → (a || true) ≡ true
or_true true = refl
or_true false = refl

or_left : (a b : Bool) → a ≡ true → (a || b) ≡ true
or_left a b h = ap (λ x. x || b) h

or_right : (a b : Bool) → b ≡ true → (a || b) ≡ true
or_right a b h = ap (λ x. a || x) h ∙ or_true a

or_cases : (a b : Bool) → (a || b) ≡ true → (a ≡ true) ⊎ (b ≡ true)
or_cases true b h = inl refl
or_cases false b h = inr h

pub AllByRecursion-listed : {K : Type 0} (P : K → Type 0) (ks : List K) → AllByRecursion P ks → (x : K) → Listed x ks → P x
AllByRecursion-listed P [] a x l = absurd l
AllByRecursion-listed P (k ∷ ks) a x (inl e) = subst P (sym e) a.0
AllByRecursion-listed P (k ∷ ks) a x (inr l) = AllByRecursion-listed P ks a.1 x l

pub listed-AllByRecursion : {K : Type 0} (P : K → Type 0) (ks : List K) → ((x : K) → Listed x ks → P x) → AllByRecursion P ks
listed-AllByRecursion P [] f = tt
listed-AllByRecursion P (k ∷ ks) f = (f k (inl refl), listed-AllByRecursion P ks (λ x l. f x (inr l)))

module _ {K : Type 0} {R : K → K → Ordering} (o : IsTotalOrder R) where
  any_insert_key : (q : K) (ks : List K) (k : K) → list_any (eq_by_cmp R q) (insert_key R ks k) ≡ (eq_by_cmp R q k || list_any (eq_by_cmp R q) ks)
  any_insert_key q [] k = refl
  any_insert_key q (x ∷ xs) k = by (any_insert_key q xs k) (R k x) refl
    where
      by : list_any (eq_by_cmp R q) (insert_key R xs k) ≡ (eq_by_cmp R q k || list_any (eq_by_cmp R q) xs) → (r : Ordering) → R k x ≡ r
          → list_any (eq_by_cmp R q) (match_ordering r (k ∷ x ∷ xs) (x ∷ xs) (x ∷ insert_key R xs k))
          ≡ (eq_by_cmp R q k || (eq_by_cmp R q x || list_any (eq_by_cmp R q) xs))
      by rest Less is = refl
      by rest Equal is =
          or_again (eq_by_cmp R q x) (list_any (eq_by_cmp R q) xs) ∙ ap (λ t. is_eq t || (eq_by_cmp R q x || list_any (eq_by_cmp R q) xs))
          (sym (alike_right o k x q is))
      by rest Greater is = ap (λ b. eq_by_cmp R q x || b) rest ∙ or_swap (eq_by_cmp R q x) (eq_by_cmp R q k) (list_any (eq_by_cmp R q) xs)

  any_sorted_keys : (q : K) (ks : List K) → list_any (eq_by_cmp R q) (sorted_keys R ks) ≡ list_any (eq_by_cmp R q) ks
  any_sorted_keys q [] = refl
  any_sorted_keys q (k ∷ ks) = any_insert_key q (sorted_keys R ks) k ∙ ap (λ b. eq_by_cmp R q k || b) (any_sorted_keys q ks)

  pub contains-rising : (s : FinSet R) (q : K) → contains s q ≡ list_any (eq_by_cmp R q) (rising s)
  unfolding rising
  contains-rising s q = contains-items s q ∙ sym (any_sorted_keys q (items s))

  -- a member of s that t lacks, if s is no subset
  pub lacking_member : (s t : FinSet R) → is_subset s t ≡ false → (q : K) × (contains s q ≡ true) × (contains t q ≡ false)
  lacking_member s t not_all =
      elim (one_lacks (items s)) as (λ _. (q : K) × (contains s q ≡ true) × (contains t q ≡ false)) [
        | inl found ↦ (found.0, contains-items s found.0 ∙ found.1, found.2)
        | inr all ↦ absurd (true≢false (sym (contains-is_subset o s t (λ q h. all q (sym (contains-items s q) ∙ h))) ∙ not_all))
      ]
    where
      one_lacks : (ks : List K) → ((q : K) × (list_any (eq_by_cmp R q) ks ≡ true) × (contains t q ≡ false))
          ⊎ ((q : K) → list_any (eq_by_cmp R q) ks ≡ true → contains t q ≡ true)
      one_lacks [] = inr (λ q h. absurd (true≢false (sym h)))
      one_lacks (k ∷ ks) = by (contains t k) refl (one_lacks ks)
        where
          by : (b : Bool) → contains t k ≡ b
              → (((q : K) × (list_any (eq_by_cmp R q) ks ≡ true) × (contains t q ≡ false))
              ⊎ ((q : K) → list_any (eq_by_cmp R q) ks ≡ true → contains t q ≡ true))
              → (((q : K) × (list_any (eq_by_cmp R q) (k ∷ ks) ≡ true) × (contains t q ≡ false))
              ⊎ ((q : K) → list_any (eq_by_cmp R q) (k ∷ ks) ≡ true → contains t q ≡ true))
          by false is rest = inl (k, or_left (eq_by_cmp R k k) (list_any (eq_by_cmp R k) ks) (ap is_eq (tied_itself o k)), is)
          by true is (inl found) = inl (found.0, or_right (eq_by_cmp R found.0 k) (list_any (eq_by_cmp R found.0) ks) found.1, found.2)
          by true is (inr all) = inr (λ q h. elim (or_cases (eq_by_cmp R q k) (list_any (eq_by_cmp R q) ks) h) as (λ _. contains t q ≡ true) [
            | inl tie ↦ sym (contains_tied o t q k ((Equal-is (R q k)).0 tie)) ∙ is
            | inr later ↦ all q later
          ])

  turned : (k x : K) → R k x ≡ Greater → R x k ≡ Less
  turned k x e = o.antisymm x k ∙ ap ordering_reverse e

  not_below_itself : (x y : K) → R x y ≡ Less → x ≡ y → ⊥
  not_below_itself x y lt e =
      let tie : R x y ≡ Equal = subst (λ z. R x z ≡ Equal) e (tied_itself o x) in
      true≢false (ap is_eq (sym tie ∙ lt))

  below_both : (x y : K) → R x y ≡ Less → R y x ≡ Less → ⊥
  below_both x y f g = not_below_itself x x (o.trans x y x f g) refl

  -- the least of two sorted lists with the same members is the same
  first_same : (x y : K) (xs ys : List K) → AllByRecursion (λ z. R x z ≡ Less) xs → AllByRecursion (λ z. R y z ≡ Less) ys → Listed x (y ∷ ys)
      → Listed y (x ∷ xs) → x ≡ y
  first_same x y xs ys f g (inl e) m = e
  first_same x y xs ys f g (inr l) (inl e) = sym e
  first_same x y xs ys f g (inr l) (inr m) = absurd (below_both x y (AllByRecursion-listed _ xs f y m) (AllByRecursion-listed _ ys g x l))

  -- the rest: what is not the first
  rest_of : (x q : K) (xs ys : List K) → AllByRecursion (λ z. R x z ≡ Less) xs → Listed q xs → Listed q (x ∷ ys) → Listed q ys
  rest_of x q xs ys f l (inl e) = absurd (not_below_itself x q (AllByRecursion-listed _ xs f q l) (sym e))
  rest_of x q xs ys f l (inr m) = m

  pub sorted_once : (xs ys : List K) → IsStrictlySortedBy R xs → IsStrictlySortedBy R ys → ((q : K) → Listed q xs → Listed q ys)
      → ((q : K) → Listed q ys → Listed q xs) → xs ≡ ys
  unfolding IsStrictlySortedBy
  sorted_once [] [] f g h k = refl
  sorted_once [] (y ∷ ys) f g h k = absurd (k y (inl refl))
  sorted_once (x ∷ xs) [] f g h k = absurd (h x (inl refl))
  sorted_once (x ∷ xs) (y ∷ ys) f g h k =
      let first = first_same x y xs ys f.0 g.0 (h x (inl refl)) (k y (inl refl)) in
      let lower : AllByRecursion (λ z. R x z ≡ Less) ys = subst (λ w. AllByRecursion (λ z. R w z ≡ Less) ys) (sym first) g.0 in
      let rest = sorted_once xs ys f.1 g.1
      (λ q l. rest_of x q xs ys f.0 l (subst (λ w. Listed q (w ∷ ys)) (sym first) (h q (inr l))))
      (λ q l. rest_of x q ys xs lower l (k q (inr l))) in
      λ i. first i ∷ rest i

module _ {K : Type 0} {R : K → K → Ordering} (o : IsTotalOrder R) (same : IsAntisymmetric R) where
  pub any_listed : (ks : List K) (q : K) → Listed q ks → list_any (eq_by_cmp R q) ks ≡ true
  any_listed [] q l = absurd l
  any_listed (k ∷ ks) q (inl e) = or_left (eq_by_cmp R q k) (list_any (eq_by_cmp R q) ks) (subst (λ y. eq_by_cmp R q y ≡ true) e (ap is_eq (tied_itself o q)))
  any_listed (k ∷ ks) q (inr l) = or_right (eq_by_cmp R q k) (list_any (eq_by_cmp R q) ks) (any_listed ks q l)

  pub listed_any : (ks : List K) (q : K) → list_any (eq_by_cmp R q) ks ≡ true → Listed q ks
  listed_any [] q h = absurd (true≢false (sym h))
  listed_any (k ∷ ks) q h = elim (or_cases (eq_by_cmp R q k) (list_any (eq_by_cmp R q) ks) h) as (λ _. Listed q (k ∷ ks))
      [ inl e ↦ inl (same q k ((Equal-is (R q k)).0 e)) | inr r ↦ inr (listed_any ks q r) ]

  pub listed_sorted : (ks : List K) (q : K) → Listed q ks → Listed q (sorted_keys R ks)
  listed_sorted ks q l = listed_any (sorted_keys R ks) q (any_sorted_keys o q ks ∙ any_listed ks q l)

  pub sorted_listed : (ks : List K) (q : K) → Listed q (sorted_keys R ks) → Listed q ks
  sorted_listed ks q l = listed_any ks q (sym (any_sorted_keys o q ks) ∙ any_listed (sorted_keys R ks) q l)

  pub listed-rising : (s : FinSet R) (q : K) → Listed q (rising s) → contains s q ≡ true
  listed-rising s q l = contains-rising o s q ∙ any_listed (rising s) q l

  pub rising-listed : (s : FinSet R) (q : K) → contains s q ≡ true → Listed q (rising s)
  rising-listed s q h = listed_any (rising s) q (sym (contains-rising o s q) ∙ h)

  insert_listed : (ks : List K) (k q : K) → Listed q (insert_key R ks k) → (q ≡ k) ⊎ Listed q ks
  insert_listed ks k q l =
      elim (or_cases (eq_by_cmp R q k) (list_any (eq_by_cmp R q) ks) (sym (any_insert_key o q ks k) ∙ any_listed (insert_key R ks k) q l)) as (λ _. (q ≡ k)
      ⊎ Listed q ks) [
        | inl e ↦ inl (same q k ((Equal-is (R q k)).0 e))
        | inr r ↦ inr (listed_any ks q r)
      ]

  insert_sorted : (ks : List K) (k : K) → IsStrictlySortedBy R ks → IsStrictlySortedBy R (insert_key R ks k)
  unfolding IsStrictlySortedBy
  insert_sorted [] k h = (tt, tt)
  insert_sorted (x ∷ xs) k h = by (insert_sorted xs k h.1) (R k x) refl
    where
      by : IsStrictlySortedBy R (insert_key R xs k) → (r : Ordering) → R k x ≡ r
          → IsStrictlySortedBy R (match_ordering r (k ∷ x ∷ xs) (x ∷ xs) (x ∷ insert_key R xs k))
      by rest Less is = (
        listed-AllByRecursion (λ y. R k y ≡ Less) (x ∷ xs) (λ y l. elim l [
          | inl e ↦ subst (λ z. R k z ≡ Less) (sym e) is
          | inr m ↦ o.trans k x y is (AllByRecursion-listed (λ y. R x y ≡ Less) xs h.0 y m)
        ]),
        h,
      )
      by rest Equal is = h
      by rest Greater is = (
        listed-AllByRecursion (λ y. R x y ≡ Less) (insert_key R xs k) (λ y l. elim (insert_listed xs k y l) [
          | inl e ↦ subst (λ z. R x z ≡ Less) (sym e) (turned o k x is)
          | inr m ↦ AllByRecursion-listed (λ y. R x y ≡ Less) xs h.0 y m
        ]),
        rest,
      )

  pub sorted_keys_are_sorted : (ks : List K) → IsStrictlySortedBy R (sorted_keys R ks)
  unfolding IsStrictlySortedBy
  sorted_keys_are_sorted [] = tt
  sorted_keys_are_sorted (k ∷ ks) = insert_sorted (sorted_keys R ks) k (sorted_keys_are_sorted ks)

  pub rising_is_sorted : (s : FinSet R) → IsStrictlySortedBy R (rising s)
  unfolding rising
  rising_is_sorted s = sorted_keys_are_sorted (items s)

  pub rising-from_list : (ks : List K) → IsStrictlySortedBy R ks → rising (from_list {R = R} ks) ≡ ks
  rising-from_list ks rises = sorted_once o (rising (from_list ks)) ks (rising_is_sorted (from_list ks)) rises
      (λ q l. listed_any ks q (sym (contains-from_list o ks q) ∙ listed-rising (from_list ks) q l))
      (λ q l. rising-listed (from_list ks) q (contains-from_list o ks q ∙ any_listed ks q l))

  pub from_list-rising : (s : FinSet R) → from_list (rising s) ≡ s
  from_list-rising s = same_set o same (from_list (rising s)) s (λ q. contains-from_list o (rising s) q ∙ sym (contains-rising o s q))

  pub same_rising : (s t : FinSet R) → rising s ≡ rising t → s ≡ t
  same_rising s t e = sym (from_list-rising s) ∙ ap from_list e ∙ from_list-rising t

  -- a set that is not empty has a member
  pub some_member : (s : FinSet R) → (s ≡ empty → ⊥) → (q : K) × (contains s q ≡ true)
  some_member s other = from (rising s) refl
    where
      from : (ks : List K) → rising s ≡ ks → (q : K) × (contains s q ≡ true)
      from [] e = absurd (other (sym (from_list-rising s) ∙ ap from_list e))
      from (k ∷ ks) e = (k, listed-rising s k (subst (Listed k) (sym e) (inl refl)))
