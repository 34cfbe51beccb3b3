-- The texts that lists share which are visited and copied.
use Rattle.cadf_pathset.proofs.Common.{common_steps, ◌≡◌, ℕ, Bool, true, false, cond, ◌≤◌, ◌<◌, ◌-◌, nat_eq, get_or, List, [], ◌∷◌, ◌++◌, refl, sym, ap, ◌∙◌, subst, length, min, map, take, arith, append_assoc, length-take-le, take-take, nat_tests, AllByRecursion, filter, IsStrictlySortedBy, Ordering, Less, Equal, Greater, match_ordering, ordering_reverse, Texts, texts_cmp, texts_total, chosen_of, last_of, sorted_without, Agree, last_node, list_at, lists_at, place, shared, Place, Steps, lists_ahead}
use Rattle.cadf_pathset.proofs.Agreement.{agree_less, agree_through, agree_turned}
use Rattle.cadf_pathset.proofs.CarrierLists.{last-more}
use Rattle.cadf_pathset.proofs.Merging.{agree_shared}

pub stepped_ahead : (more : Bool) (a b : Place) (n m : ℕ) → Steps more a b n m → lists_ahead more b ≡ a.1
stepped_ahead true a b n m h = sym h.0
stepped_ahead false a b n m h = sym h.0

-- the texts that a list shares with another, and the next list with it
pub advanced_agrees : (n s m : ℕ) (q a b : Texts) → Agree n q a → s ≡ shared b a → m ≡ min n s → Agree m q b
advanced_agrees n s m q a b h e f = grind (arith, common_steps, agree_less, agree_through, agree_turned, agree_shared)

pub stepped_agrees : (more : Bool) (a b : Place) (n m : ℕ) (q : Texts) → Steps more a b n m → Agree n a.0 q → Agree m b.0 q
stepped_agrees true a b n m q h k = agree_turned m q b.0 (advanced_agrees n (shared b.0 a.0) m q a.0 b.0 (agree_turned n a.0 q k) refl h.1)
stepped_agrees false a b n m q h k = subst (λ p. Agree m p.0 q) (sym h.1) (subst (λ j. Agree j a.0 q) (sym h.2) k)

-- the last of some lists is the one appended
pub last_agrees : (xs now : List Texts) (p q : Texts) (n : ℕ) → now ≡ xs ++ p ∷ [] → q ≡ p → n ≡ length q → Agree n (last_of [] now) q
last_agrees xs now p q n put same long = grind (arith, common_steps, last-more)

-- the last of some lists is the appended front of a list
pub front_agrees : (xs now : List Texts) (f l : Texts) (n : ℕ) → now ≡ xs ++ f ∷ [] → f ≡ take n l → n ≤ length l → Agree n (last_of [] now) l
front_agrees xs now f l n put cut fits = grind (arith, common_steps, length-take-le, last-more, take-take)

same_number : (a b : ℕ) → nat_eq a b ≡ true → a ≡ b
same_number a b e = grind (arith, nat_tests)

last_node_of : (ls : List Texts) (p : Texts) (n : ℕ) (ns : List ℕ) → last_of p (lists_at ls (n ∷ ns)) ≡ list_at ls (get_or (n ∷ ns) (length ns) 0)
last_node_of ls p n [] = refl
last_node_of ls p n (m ∷ ns) = last_node_of ls (list_at ls n) m ns

-- a line that ends at the last of some nodes
pub node_is_last : (ls : List Texts) (line ns : List ℕ) (e : ℕ) → e ≡ last_node line → 1 ≤ length ns → nat_eq e (get_or ns (length ns - 1) 0) ≡ true
    → place ls line ≡ last_of [] (lists_at ls ns)
node_is_last ls line [] e is some same = absurd (omega (arith, some))
node_is_last ls line (n ∷ ns) e is some same =
    let k : length (n ∷ ns) - 1 ≡ length ns = omega arith in
    ap (list_at ls) (sym is ∙ same_number e (get_or (n ∷ ns) (length (n ∷ ns) - 1) 0) same ∙ ap (λ j. get_or (n ∷ ns) j 0) k)
    ∙ sym (last_node_of ls [] n ns)

last_from : (l : Texts) (ls : List Texts) → get_or (l ∷ ls) (length ls) [] ≡ last_of l ls
last_from l [] = refl
last_from l (k ∷ ls) = last_from k ls

pub last_got : (ls : List Texts) → 0 < length ls → get_or ls (length ls - 1) [] ≡ last_of [] ls
last_got [] h = absurd (omega (arith, h))
last_got (l ∷ ls) h = grind (arith, common_steps, last_from)

pub chosen_none : (bs : List Bool) → chosen_of bs [] ≡ []
chosen_none [] = refl
chosen_none (b ∷ bs) = refl

-- the flags that a test returns
pub chosen_by : (test : Texts → Bool) (ls : List Texts) → chosen_of (map test ls) ls ≡ filter test ls
chosen_by test [] = refl
chosen_by test (l ∷ ls) = ap (λ z. cond (test l) (l ∷ z) z) (chosen_by test ls)

all_chosen : (P : Texts → Type 0) (bs : List Bool) (ls : List Texts) → AllByRecursion P ls → AllByRecursion P (chosen_of bs ls)
all_chosen P [] ls h = tt
all_chosen P (b ∷ bs) [] h = tt
all_chosen P (true ∷ bs) (l ∷ ls) h = (h.0, all_chosen P bs ls h.1)
all_chosen P (false ∷ bs) (l ∷ ls) h = all_chosen P bs ls h.1

pub chosen_rises : (bs : List Bool) (ls : List Texts) → IsStrictlySortedBy texts_cmp ls → IsStrictlySortedBy texts_cmp (chosen_of bs ls)
unfolding IsStrictlySortedBy
chosen_rises [] ls h = tt
chosen_rises (b ∷ bs) [] h = tt
chosen_rises (true ∷ bs) (l ∷ ls) h = (all_chosen (λ x. texts_cmp l x ≡ Less) bs ls h.0, chosen_rises bs ls h.1)
chosen_rises (false ∷ bs) (l ∷ ls) h = chosen_rises bs ls h.1

pub order_turned : (p a b : Texts) (r s : Ordering) → p ≡ a → r ≡ texts_cmp b p → r ≡ s → texts_cmp a b ≡ ordering_reverse s
order_turned p a b r s e o is = texts_total.antisymm a b ∙ ap ordering_reverse (ap (texts_cmp b) (sym e) ∙ sym o ∙ is)

-- the steps of a difference
module _ (acc total : List Texts) (more others : Bool) (a b : Place) (is : more ≡ true) (are : others ≡ true)
    (h : acc ++ sorted_without texts_cmp (lists_ahead more a) (lists_ahead others b) ≡ total) where
  turn : (r : Ordering) → texts_cmp a.0 b.0 ≡ r → acc ++ match_ordering r (a.0 ∷ sorted_without texts_cmp a.1 (b.0 ∷ b.1)) (sorted_without texts_cmp a.1 b.1)
      (sorted_without texts_cmp (a.0 ∷ a.1) b.1) ≡ total
  turn r e =
      sym (ap (λ z. acc ++ match_ordering z (a.0 ∷ sorted_without texts_cmp a.1 (b.0 ∷ b.1)) (sorted_without texts_cmp a.1 b.1)
      (sorted_without texts_cmp (a.0 ∷ a.1) b.1)) e)
      ∙ (λ i. acc ++ sorted_without texts_cmp (lists_ahead (sym is i) a) (lists_ahead (sym are i) b)) ∙ h

  pub left_less : (on : Bool) (c : Place) (now : List Texts) → texts_cmp a.0 b.0 ≡ Less → now ≡ acc ++ a.0 ∷ [] → lists_ahead on c ≡ a.1
      → now ++ sorted_without texts_cmp (lists_ahead on c) (lists_ahead others b) ≡ total
  left_less on c now o put next =
      (λ i. put i ++ sorted_without texts_cmp (next i) (lists_ahead (are i) b)) ∙ append_assoc acc (a.0 ∷ []) (sorted_without texts_cmp a.1 (b.0 ∷ b.1)) ∙ turn Less o

  pub left_equal : (on other : Bool) (c d : Place) (now : List Texts) → texts_cmp a.0 b.0 ≡ Equal → now ≡ acc → lists_ahead on c ≡ a.1 → lists_ahead other d ≡ b.1
      → now ++ sorted_without texts_cmp (lists_ahead on c) (lists_ahead other d) ≡ total
  left_equal on other c d now o same next after = (λ i. same i ++ sorted_without texts_cmp (next i) (after i)) ∙ turn Equal o

  pub left_greater : (other : Bool) (d : Place) → texts_cmp a.0 b.0 ≡ Greater → lists_ahead other d ≡ b.1
      → acc ++ sorted_without texts_cmp (lists_ahead more a) (lists_ahead other d) ≡ total
  left_greater other d o after = (λ i. acc ++ sorted_without texts_cmp (lists_ahead (is i) a) (after i)) ∙ turn Greater o
