-- Steps of a merge of two ascending lists, and its invariants.
use Rattle.cadf_pathset.proofs.Common.{common_steps, ◌≡◌, ℕ, Bool, true, false, ◌+◌, ◌-◌, ◌<◌, ◌≤◌, List, [], ◌∷◌, ◌++◌, refl, sym, ap, ◌∙◌, subst, suc, zero, length, take, min, drop, get_or, arith, append_assoc, drop-drop, drop-map, length-take, take-take, take_all, map-append, drop_more, drop_all, AllByRecursion, Ordering, Less, Equal, Greater, match_ordering, Texts, text_cmp, texts_cmp, text_same, texts_same, texts_total, sorted_merge, Agree, AreThere, IsLine, list_at, lists_at, place, shared, IsLinePrefix, Place, lists_ahead}
use Rattle.cadf_pathset.proofs.Merges.{alone, merge_skip}
use Rattle.cadf_pathset.proofs.Grown.{map_more}
use Rattle.cadf_pathset.proofs.Agreement.{agree_less, agree_through, agree_turned}
use Rattle.cadf_pathset.proofs.Threads.{agree_none, at_kept, line_cut, line_kept, lists_kept, nodes_fit, place_kept, self_line}

abbrev both : List Texts → List Texts → List Texts
both xs ys = sorted_merge texts_cmp true xs ys

module _ (acc : List Texts) (x y : Texts) (xs ys total : List Texts) (h : acc ++ both (x ∷ xs) (y ∷ ys) ≡ total) where
  step : (r : Ordering) → texts_cmp x y ≡ r → acc ++ match_ordering r (x ∷ both xs (y ∷ ys)) (x ∷ both xs ys) (y ∷ both (x ∷ xs) ys) ≡ total
  step r e = sym (ap (λ z. acc ++ match_ordering z (x ∷ both xs (y ∷ ys)) (x ∷ both xs ys) (y ∷ both (x ∷ xs) ys)) e) ∙ h

  pub step_equal : texts_cmp x y ≡ Equal → (acc ++ x ∷ []) ++ both xs ys ≡ total
  step_equal e = append_assoc acc (x ∷ []) (both xs ys) ∙ step Equal e

  pub step_greater : texts_cmp x y ≡ Greater → (acc ++ y ∷ []) ++ both (x ∷ xs) ys ≡ total
  step_greater e = append_assoc acc (y ∷ []) (both (x ∷ xs) ys) ∙ step Greater e

pub step_alone : (acc : List Texts) (y : Texts) (ys total : List Texts) → acc ++ both [] (y ∷ ys) ≡ total → (acc ++ y ∷ []) ++ both [] ys ≡ total
step_alone acc y ys total h = append_assoc acc (y ∷ []) ys ∙ h

pub agree_shared : (a b : Texts) → Agree (shared a b) a b
agree_shared [] b = agree_none [] b
agree_shared (t ∷ a) [] = agree_none (t ∷ a) []
agree_shared (t ∷ a) (u ∷ b) = by (agree_shared a b) (text_cmp t u) refl
  where
    by : Agree (shared a b) a b → (r : Ordering) → text_cmp t u ≡ r → Agree (match_ordering r 0 (shared a b + 1) 0) (t ∷ a) (u ∷ b)
    by rest Less e = agree_none (t ∷ a) (u ∷ b)
    by rest Greater e = agree_none (t ∷ a) (u ∷ b)
    by rest Equal e =
        let x = rest.ours in
        let y = rest.theirs in
        let one : shared a b + 1 ≡ suc (shared a b) = omega arith in
        record {
          ours = omega (arith, x);
          theirs = omega (arith, y);
          same = ap (λ k. take k (t ∷ a)) one ∙ (λ i. text_same t u e i ∷ rest.same i) ∙ ap (λ k. take k (u ∷ b)) (sym one);
        }

pub agree_as : (a b : Texts) (n : ℕ) → n ≡ shared a b → Agree n a b
agree_as a b n is = subst (λ k. Agree k a b) (sym is) (agree_shared a b)

-- a line of the first texts of one list, cut to those that another shares
pub line_shared : (ls : List Texts) (ns : List ℕ) (a b : Texts) (s : ℕ) → IsLine ls ns (take (length ns) a) → Agree s a b
    → IsLine ls (take s ns) (take (length (take s ns)) b)
line_shared ls ns a b s h g = grind (arith, common_steps, length-take, take_all, take-take, agree_less, line_cut)

pub front_entered : (ls : List Texts) (ns ms ks : List ℕ) (n k : ℕ) (a b : Texts) → IsLinePrefix ls ns ms n a → ks ≡ take (shared b a) ms → k ≡ min n (shared b a)
    → IsLinePrefix ls ns ks k b
front_entered ls ns ms ks n k a b f cut least =
    let g = agree_turned (shared b a) b a (agree_shared b a) in
    record {
      line = f.line;
      agrees = subst (λ j. Agree j (place ls ns) b) (sym least) (agree_through n (shared b a) (place ls ns) a b f.agrees g);
      out = subst (λ z. IsLine ls z (take (length z) b)) (sym cut) (line_shared ls ms a b (shared b a) f.out g);
    }

pub front_put : (ls us : List Texts) (kept : take (length ls) us ≡ ls) (ns ms ks : List ℕ) (n : ℕ) (theirs : Texts) → IsLinePrefix ls ns ms n theirs
    → IsLine us ks theirs → IsLinePrefix us ns ks n theirs
front_put ls us kept ns ms ks n theirs f h = grind (arith, common_steps, self_line, line_kept, place_kept, take_all)

pub there_at : (ls : List Texts) (ns : List ℕ) (i : ℕ) → AreThere ls ns → i < length ns → get_or ns i 0 ≤ length ls
there_at ls [] i h b = absurd (omega (arith, b))
there_at ls (n ∷ ns) zero h b = h.0
there_at ls (n ∷ ns) (suc i) h b = there_at ls ns i h.1 (omega (arith, b))

pub there_drop : (ls : List Texts) (ns : List ℕ) (i : ℕ) → AreThere ls ns → AreThere ls (drop i ns)
there_drop ls ns zero h = h
there_drop ls [] (suc i) h = h
there_drop ls (n ∷ ns) (suc i) h = there_drop ls ns i h.1

pub there_both : (ls : List Texts) (ns ms : List ℕ) → AreThere ls ns → AreThere ls ms → AreThere ls (ns ++ ms)
there_both ls [] ms h k = k
there_both ls (n ∷ ns) ms h k = (h.0, there_both ls ns ms h.1 k)

-- the steps of a merge
module _ (first : List Texts) (numbers : List ℕ) (at : ℕ) (acc total : List Texts) (more : Bool) (a : Place) (is : more ≡ true)
    (h : acc ++ both (lists_at first (drop at numbers)) (lists_ahead more a) ≡ total) where
  module _ (lt : at < length numbers) (n : ℕ) (read : n ≡ get_or numbers at 0) where
    here : acc ++ both (list_at first n ∷ lists_at first (drop (at + 1) numbers)) (a.0 ∷ a.1) ≡ total
    here =
        (λ i. acc ++ both (list_at first (read i) ∷ lists_at first (drop (at + 1) numbers)) (a.0 ∷ a.1))
        ∙ (λ i. acc ++ both (lists_at first (sym (drop_more numbers at 0 lt) i)) (lists_ahead (sym is i) a)) ∙ h

    pub turn_equal : (now : List Texts) (on : Bool) (b : Place) → now ≡ acc ++ list_at first n ∷ [] → texts_cmp (list_at first n) a.0 ≡ Equal → lists_ahead on b ≡ a.1
        → now ++ both (lists_at first (drop (at + 1) numbers)) (lists_ahead on b) ≡ total
    turn_equal now on b e o f =
        (λ i. e i ++ both (lists_at first (drop (at + 1) numbers)) (f i))
        ∙ step_equal acc (list_at first n) a.0 (lists_at first (drop (at + 1) numbers)) a.1 total here o

    pub turn_greater : (now : List Texts) (on : Bool) (b : Place) → now ≡ acc ++ a.0 ∷ [] → texts_cmp (list_at first n) a.0 ≡ Greater → lists_ahead on b ≡ a.1
        → now ++ both (lists_at first (drop at numbers)) (lists_ahead on b) ≡ total
    turn_greater now on b e o f =
        (λ i. e i ++ both (lists_at first (drop_more numbers at 0 lt i)) (f i))
        ∙ (λ i. (acc ++ a.0 ∷ []) ++ both (list_at first (sym read i) ∷ lists_at first (drop (at + 1) numbers)) a.1)
        ∙ step_greater acc (list_at first n) a.0 (lists_at first (drop (at + 1) numbers)) a.1 total here o

  pub turn_alone : length numbers ≤ at → (now : List Texts) (on : Bool) (b : Place) → now ≡ acc ++ a.0 ∷ [] → lists_ahead on b ≡ a.1
      → now ++ both (lists_at first (drop at numbers)) (lists_ahead on b) ≡ total
  turn_alone past now on b e f =
      (λ i. e i ++ both (lists_at first (drop_all at numbers past i)) (f i))
      ∙ step_alone acc a.0 a.1 total ((λ i. acc ++ both (lists_at first (sym (drop_all at numbers past) i)) (lists_ahead (sym is i) a)) ∙ h)

-- one of our lists appended
pub ours_put : (ls first : List Texts) (kept : take (length first) ls ≡ first) (ns ms : List ℕ) (n : ℕ) → ms ≡ ns ++ n ∷ [] → n ≤ length first
    → lists_at ls ms ≡ lists_at ls ns ++ list_at first n ∷ []
ours_put ls first kept ns ms n more there = grind (arith, common_steps, map_more, at_kept)

-- all of our lists that are left appended
pub rest_put : (ls first : List Texts) (kept : take (length first) ls ≡ first) (ns ms rest : List ℕ) (more : Bool) (a : Place) (total : List Texts)
    → ms ≡ ns ++ rest → AreThere first rest → more ≡ false → lists_at ls ns ++ both (lists_at first rest) (lists_ahead more a) ≡ total → lists_at ls ms ≡ total
rest_put ls first kept ns ms rest more a total put there is h = grind (arith, common_steps, map-append, lists_kept, alone)

-- our nodes for as many first texts of theirs as are shared
pub front_out : (ls : List Texts) (ns ms : List ℕ) (k : ℕ) (l b : Texts) → IsLine ls ns l → ms ≡ take k ns → Agree k l b → IsLine ls ms (take (length ms) b)
front_out ls ns ms k l b h e g = grind (arith, common_steps, length-take, line_cut)

pub ours_there : (ls first : List Texts) (kept : take (length first) ls ≡ first) (ns ms : List ℕ) (n : ℕ) → ms ≡ ns ++ n ∷ [] → AreThere ls ns → n ≤ length first
    → AreThere ls ms
ours_there ls first kept ns ms n more h there = grind (arith, common_steps, nodes_fit, there_both)

pub order_is : (ls first : List Texts) (kept : take (length first) ls ≡ first) (n : ℕ) (b : Texts) (r s : Ordering) → n ≤ length first
    → r ≡ texts_cmp (list_at ls n) b → r ≡ s → texts_cmp (list_at first n) b ≡ s
order_is ls first kept n b r s there e f = ap (λ l. texts_cmp l b) (sym (at_kept first ls kept n there)) ∙ sym e ∙ f

-- some of our lists skipped
pub turn_skip : (first : List Texts) (numbers : List ℕ) (at to : ℕ) (acc total : List Texts) (more : Bool) (a : Place) → more ≡ true
    → acc ++ both (lists_at first (drop at numbers)) (lists_ahead more a) ≡ total → at ≤ to → (now : List Texts)
    → now ≡ acc ++ take (to - at) (drop at (lists_at first numbers))
    → AllByRecursion (λ l. texts_cmp l a.0 ≡ Less) (take (to - at) (drop at (lists_at first numbers)))
    → now ++ both (lists_at first (drop to numbers)) (lists_ahead more a) ≡ total
turn_skip first numbers at to acc total more a is h l now put below =
    (λ i. (put ∙ ap (λ z. acc ++ take n z) behind) i ++ both (sym rest i) (lists_ahead (is i) a))
    ∙ append_assoc acc (take n x) (both (drop n x) (a.0 ∷ a.1))
    ∙ ap (λ z. acc ++ z) (sym (merge_skip texts_total texts_same x a.0 a.1 n (subst (λ z. AllByRecursion (λ l. texts_cmp l a.0 ≡ Less) (take n z)) behind below)))
    ∙ ap (λ z. acc ++ both x (lists_ahead z a)) (sym is) ∙ h
  where
    n : ℕ
    n = to - at

    x : List Texts
    x = lists_at first (drop at numbers)

    behind : drop at (lists_at first numbers) ≡ x
    behind = drop-map (list_at first) at numbers

    rest : drop n x ≡ lists_at first (drop to numbers)
    rest =
        drop-map (list_at first) n (drop at numbers)
        ∙ ap (lists_at first) (drop-drop n at numbers ∙ ap (λ k. drop k numbers) (omega (arith, l)))
