-- The digests of two sets, each with its kind, and the parts that are made of them.
use Rattle.cadf_tree.proofs.Common.{◌≡◌, ◌∙◌, ◌++◌, suc, Bool, true, false, List, [], ◌∷◌, Option, None, Some, length, drop, refl, ap, sym, subst, arith, ◌&&◌, ◌||◌, not, if◌then◌else◌, AllByRecursion, IsStrictlySortedBy, slice_cmp, nat_cmp, Less, Ok, filter, Text, less, tree_of, root, IsDigest, IsSet, items, is_earlier, is_later, is_of, number, leaves_of, is_text, all_beside, is_seen, has_changed, first_changed, all_needed, fault_unless, growth_unless, tree_fault, Marked, those, all_kinds, is_added, is_gone, AreRising, Kinds, any_shown, side, made_parts, NotNeeded, Kind, Both, Added, Gone, Part, Node, Hash, Leaf, all_of, before, from, starts_with, past, compared, digests_of, kinds_of, is_changed, starts_changed, change_shown, growth_parts, GrowthIsComplete, UnchangedIsAHash}
use Rattle.cadf_tree.proofs.Filling.{Cell, Block, One, cell_items, those_append}
use Rattle.cadf_tree.proofs.Sorted.{set_rises}
use Rattle.cadf_tree.proofs.Halving.{hidden_parts}
use Rattle.cadf_tree.proofs.OnePass.{trie_none}
use Rattle.cadf_tree.proofs.Judged.{same_text, leaves_items}
use Rattle.cadf_tree.proofs.Rising.{false_true, rest_rising}
use Rattle.cadf_tree.proofs.Differing.{sorted_rising}
use Rattle.cadf_tree.proofs.Showing.{IsLess, is_less, less_trans, less_apart, leaves_in}
use Rattle.cadf_tree.proofs.Celled.{AreCelled, set_celled, nones, kinds_in, both_true, same_itself, none_first, holds, passes}
use Rattle.cadf_tree.proofs.Asking.{other_side}

-- ---- what is compared

unmarked : (on : Kind → Bool) (k : Kind) (ds : List Text) → on k ≡ false → those on (all_of k ds) ≡ []
unmarked on k [] e = refl
unmarked on k (d ∷ ds) e = (λ i. (if e i then d ∷ [] else []) ++ those on (all_of k ds)) ∙ unmarked on k ds e

marked : (on : Kind → Bool) (k : Kind) (ds : List Text) → on k ≡ true → those on (all_of k ds) ≡ ds
marked on k [] e = refl
marked on k (d ∷ ds) e = λ i. (if e i then d ∷ [] else []) ++ marked on k ds e i

both_parts : (o : Text) (ns : List Text) → before o ns ++ from o ns ≡ ns
both_parts o [] = refl
both_parts o (n ∷ ns) = by (less n o) (both_parts o ns)
  where
    by : (z : Bool) → before o ns ++ from o ns ≡ ns → (if z then n ∷ before o ns else []) ++ (if z then from o ns else n ∷ ns) ≡ n ∷ ns
    by true e = ap (λ l. n ∷ l) e
    by false e = refl

earlier_is : (os ns : List Text) → those is_earlier (compared os ns) ≡ os
earlier_is [] ns = unmarked is_earlier Added ns refl
earlier_is (o ∷ os) ns =
    those_append is_earlier (all_of Added (before o ns)) ((if starts_with o (from o ns) then Both else Gone, o) ∷ compared os (past o (from o ns)))
    ∙ ap (λ l. l ++ those is_earlier ((if starts_with o (from o ns) then Both else Gone, o) ∷ compared os (past o (from o ns)))) (unmarked is_earlier Added (before o ns) refl)
    ∙ by (starts_with o (from o ns)) (earlier_is os (past o (from o ns)))
  where
    by : (z : Bool) → those is_earlier (compared os (past o (from o ns))) ≡ os
        → those is_earlier ((if z then Both else Gone, o) ∷ compared os (past o (from o ns))) ≡ o ∷ os
    by true e = ap (λ l. o ∷ l) e
    by false e = ap (λ l. o ∷ l) e

-- what is left of the later set, with o before it if it was there
later_rest : (o : Text) (ns ms : List Text) → ms ≡ past o ns → those is_later ((if starts_with o ns then Both else Gone, o) ∷ []) ++ ms ≡ ns
later_rest o [] ms e = e
later_rest o (n ∷ ns) ms e = by (is_text n o) refl e
  where
    by : (z : Bool) → is_text n o ≡ z → ms ≡ (if z then ns else n ∷ ns) → those is_later ((if z then Both else Gone, o) ∷ []) ++ ms ≡ n ∷ ns
    by true f g = λ i. sym (same_text n o f) i ∷ g i
    by false f g = g

later_is : (os ns : List Text) → those is_later (compared os ns) ≡ ns
later_is [] ns = marked is_later Added ns refl
later_is (o ∷ os) ns =
    those_append is_later (all_of Added (before o ns)) ((if starts_with o (from o ns) then Both else Gone, o) ∷ compared os (past o (from o ns)))
    ∙ (λ i. marked is_later Added (before o ns) refl i ++ rest (later_is os (past o (from o ns))) i) ∙ both_parts o ns
  where
    rest : those is_later (compared os (past o (from o ns))) ≡ past o (from o ns)
        → those is_later ((if starts_with o (from o ns) then Both else Gone, o) ∷ compared os (past o (from o ns))) ≡ from o ns
    rest e =
        those_append is_later ((if starts_with o (from o ns) then Both else Gone, o) ∷ []) (compared os (past o (from o ns)))
        ∙ later_rest o (from o ns) (those is_later (compared os (past o (from o ns)))) e

-- ---- it rises

-- above this digest, and rising
abbrev pub RisesFrom : Text → List Text → Type 0
RisesFrom b ds = AreRising (b ∷ ds)

rises_before : (b o : Text) (ns ms : List Text) → RisesFrom b ns → RisesFrom o ms → IsLess b o → RisesFrom b (before o ns ++ o ∷ ms)
rises_before b o [] ms h k low = (low, k)
rises_before b o (n ∷ ns) ms h k low = by (less n o) refl (rises_before n o ns ms h.1 k)
  where
    by : (z : Bool) → less n o ≡ z → (IsLess n o → RisesFrom n (before o ns ++ o ∷ ms)) → RisesFrom b ((if z then n ∷ before o ns else []) ++ o ∷ ms)
    by true e f = (h.0, f e)
    by false e f = (low, k)

past_from : (o : Text) (ns : List Text) → AreRising ns → RisesFrom o (past o (from o ns))
past_from o [] h = tt
past_from o (n ∷ ns) h = by (less n o) refl (past_from o ns (rest_rising n ns h))
  where
    at : (y : Bool) → is_text n o ≡ y → less n o ≡ false → RisesFrom o (if y then ns else n ∷ ns)
    at true f e = subst (λ x. AreRising (x ∷ ns)) (same_text n o f) h
    at false f e = (other_side o n (apart f) e, h)
      where
        apart : is_text n o ≡ false → is_text o n ≡ false
        apart g = swapped (is_text o n) refl g
          where
            swapped : (x : Bool) → is_text o n ≡ x → is_text n o ≡ false → x ≡ false
            swapped true a b = absurd (false_true (sym b ∙ ap (λ z. is_text z o) (sym (same_text o n a)) ∙ same_itself o))
            swapped false a b = refl

    by : (z : Bool) → less n o ≡ z → RisesFrom o (past o (from o ns)) → RisesFrom o (past o (if z then from o ns else n ∷ ns))
    by true e r = r
    by false e r = at (is_text n o) refl e

digests_are : (ds : List Text) (k : Kind) (ms : List Marked) → digests_of (all_of Added ds ++ ms) ≡ ds ++ digests_of ms
digests_are ds k ms = those_append all_kinds (all_of Added ds) ms ∙ ap (λ l. l ++ digests_of ms) (marked all_kinds Added ds refl)

union_rises : (b : Text) (os ns : List Text) → RisesFrom b os → RisesFrom b ns → RisesFrom b (digests_of (compared os ns))
union_rises b [] ns h k = subst (RisesFrom b) (sym (marked all_kinds Added ns refl)) k
union_rises b (o ∷ os) ns h k =
    subst (RisesFrom b) (sym (digests_are (before o ns) Added ((if starts_with o (from o ns) then Both else Gone, o) ∷ compared os (past o (from o ns)))))
    (rises_before b o ns (digests_of (compared os (past o (from o ns)))) k (union_rises o os (past o (from o ns)) h.1 (past_from o ns (rest_rising b ns k))) h.0)

all_append : (P : Text → Type 0) (ds es : List Text) → AllByRecursion P ds → AllByRecursion P es → AllByRecursion P (ds ++ es)
all_append P [] es h k = k
all_append P (d ∷ ds) es h k = (h.0, all_append P ds es h.1 k)

all_front : (P : Text → Type 0) (ds es : List Text) → AllByRecursion P (ds ++ es) → AllByRecursion P ds
all_front P [] es h = tt
all_front P (d ∷ ds) es h = (h.0, all_front P ds es h.1)

all_back : (P : Text → Type 0) (ds es : List Text) → AllByRecursion P (ds ++ es) → AllByRecursion P es
all_back P [] es h = h
all_back P (d ∷ ds) es h = all_back P ds es h.1

all_past : (P : Text → Type 0) (o : Text) (ns : List Text) → AllByRecursion P ns → AllByRecursion P (past o ns)
all_past P o [] h = tt
all_past P o (n ∷ ns) h = by (is_text n o)
  where
    by : (z : Bool) → AllByRecursion P (if z then ns else n ∷ ns)
    by true = h.1
    by false = h

union_all : (P : Text → Type 0) (os ns : List Text) → AllByRecursion P os → AllByRecursion P ns → AllByRecursion P (digests_of (compared os ns))
union_all P [] ns h k = subst (AllByRecursion P) (sym (marked all_kinds Added ns refl)) k
union_all P (o ∷ os) ns h k =
    subst (AllByRecursion P) (sym (digests_are (before o ns) Added ((if starts_with o (from o ns) then Both else Gone, o) ∷ compared os (past o (from o ns)))))
    (all_append P (before o ns) (o ∷ digests_of (compared os (past o (from o ns)))) (all_front P (before o ns) (from o ns) parts)
    (h.0, union_all P os (past o (from o ns)) h.1 (all_past P o (from o ns) (all_back P (before o ns) (from o ns) parts))))
  where
    parts : AllByRecursion P (before o ns ++ from o ns)
    parts = subst (AllByRecursion P) (sym (both_parts o ns)) k

-- no digest is below the empty text
from_nothing : (ds : List Text) → AllByRecursion IsDigest ds → AreRising ds → RisesFrom [] ds
from_nothing [] h k = tt
from_nothing ([] ∷ ds) h k = absurd (omega (arith, h.0.size))
from_nothing ((x ∷ d) ∷ ds) h k = (refl, k)

sorted_all : (d : Text) (ds : List Text) → AreRising (d ∷ ds) → AllByRecursion (λ e. slice_cmp nat_cmp d e ≡ Less) ds
sorted_all d [] h = tt
sorted_all d (e ∷ ds) h = (is_less _ h.0, sorted_all d ds (skip d e ds h))
  where
    skip : (d e : Text) (ds : List Text) → AreRising (d ∷ e ∷ ds) → AreRising (d ∷ ds)
    skip d e [] h = tt
    skip d e (c ∷ ds) h = (less_trans d e c h.0 h.1.0, h.1.1)

rising_sorted : (ds : List Text) → AreRising ds → IsStrictlySortedBy (slice_cmp nat_cmp) ds
unfolding IsStrictlySortedBy
rising_sorted [] h = tt
rising_sorted (d ∷ ds) h = (sorted_all d ds h, rising_sorted ds (rest_rising d ds h))

pub union_set : (old new : List Text) → IsSet old → IsSet new → IsSet (digests_of (compared old new))
union_set old new a b = record {
  digests = union_all IsDigest old new a.digests b.digests;
  rising = rising_sorted (digests_of (compared old new))
      (rest_rising [] (digests_of (compared old new))
      (union_rises [] old new (from_nothing old a.digests (sorted_rising old a.rising)) (from_nothing new b.digests (sorted_rising new b.rising))));
}

-- ---- what is shown

pub shown_length : (b : Bool) (ms : List Marked) → length (change_shown b (kinds_of ms)) ≡ length (digests_of ms)
shown_length b [] = refl
shown_length b (m ∷ ms) = ap suc (shown_length (is_changed m.0) ms)

-- what isn't shown is of both sets
kept_side : (on : Kind → Bool) (b : Bool) (ms : List Marked) → on Both ≡ true → side on (digests_of ms) (change_shown b (kinds_of ms)) ≡ those on ms
kept_side on b [] e = refl
kept_side on b ((k, d) ∷ ms) e = by k (b || starts_changed (kinds_of ms)) (kept_side on (is_changed k) ms e)
  where
    shown : (y : Bool) (l : List Text) → (if y then d ∷ l else l) ≡ (if y then d ∷ [] else []) ++ l
    shown true l = refl
    shown false l = refl

    by : (k : Kind) (z : Bool) → side on (digests_of ms) (change_shown (is_changed k) (kinds_of ms)) ≡ those on ms
        → side on (d ∷ digests_of ms) ((if is_changed k || z then Some k else None) ∷ change_shown (is_changed k) (kinds_of ms)) ≡ (if on k then d ∷ [] else []) ++ those on ms
    by Both true f = shown (on Both) _ ∙ ap (λ l. (if on Both then d ∷ [] else []) ++ l) f
    by Both false f = ap (λ l. d ∷ l) f ∙ sym (ap (λ z. (if z then d ∷ [] else []) ++ those on ms) e)
    by Added z f = shown (on Added) _ ∙ ap (λ l. (if on Added then d ∷ [] else []) ++ l) f
    by Gone z f = shown (on Gone) _ ∙ ap (λ l. (if on Gone then d ∷ [] else []) ++ l) f

-- ---- what stands at the parts

record IsGrown (b : Bool) (ms : List Marked) (cs : List Cell) : Type 0 where
  leaves : leaves_in cs ≡ digests_of ms
  kinds : kinds_in cs ≡ change_shown b (kinds_of ms)

same_kind : (k l : Kind) → Some k ≡ Some l → k ≡ l
same_kind k l e = cc

first_kinds : (k l : Option Kind) (ks ls : Kinds) → k ∷ ks ≡ l ∷ ls → k ≡ l
first_kinds k l ks ls e = cc

rest_kinds : (k l : Option Kind) (ks ls : Kinds) → k ∷ ks ≡ l ∷ ls → ks ≡ ls
rest_kinds k l ks ls e = ap (drop 1) e

first_text : (d c : Text) (ds cs : List Text) → d ∷ ds ≡ c ∷ cs → d ≡ c
first_text d c ds cs e = cc

rest_texts : (d c : Text) (ds cs : List Text) → d ∷ ds ≡ c ∷ cs → ds ≡ cs
rest_texts d c ds cs e = ap (drop 1) e

-- a leaf is the first digest
record IsOne (b : Bool) (k : Kind) (d : Text) (cs : List Cell) (ms : List Marked) : Type 0 where
  others : List Marked
  is : ms ≡ (k, d) ∷ others
  needed : (is_changed k || (b || starts_changed (kinds_of others))) ≡ true
  rest : IsGrown (is_changed k) others cs

one_of : (b : Bool) (k : Kind) (d : Text) (cs : List Cell) (ms : List Marked) → IsGrown b ms (One k d ∷ cs) → IsOne b k d cs ms
one_of b k d cs [] g = let none = g.kinds in absurd (cc)
one_of b k d cs ((l, c) ∷ ms) g =
    by (is_changed l || (b || starts_changed (kinds_of ms))) refl (first_kinds _ _ _ _ g.kinds)
  where
    by : (z : Bool) → (is_changed l || (b || starts_changed (kinds_of ms))) ≡ z → Some k ≡ (if z then Some l else None) → IsOne b k d cs ((l, c) ∷ ms)
    by true e f =
        let same : l ≡ k = sym (same_kind k l f) in
        record {
          others = ms;
          is = λ i. (same i, sym (first_text d c _ _ g.leaves) i) ∷ ms;
          needed = subst (λ x. (is_changed x || (b || starts_changed (kinds_of ms))) ≡ true) same e;
          rest = record {
            leaves = rest_texts d c _ _ g.leaves;
            kinds = rest_kinds _ _ _ _ g.kinds ∙ ap (λ x. change_shown (is_changed x) (kinds_of ms)) same;
          };
        }
    by false e f = absurd (cc)

-- a hash is of digests of both sets; what is beside it didn't change
record IsSkipped (b : Bool) (cs : List Cell) (ms : List Marked) : Type 0 where
  others : List Marked
  before_it : b ≡ false
  first : starts_changed (kinds_of ms) ≡ false
  after_it : starts_changed (kinds_of others) ≡ false
  added : those is_added ms ≡ those is_added others
  gone : those is_gone ms ≡ those is_gone others
  rest : IsGrown false others cs

hidden_by : (y b z : Bool) (k : Kind) → None ≡ (if y || (b || z) then Some k else None) → (y ≡ false) × ((b ≡ false) × (z ≡ false))
hidden_by true b z k e = absurd (cc)
hidden_by false true z k e = absurd (cc)
hidden_by false false true k e = absurd (cc)
hidden_by false false false k e = (refl, (refl, refl))

skipped : (b : Bool) (d : Text) (ds : List Text) (cs : List Cell) (ms : List Marked) → d ∷ ds ++ leaves_in cs ≡ digests_of ms
    → None ∷ nones ds ++ kinds_in cs ≡ change_shown b (kinds_of ms) → IsSkipped b cs ms
skipped b d ds cs [] e f = absurd (cc)
skipped b d ds cs ((Added, c) ∷ ms) e f = let none = first_kinds _ _ _ _ f in absurd (cc)
skipped b d ds cs ((Gone, c) ∷ ms) e f = let none = first_kinds _ _ _ _ f in absurd (cc)
skipped b d [] cs ((Both, c) ∷ ms) e f =
    let none = hidden_by false b (starts_changed (kinds_of ms)) Both (first_kinds _ _ _ _ f) in
    record {
      others = ms;
      before_it = none.1.0;
      first = refl;
      after_it = none.1.1;
      added = refl;
      gone = refl;
      rest = record { leaves = rest_texts d c _ _ e; kinds = rest_kinds _ _ _ _ f };
    }
skipped b d (a ∷ ds) cs ((Both, c) ∷ ms) e f =
    let none = hidden_by false b (starts_changed (kinds_of ms)) Both (first_kinds _ _ _ _ f) in
    let x = skipped false a ds cs ms (rest_texts d c _ _ e) (rest_kinds _ _ _ _ f) in
    record { others = x.others; before_it = none.1.0; first = refl; after_it = x.after_it; added = x.added; gone = x.gone; rest = x.rest }

block_of : (b : Bool) (h d : Text) (ds : List Text) (cs : List Cell) (ms : List Marked) → IsGrown b ms (Block h d ds ∷ cs) → IsSkipped b cs ms
block_of b h d ds cs ms g = skipped b d ds cs ms g.leaves g.kinds

leaf_changed : (k : Kind) (d : Text) → has_changed (Leaf k d) ≡ is_changed k
leaf_changed Both d = refl
leaf_changed Added d = refl
leaf_changed Gone d = refl

starts : (b : Bool) (cs : List Cell) (ms : List Marked) → IsGrown b ms cs → first_changed (cell_items cs) ≡ starts_changed (kinds_of ms)
starts b [] [] g = refl
starts b [] (m ∷ ms) g = let none = g.leaves in absurd (cc)
starts b (Block h d ds ∷ cs) ms g = sym (block_of b h d ds cs ms g).first
starts b (One k d ∷ cs) ms g =
    let x = one_of b k d cs ms g in
    leaf_changed k d ∙ ap (λ l. starts_changed (kinds_of l)) (sym x.is)

needed : (b : Bool) (cs : List Cell) (ms : List Marked) → IsGrown b ms cs → all_needed b (cell_items cs) ≡ true
needed b [] ms g = refl
needed b (Block h d ds ∷ cs) ms g =
    let x = block_of b h d ds cs ms g in
    needed false cs x.others x.rest
needed b (One k d ∷ cs) ms g =
    let x = one_of b k d cs ms g in
    both_true (has_changed (Leaf k d) || (b || first_changed (cell_items cs))) (all_needed (has_changed (Leaf k d)) (cell_items cs))
    ((λ i. leaf_changed k d i || (b || starts (is_changed k) cs x.others x.rest i)) ∙ x.needed)
    (ap (λ z. all_needed z (cell_items cs)) (leaf_changed k d) ∙ needed (is_changed k) cs x.others x.rest)

not_beside : (z : Bool) → not (z && false) ≡ true
not_beside true = refl
not_beside false = refl

seen : (b : Bool) (cs : List Cell) (ms : List Marked) → IsGrown b ms cs → all_beside is_seen (cell_items cs) ≡ true
seen b [] ms g = refl
seen b (Block h d ds ∷ []) ms g = refl
seen b (One k d ∷ []) ms g = refl
seen b (Block h d ds ∷ Block f c es ∷ cs) ms g =
    let x = block_of b h d ds (Block f c es ∷ cs) ms g in
    seen false (Block f c es ∷ cs) x.others x.rest
seen b (Block h d ds ∷ One k c ∷ cs) ms g =
    let x = block_of b h d ds (One k c ∷ cs) ms g in
    both_true (is_seen (Hash h) (Leaf k c)) (all_beside is_seen (cell_items (One k c ∷ cs)))
    (ap (λ z. not (z || false)) (starts false (One k c ∷ cs) x.others x.rest ∙ x.after_it)) (seen false (One k c ∷ cs) x.others x.rest)
seen b (One k d ∷ Block h c es ∷ cs) ms g =
    let x = one_of b k d (Block h c es ∷ cs) ms g in
    both_true (is_seen (Leaf k d) (Hash h)) (all_beside is_seen (cell_items (Block h c es ∷ cs)))
    (ap (λ z. not (z && true)) (leaf_changed k d ∙ (block_of (is_changed k) h c es cs x.others x.rest).before_it)) (seen (is_changed k) (Block h c es ∷ cs) x.others x.rest)
seen b (One k d ∷ One l c ∷ cs) ms g =
    let x = one_of b k d (One l c ∷ cs) ms g in
    both_true (is_seen (Leaf k d) (Leaf l c)) (all_beside is_seen (cell_items (One l c ∷ cs)))
    (not_beside (has_changed (Leaf k d))) (seen (is_changed k) (One l c ∷ cs) x.others x.rest)

one_added : (k : Kind) (d : Text) (xs : List Part) (ms : List Marked) → leaves_of Added xs ≡ those is_added ms → leaves_of Added (Leaf k d ∷ xs) ≡ those is_added ((k, d) ∷ ms)
one_added Both d xs ms e = e
one_added Added d xs ms e = ap (λ l. d ∷ l) e
one_added Gone d xs ms e = e

one_gone : (k : Kind) (d : Text) (xs : List Part) (ms : List Marked) → leaves_of Gone xs ≡ those is_gone ms → leaves_of Gone (Leaf k d ∷ xs) ≡ those is_gone ((k, d) ∷ ms)
one_gone Both d xs ms e = e
one_gone Added d xs ms e = e
one_gone Gone d xs ms e = ap (λ l. d ∷ l) e

its_added : (b : Bool) (cs : List Cell) (ms : List Marked) → IsGrown b ms cs → leaves_of Added (cell_items cs) ≡ those is_added ms
its_added b [] [] g = refl
its_added b [] (m ∷ ms) g = let none = g.leaves in absurd (cc)
its_added b (Block h d ds ∷ cs) ms g =
    let x = block_of b h d ds cs ms g in
    its_added false cs x.others x.rest ∙ sym x.added
its_added b (One k d ∷ cs) ms g =
    let x = one_of b k d cs ms g in
    one_added k d (cell_items cs) x.others (its_added (is_changed k) cs x.others x.rest) ∙ ap (those is_added) (sym x.is)

its_gone : (b : Bool) (cs : List Cell) (ms : List Marked) → IsGrown b ms cs → leaves_of Gone (cell_items cs) ≡ those is_gone ms
its_gone b [] [] g = refl
its_gone b [] (m ∷ ms) g = let none = g.leaves in absurd (cc)
its_gone b (Block h d ds ∷ cs) ms g =
    let x = block_of b h d ds cs ms g in
    its_gone false cs x.others x.rest ∙ sym x.gone
its_gone b (One k d ∷ cs) ms g =
    let x = one_of b k d cs ms g in
    one_gone k d (cell_items cs) x.others (its_gone (is_changed k) cs x.others x.rest) ∙ ap (those is_gone) (sym x.is)

number_leaves : (k : Kind) (ps : List Part) → number (Some k) ps ≡ length (leaves_of k ps)
number_leaves k [] = refl
number_leaves k (Node ∷ ps) = number_leaves k ps
number_leaves k (Hash h ∷ ps) = number_leaves k ps
number_leaves k (Leaf l d ∷ ps) = by (is_of (Some k) (Leaf l d)) (number_leaves k ps)
  where
    by : (z : Bool) → number (Some k) ps ≡ length (leaves_of k ps)
        → length (if z then Leaf l d ∷ filter (is_of (Some k)) ps else filter (is_of (Some k)) ps) ≡ length (if z then d ∷ leaves_of k ps else leaves_of k ps)
    by true e = ap suc e
    by false e = e

-- ---- what is made is accepted

module _ (old new : List Text) (a : IsSet old) (b : IsSet new) where
  abbrev pub all_marked : List Marked
  all_marked = compared old new

  abbrev pub all_shown : Kinds
  all_shown = change_shown false (kinds_of all_marked)

  pub cells_of : AreCelled (digests_of all_marked) all_shown
  cells_of = set_celled (digests_of all_marked) all_shown (union_set old new a b) (shown_length false all_marked)

  grown_cells : IsGrown false all_marked cells_of.cells
  grown_cells = record { leaves = cells_of.leaves; kinds = cells_of.kinds }

  pub parts_added : leaves_of Added (growth_parts old new) ≡ those is_added all_marked
  parts_added = leaves_items Added (growth_parts old new) ∙ ap (leaves_of Added) cells_of.its_items ∙ its_added false cells_of.cells all_marked grown_cells

  pub parts_gone : leaves_of Gone (growth_parts old new) ≡ those is_gone all_marked
  parts_gone = leaves_items Gone (growth_parts old new) ∙ ap (leaves_of Gone) cells_of.its_items ∙ its_gone false cells_of.cells all_marked grown_cells

pub complete : GrowthIsComplete
complete old new a b = record {
  difference = record {
    all = ms;
    rising = sorted_rising ds set.rising;
    old_is = earlier_is old new;
    new_is = later_is old new;
    added_is = sym (parts_added old new a b);
    gone_is = sym (parts_gone old new a b);
  };
  accepted =
      ap (λ o. growth_unless o ps)
      (none_first (tree_fault (root old) (root new) ps) (fault_unless (all_needed false (items ps)) NotNeeded)
      ((λ i. tree_fault (root (sym first i)) (root (sym second i)) ps) ∙ passes ds ks set same all_seen)
      (holds (all_needed false (items ps)) NotNeeded (ap (all_needed false) x.its_items ∙ needed false x.cells ms grown)))
      ∙ (λ i. Ok (record { added = number_leaves Added ps i; gone = number_leaves Gone ps i }));
}
  where
    ms : List Marked
    ms = compared old new

    ds : List Text
    ds = digests_of ms

    ks : Kinds
    ks = change_shown false (kinds_of ms)

    ps : List Part
    ps = growth_parts old new

    set : IsSet ds
    set = union_set old new a b

    same : length ks ≡ length ds
    same = shown_length false ms

    x : AreCelled ds ks
    x = cells_of old new a b

    grown : IsGrown false ms x.cells
    grown = record { leaves = x.leaves; kinds = x.kinds }

    all_seen : all_beside is_seen (items ps) ≡ true
    all_seen = ap (all_beside is_seen) x.its_items ∙ seen false x.cells ms grown

    first : side is_earlier ds ks ≡ old
    first = kept_side is_earlier false ms refl ∙ earlier_is old new

    second : side is_later ds ks ≡ new
    second = kept_side is_later false ms refl ∙ later_is old new

-- ---- what didn't change

compared_itself : (ds : List Text) → compared ds ds ≡ all_of Both ds
compared_itself [] = refl
compared_itself (d ∷ ds) =
    (λ i. all_of Added (if is_less i then d ∷ before d ds else []) ++ step (is_less i)) ∙ at (same_itself d) ∙ ap (λ l. (Both, d) ∷ l) (compared_itself ds)
  where
    step : Bool → List Marked
    step z =
        (if starts_with d (if z then from d ds else d ∷ ds) then Both else Gone, d) ∷ compared ds (past d (if z then from d ds else d ∷ ds))

    no : (z : Bool) → less d d ≡ z → z ≡ false
    no true e = absurd (false_true (sym (less_apart d d e) ∙ same_itself d))
    no false e = refl

    is_less : less d d ≡ false
    is_less = no (less d d) refl

    at : is_text d d ≡ true
        → (if is_text d d then Both else Gone, d) ∷ compared ds (if is_text d d then ds else d ∷ ds) ≡ (Both, d) ∷ compared ds ds
    at e = λ i. (if e i then Both else Gone, d) ∷ compared ds (if e i then ds else d ∷ ds)

not_changed : (ds : List Text) → any_shown (change_shown false (kinds_of (all_of Both ds))) ≡ false
not_changed [] = refl
not_changed (d ∷ []) = refl
not_changed (d ∷ e ∷ ds) = not_changed (e ∷ ds)

pub unchanged : UnchangedIsAHash
unfolding tree_of
unchanged [] set = ap (λ o. made_parts o []) (trie_none 256 0)
unchanged (d ∷ ds) set =
    (λ i. made_parts (tree_of (digests_of (compared_itself (d ∷ ds) i))) (change_shown false (kinds_of (compared_itself (d ∷ ds) i))))
    ∙ ap (λ l. made_parts (tree_of l) (change_shown false (kinds_of (all_of Both (d ∷ ds))))) (marked all_kinds Both (d ∷ ds) refl)
    ∙ hidden_parts (d ∷ ds) (change_shown false (kinds_of (all_of Both (d ∷ ds)))) (set_rises (d ∷ ds) set) (omega arith) (not_changed (d ∷ ds))
