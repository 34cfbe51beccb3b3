-- What is accepted satisfies each check.
use Rattle.cadf_tree.proofs.Common.{◌≡◌, ◌∙◌, ◌+◌, ◌-◌, ◌++◌, ℕ, zero, suc, Bool, true, false, List, [], ◌∷◌, Option, None, Some, length, refl, ap, sym, subst, arith, append_assoc, append-nil, not, nat_eq, nat_lt, nat_le, if◌then◌else◌, option_map, Ok, option_or, filter, leb-true, ltb-false, eqb-true, Text, root_hash, leaf_hash, Pruned, Hidden, Shown, Fork, Read, beside_read, both_read, read, whole, read_all, items, joined, side_hash, side_root, is_earlier, is_later, is_of, number, leaves_of, is_text, may_hide, hidden_leaves, are_equal, counts_agree, all_beside, rise, is_seen, all_needed, has_spare, sides, fault_unless, roots_fault, order_fault, sides_fault, tree_fault, growth_unless, verdict, HaveHashes, Root, Growth, TreeFault, OtherCount, OtherEarlierRoot, OtherLaterRoot, Order, NeighbourHidden, NotNeeded, Kind, Both, Added, Gone, Part, Node, Hash, Leaf}
use Rattle.cadf_tree.proofs.Filling.{AreLong, shown_items}
use Rattle.cadf_tree.proofs.Rising.{and_left, and_right, false_true}

-- ---- one check after the other

or_first : (o p : Option TreeFault) → option_or o p ≡ None → o ≡ None
or_first None p h = refl
or_first (Some f) p h = h

or_second : (o p : Option TreeFault) → option_or o p ≡ None → p ≡ None
or_second None p h = h
or_second (Some f) p h = absurd (cc)

unless : (b : Bool) (f : TreeFault) → fault_unless b f ≡ None → b ≡ true
unless true f h = refl
unless false f h = absurd (cc)

accepted_by : (o : Option TreeFault) (ps : List Part) (g : Growth) → growth_unless o ps ≡ Ok g → o ≡ None
accepted_by None ps g h = refl
accepted_by (Some f) ps g h = absurd (cc)

pub same_text : (x y : Text) → is_text x y ≡ true → x ≡ y
same_text [] [] h = refl
same_text [] (b ∷ y) h = absurd (false_true h)
same_text (a ∷ x) [] h = absurd (false_true h)
same_text (a ∷ x) (b ∷ y) h = λ i. eqb-true a b (and_left (nat_eq a b) (is_text x y) h) i ∷ same_text x y (and_right (nat_eq a b) (is_text x y) h) i

pub record IsAccepted (a b : Root) (ps : List Part) : Type 0 where
  pub tree : Option Pruned
  pub read : read_all ps ≡ Some tree
  pub counts : counts_agree a b ps ≡ true
  pub earlier : root_hash a.count (side_root is_earlier tree) ≡ a.hash
  pub later : root_hash b.count (side_root is_later tree) ≡ b.hash
  pub rise : all_beside rise (items ps) ≡ true
  pub seen : all_beside is_seen (items ps) ≡ true

by_tree : (a b : Root) (ps : List Part) → counts_agree a b ps ≡ true → (r : Option (Option Pruned)) → read_all ps ≡ r → sides_fault a b ps (option_map sides r) ≡ None
    → IsAccepted a b ps
by_tree a b ps counts None e h = absurd (cc)
by_tree a b ps counts (Some t) e h =
    let roots = or_first (roots_fault a b (sides t)) (order_fault ps (has_spare t)) h in
    let order = or_second (roots_fault a b (sides t)) (order_fault ps (has_spare t)) h in
    let first = fault_unless (is_text (root_hash a.count (side_root is_earlier t)) a.hash) OtherEarlierRoot in
    let second = fault_unless (is_text (root_hash b.count (side_root is_later t)) b.hash) OtherLaterRoot in
    let rising = fault_unless (all_beside rise (items ps)) Order in
    let rest = option_or (fault_unless (all_beside is_seen (items ps)) NeighbourHidden) (fault_unless (not (has_spare t)) NotNeeded) in
    record {
      tree = t;
      read = e;
      counts = counts;
      earlier = same_text _ _ (unless _ OtherEarlierRoot (or_first first second roots));
      later = same_text _ _ (unless _ OtherLaterRoot (or_second first second roots));
      rise = unless _ Order (or_first rising rest order);
      seen = unless _ NeighbourHidden (or_first (fault_unless (all_beside is_seen (items ps)) NeighbourHidden) (fault_unless (not (has_spare t)) NotNeeded) (or_second rising rest order));
    }

pub judged : (a b : Root) (ps : List Part) → tree_fault a b ps ≡ None → IsAccepted a b ps
judged a b ps none =
    let counts = fault_unless (counts_agree a b ps) OtherCount in
    by_tree a b ps (unless (counts_agree a b ps) OtherCount (or_first counts (sides_fault a b ps (option_map sides (read_all ps))) none)) (read_all ps) refl
    (or_second counts (sides_fault a b ps (option_map sides (read_all ps))) none)

pub accepted : (a b : Root) (ps : List Part) (g : Growth) → verdict a b ps ≡ Ok g → IsAccepted a b ps
accepted a b ps g h = judged a b ps (or_first (tree_fault a b ps) (fault_unless (all_needed false (items ps)) NotNeeded) (accepted_by _ ps g h))

-- ---- what is read is what stands there

abbrev pub IsReadOf : List Part → Read → Type 0
IsReadOf ps None = Unit {0}
IsReadOf ps (Some r) = (items ps ≡ shown_items r.0 ++ items r.1) × (HaveHashes ps → AreLong r.0 × HaveHashes r.1)

beside_of : (ps rest : List Part) (l : Pruned) (r : Read) → IsReadOf ps (Some (l, rest)) → IsReadOf rest r → IsReadOf ps (beside_read l r)
beside_of ps rest l None h k = tt
beside_of ps rest l (Some r) h k = (
  h.0 ∙ ap (λ x. shown_items l ++ x) k.0 ∙ sym (append_assoc (shown_items l) (shown_items r.0) (items r.1)),
  λ long. let first = h.1 long in let second = k.1 first.1 in ((first.0, second.0), second.1),
)

both_of : (n : ℕ) (ps : List Part) (l : Read) → IsReadOf ps l → ((rest : List Part) → IsReadOf rest (read n rest)) → IsReadOf ps (both_read l (λ rest. read n rest))
both_of n ps None h f = tt
both_of n ps (Some l) h f = beside_of ps l.1 l.0 (read n l.1) h (f l.1)

after_node : (ps : List Part) (r : Read) → IsReadOf ps r → IsReadOf (Node ∷ ps) r
after_node ps None h = tt
after_node ps (Some r) h = (h.0, λ long. h.1 long.1)

read_of : (n : ℕ) (ps : List Part) → IsReadOf ps (read n ps)
read_of zero ps = tt
read_of (suc n) [] = tt
read_of (suc n) (Node ∷ ps) =
    after_node ps (both_read (read n ps) (λ rest. read n rest)) (both_of n ps (read n ps) (read_of n ps) (read_of n))
read_of (suc n) (Hash h ∷ ps) = (refl, λ long. long)
read_of (suc n) (Leaf k d ∷ ps) = (refl, λ long. long)

abbrev pub tree_items : Option Pruned → List Part
tree_items None = []
tree_items (Some p) = shown_items p

abbrev pub AllLong : Option Pruned → Type 0
AllLong None = Unit {0}
AllLong (Some p) = AreLong p

abbrev pub IsAllOf : List Part → Option (Option Pruned) → Type 0
IsAllOf ps None = Unit {0}
IsAllOf ps (Some t) = (items ps ≡ tree_items t) × (HaveHashes ps → AllLong t)

whole_of : (ps : List Part) (r : Read) → IsReadOf ps r → IsAllOf ps (whole r)
whole_of ps None h = tt
whole_of ps (Some (p, [])) h = (h.0 ∙ append-nil (shown_items p), λ long. (h.1 long).0)
whole_of ps (Some (p, x ∷ xs)) h = tt

all_of : (ps : List Part) → IsAllOf ps (read_all ps)
all_of [] = (refl, λ long. tt)
all_of (x ∷ xs) = whole_of (x ∷ xs) (read 257 (x ∷ xs)) (read_of 257 (x ∷ xs))

pub tree_of_parts : (ps : List Part) (t : Option Pruned) → read_all ps ≡ Some t → (items ps ≡ tree_items t) × (HaveHashes ps → AllLong t)
tree_of_parts ps t e = subst (IsAllOf ps) e (all_of ps)

-- ---- counts

pub number_items : (w : Option Kind) (ps : List Part) → number w ps ≡ number w (items ps)
number_items w [] = refl
number_items w (Node ∷ ps) = number_items w ps
number_items w (Hash h ∷ ps) = by (is_of w (Hash h)) (number_items w ps)
  where
    by : (b : Bool) → number w ps ≡ number w (items ps) → length (if b then Hash h ∷ filter (is_of w) ps else filter (is_of w) ps) ≡ length (if b then Hash h ∷ filter (is_of w) (items ps) else filter (is_of w) (items ps))
    by true e = ap suc e
    by false e = e
number_items w (Leaf k d ∷ ps) = by (is_of w (Leaf k d)) (number_items w ps)
  where
    by : (b : Bool) → number w ps ≡ number w (items ps) → length (if b then Leaf k d ∷ filter (is_of w) ps else filter (is_of w) ps) ≡ length (if b then Leaf k d ∷ filter (is_of w) (items ps) else filter (is_of w) (items ps))
    by true e = ap suc e
    by false e = e

pub leaves_items : (k : Kind) (ps : List Part) → leaves_of k ps ≡ leaves_of k (items ps)
leaves_items k [] = refl
leaves_items k (Node ∷ ps) = leaves_items k ps
leaves_items k (Hash h ∷ ps) = leaves_items k ps
leaves_items k (Leaf l d ∷ ps) = by (is_of (Some k) (Leaf l d)) (leaves_items k ps)
  where
    by : (b : Bool) → leaves_of k ps ≡ leaves_of k (items ps) → (if b then d ∷ leaves_of k ps else leaves_of k ps) ≡ (if b then d ∷ leaves_of k (items ps) else leaves_of k (items ps))
    by true e = ap (λ l. d ∷ l) e
    by false e = e

pub none_there : (shown hidden : ℕ) (m : Option ℕ) → are_equal (hidden_leaves 0 shown hidden) m ≡ true → (shown ≡ 0) × (hidden ≡ 0)
none_there shown hidden m h = by (nat_lt 0 shown) refl h
  where
    below : shown ≡ 0 → (y : Bool) → nat_eq hidden 0 ≡ y → (w : Bool) → nat_le hidden (0 - shown) ≡ w
        → are_equal (if (if y then nat_eq (0 - shown) 0 else w) then Some (0 - shown) else None) m ≡ true → hidden ≡ 0
    below none true e w f k = eqb-true hidden 0 e
    below none false e true f k = omega (arith, none, leb-true hidden (0 - shown) f)
    below none false e false f k = absurd (false_true k)

    by : (z : Bool) → nat_lt 0 shown ≡ z
        → are_equal (if z then None else if may_hide (0 - shown) hidden then Some (0 - shown) else None) m ≡ true → (shown ≡ 0) × (hidden ≡ 0)
    by true e k = absurd (false_true k)
    by false e k =
        let none : shown ≡ 0 = omega (arith, ltb-false _ _ e) in
        (none, below none (nat_eq hidden 0) refl (nat_le hidden (0 - shown)) refl k)

pub are_equal_swap : (m n : Option ℕ) → are_equal m n ≡ true → are_equal n m ≡ true
are_equal_swap None n h = absurd (false_true h)
are_equal_swap (Some m) None h = absurd (false_true h)
are_equal_swap (Some m) (Some n) h =
    let e = eqb-true m n h in
    ap (λ k. nat_eq n k) e ∙ ap (λ k. nat_eq k n) (sym e) ∙ h

pub number_append : (w : Option Kind) (xs ys : List Part) → number w (xs ++ ys) ≡ number w xs + number w ys
number_append w [] ys = omega arith
number_append w (x ∷ xs) ys = by (is_of w x) (number_append w xs ys)
  where
    by : (b : Bool) → number w (xs ++ ys) ≡ number w xs + number w ys
        → length (if b then x ∷ filter (is_of w) (xs ++ ys) else filter (is_of w) (xs ++ ys)) ≡ length (if b then x ∷ filter (is_of w) xs else filter (is_of w) xs) + number w ys
    by true e = omega (arith, e)
    by false e = e

one_zero : ◌≡◌ {A = ℕ} 1 0 → ⊥
one_zero e = absurd (omega (arith, e))

-- no leaf of this side and no hash is there
pub none_on : (on : Kind → Bool) (p : Pruned) → number None (shown_items p) ≡ 0 → ((k : Kind) → on k ≡ true → number (Some k) (shown_items p) ≡ 0) → side_hash on p ≡ None
none_on on (Hidden h) n f = absurd (one_zero n)
none_on on (Shown k d) n f = by (on k) refl
  where
    there : (k : Kind) → number (Some k) (Leaf k d ∷ []) ≡ 0 → ⊥
    there Both e = one_zero e
    there Added e = one_zero e
    there Gone e = one_zero e

    by : (z : Bool) → on k ≡ z → (if z then Some (leaf_hash d) else None) ≡ None
    by true e = absurd (there k (f k e))
    by false e = refl
none_on on (Fork l r) n f =
    let both = λ (w : Option Kind). number_append w (shown_items l) (shown_items r) in
    λ i. joined (none_on on l (omega (arith, n, both None)) (λ k e. omega (arith, f k e, both (Some k))) i)
    (none_on on r (omega (arith, n, both None)) (λ k e. omega (arith, f k e, both (Some k))) i)
