-- The parts that are made are the hashes of some of the digests beside each other, and the leaves between them; so they are accepted.
use Rattle.cadf_tree.proofs.Common.{◌≡◌, ◌∙◌, ◌+◌, ◌-◌, ◌≤◌, ◌++◌, ℕ, suc, Bool, true, false, List, [], ◌∷◌, Option, None, Some, length, take, drop, refl, ap, sym, subst, arith, append_assoc, append-nil, length-append, length-take-le, length-drop, common_steps, ◌&&◌, ◌||◌, not, nat_eq, nat_le, le-ltb, eqb-true, option_map, option_or, if◌then◌else◌, Text, Tree, Tip, Branch, leaf_hash, hash, leaves, all_leaves, tree_of, root, root_hash, IsSet, Pruned, Hidden, Fork, read_all, items, is_earlier, is_later, number, is_text, may_hide, hidden_leaves, are_equal, counts_agree, all_beside, rise, is_seen, has_spare, sides, fault_unless, roots_fault, order_fault, sides_fault, tree_fault, AreRising, all_kinds, Kinds, is_shown, any_shown, size, made_leaf, made, made_of, made_parts, side, Root, TreeFault, OtherCount, OtherEarlierRoot, OtherLaterRoot, Order, NeighbourHidden, NotNeeded, Kind, Both, Added, Gone, Part, take-append-drop, le-leb, is_hidden, is_spare}
use Rattle.cadf_tree.proofs.Sorted.{leaves_are}
use Rattle.cadf_tree.proofs.Filling.{Cell, Block, One, cell_items, shown_items, side_leaves, items_append, side_append, some_leaf}
use Rattle.cadf_tree.proofs.Judged.{tree_of_parts, tree_items, number_items}
use Rattle.cadf_tree.proofs.Rising.{rest_rising}
use Rattle.cadf_tree.proofs.Differing.{sorted_rising}
use Rattle.cadf_tree.proofs.Showing.{leaves_in}
use Rattle.cadf_tree.proofs.Making.{made_read, made_roots, or_left, or_rest, size_leaves}

-- ---- the kinds that cells say

abbrev pub nones : List Text → Kinds
nones [] = []
nones (d ∷ ds) = None ∷ nones ds

abbrev pub its_kinds : Cell → Kinds
its_kinds (Block h b bs) = None ∷ nones bs
its_kinds (One k d) = Some k ∷ []

abbrev pub kinds_in : List Cell → Kinds
kinds_in [] = []
kinds_in (c ∷ cs) = its_kinds c ++ kinds_in cs

pub kinds_append : (cs ds : List Cell) → kinds_in (cs ++ ds) ≡ kinds_in cs ++ kinds_in ds
kinds_append [] ds = refl
kinds_append (c ∷ cs) ds = ap (λ l. its_kinds c ++ l) (kinds_append cs ds) ∙ sym (append_assoc (its_kinds c) (kinds_in cs) (kinds_in ds))

is_none : (k : Option Kind) → is_shown k ≡ false → k ≡ None
is_none None h = refl
is_none (Some k) h = absurd (cc)

pub nones_are : (ds : List Text) (ks : Kinds) → length ks ≡ length ds → any_shown ks ≡ false → nones ds ≡ ks
nones_are [] [] e h = refl
nones_are [] (k ∷ ks) e h = absurd (omega (arith, e))
nones_are (d ∷ ds) [] e h = absurd (omega (arith, e))
nones_are (d ∷ ds) (k ∷ ks) e h =
    λ i. sym (is_none k (or_left (is_shown k) (any_shown ks) h)) i ∷ nones_are ds ks (omega (arith, e)) (or_rest (is_shown k) (any_shown ks) h) i

pub record IsCelled (p : Pruned) (ds : List Text) (ks : Kinds) : Type 0 where
  pub cells : List Cell
  pub items : cell_items cells ≡ shown_items p
  pub leaves : leaves_in cells ≡ ds
  pub kinds : kinds_in cells ≡ ks
  pub spare : is_spare p ≡ false

leaf_celled : (d : Text) (k : Option Kind) → IsCelled (made_leaf d k) (d ∷ []) (k ∷ [])
leaf_celled d None = record { cells = Block (leaf_hash d) d [] ∷ []; items = refl; leaves = refl; kinds = refl; spare = refl }
leaf_celled d (Some k) = record { cells = One k d ∷ []; items = refl; leaves = refl; kinds = refl; spare = refl }

hidden_celled : (t : Tree) (ks : Kinds) → length ks ≡ size t → any_shown ks ≡ false → IsCelled (Hidden (hash t)) (leaves t) ks
hidden_celled t ks e none =
    let some = some_leaf t in
    record {
      cells = Block (hash t) some.head some.tail ∷ [];
      items = refl;
      leaves = append-nil (some.head ∷ some.tail) ∙ sym some.is;
      kinds = append-nil (nones (some.head ∷ some.tail)) ∙ nones_are (some.head ∷ some.tail) ks (omega (arith, e, size_leaves t, ap length some.is)) none;
      spare = refl;
    }

-- ---- a node has a half that isn't a hash

none_shown : (d : Text) (k : Option Kind) → is_hidden (made_leaf d k) ≡ true → is_shown k ≡ false
none_shown d None h = refl
none_shown d (Some k) h = absurd (cc)

or_false : (z : Bool) → z ≡ false → (z || false) ≡ false
or_false true e = e
or_false false e = refl

hidden_none : (t : Tree) (ks : Kinds) → length ks ≡ size t → is_hidden (made t ks) ≡ true → any_shown ks ≡ false
unfolding made
hidden_none (Tip d) [] e h = refl
hidden_none (Tip d) (k ∷ []) e h = or_false (is_shown k) (none_shown d k h)
hidden_none (Tip d) (k ∷ l ∷ ks) e h = absurd (omega (arith, e))
hidden_none (Branch l r) ks e h = by (any_shown ks) refl h
  where
    by : (z : Bool) → any_shown ks ≡ z → is_hidden (if z then Fork (made l (take (size l) ks)) (made r (drop (size l) ks)) else Hidden (hash (Branch l r))) ≡ true
        → any_shown ks ≡ false
    by true f g = absurd (cc)
    by false f g = f

any_append : (ks ls : Kinds) → any_shown ks ≡ false → any_shown ls ≡ false → any_shown (ks ++ ls) ≡ false
any_append [] ls h g = g
any_append (k ∷ ks) ls h g =
    (λ i. or_left (is_shown k) (any_shown ks) h i || any_shown (ks ++ ls)) ∙ any_append ks ls (or_rest (is_shown k) (any_shown ks) h) g

true_false : true ≡ false → ⊥
true_false e = absurd (cc)

not_spare : (a b c d : Bool) → (a ≡ true → b ≡ true → ⊥) → c ≡ false → d ≡ false → ((a && b) || (c || d)) ≡ false
not_spare true true c d f g h = absurd (f refl refl)
not_spare true false c d f g h = (λ i. g i || d) ∙ h
not_spare false b c d f g h = (λ i. g i || d) ∙ h

fork_celled : (l r : Pruned) (ds es : List Text) (ks ls : Kinds) → IsCelled l ds ks → IsCelled r es ls → (is_hidden l ≡ true → is_hidden r ≡ true → ⊥)
    → IsCelled (Fork l r) (ds ++ es) (ks ++ ls)
fork_celled l r ds es ks ls x y some = record {
  cells = x.cells ++ y.cells;
  items = items_append x.cells y.cells ∙ (λ i. x.items i ++ y.items i);
  leaves = side_append all_kinds x.cells y.cells ∙ (λ i. x.leaves i ++ y.leaves i);
  kinds = kinds_append x.cells y.cells ∙ (λ i. x.kinds i ++ y.kinds i);
  spare = not_spare (is_hidden l) (is_hidden r) (is_spare l) (is_spare r) some x.spare y.spare;
}

celled : (t : Tree) (ks : Kinds) → length ks ≡ size t → IsCelled (made t ks) (leaves t) ks
unfolding made
celled (Tip d) [] e = absurd (omega (arith, e))
celled (Tip d) (k ∷ []) e = leaf_celled d k
celled (Tip d) (k ∷ l ∷ ks) e = absurd (omega (arith, e))
celled (Branch l r) ks e = by (any_shown ks) refl (celled l (take (size l) ks) low) (celled r (drop (size l) ks) high)
  where
    low : length (take (size l) ks) ≡ size l
    low = length-take-le (size l) ks (omega (arith, e))

    high : length (drop (size l) ks) ≡ size r
    high = omega (arith, e, length-drop (size l) ks)

    some : any_shown ks ≡ true → is_hidden (made l (take (size l) ks)) ≡ true → is_hidden (made r (drop (size l) ks)) ≡ true → ⊥
    some f g h =
        true_false (sym f ∙ ap any_shown (sym (take-append-drop (size l) ks))
        ∙ any_append (take (size l) ks) (drop (size l) ks) (hidden_none l (take (size l) ks) low g) (hidden_none r (drop (size l) ks) high h))

    by : (z : Bool) → any_shown ks ≡ z → IsCelled (made l (take (size l) ks)) (leaves l) (take (size l) ks)
        → IsCelled (made r (drop (size l) ks)) (leaves r) (drop (size l) ks)
        → IsCelled (if z then Fork (made l (take (size l) ks)) (made r (drop (size l) ks)) else Hidden (hash (Branch l r))) (leaves (Branch l r)) ks
    by true f x y =
        subst (IsCelled (Fork (made l (take (size l) ks)) (made r (drop (size l) ks))) (leaves (Branch l r))) (take-append-drop (size l) ks)
        (fork_celled (made l (take (size l) ks)) (made r (drop (size l) ks)) (leaves l) (leaves r) (take (size l) ks) (drop (size l) ks) x y (some f))
    by false f x y = hidden_celled (Branch l r) ks e f

pub record AreCelled (ds : List Text) (ks : Kinds) : Type 0 where
  pub cells : List Cell
  pub its_items : items (made_parts (tree_of ds) ks) ≡ cell_items cells
  pub leaves : leaves_in cells ≡ ds
  pub kinds : kinds_in cells ≡ ks
  pub spare : has_spare (made_of (tree_of ds) ks) ≡ false

no_kinds : (ks : Kinds) → length ks ≡ 0 → [] ≡ ks
no_kinds [] e = refl
no_kinds (k ∷ ks) e = absurd (omega (arith, e))

celled_by : (o : Option Tree) (ds : List Text) (ks : Kinds) → tree_of ds ≡ o → all_leaves o ≡ ds → length ks ≡ length ds → AreCelled ds ks
celled_by None ds ks is e f = record {
  cells = [];
  its_items = parts ∙ ap (λ t. tree_items (made_of t ks)) is;
  leaves = e;
  kinds = no_kinds ks (omega (arith, f, sym (ap length e)));
  spare = ap (λ t. has_spare (made_of t ks)) is;
}
  where
    parts : items (made_parts (tree_of ds) ks) ≡ tree_items (made_of (tree_of ds) ks)
    parts = (tree_of_parts (made_parts (tree_of ds) ks) (made_of (tree_of ds) ks) (made_read ds ks)).0
celled_by (Some t) ds ks is e f =
    let x = celled t ks (omega (arith, f, sym (ap length e), size_leaves t)) in
    record {
      cells = x.cells;
      its_items = (tree_of_parts (made_parts (tree_of ds) ks) (made_of (tree_of ds) ks) (made_read ds ks)).0 ∙ ap (λ o. tree_items (made_of o ks)) is ∙ sym x.items;
      leaves = x.leaves ∙ e;
      kinds = x.kinds;
      spare = ap (λ o. has_spare (made_of o ks)) is ∙ x.spare;
    }

pub set_celled : (ds : List Text) (ks : Kinds) → IsSet ds → length ks ≡ length ds → AreCelled ds ks
set_celled ds ks set e = celled_by (tree_of ds) ds ks refl (leaves_are ds set) e

-- ---- both sides

block_side : (on : Kind → Bool) (ds us : List Text) (ks : Kinds) → side on (ds ++ us) (nones ds ++ ks) ≡ ds ++ side on us ks
block_side on [] us ks = refl
block_side on (d ∷ ds) us ks = ap (λ l. d ∷ l) (block_side on ds us ks)

pub cells_side : (on : Kind → Bool) (cs : List Cell) → side on (leaves_in cs) (kinds_in cs) ≡ side_leaves on cs
cells_side on [] = refl
cells_side on (Block h b bs ∷ cs) = block_side on (b ∷ bs) (leaves_in cs) (kinds_in cs) ∙ ap (λ l. b ∷ bs ++ l) (cells_side on cs)
cells_side on (One k d ∷ cs) = by (on k) (cells_side on cs)
  where
    by : (z : Bool) → side on (leaves_in cs) (kinds_in cs) ≡ side_leaves on cs
        → (if z then d ∷ side on (leaves_in cs) (kinds_in cs) else side on (leaves_in cs) (kinds_in cs)) ≡ (if z then d ∷ [] else []) ++ side_leaves on cs
    by true e = ap (λ l. d ∷ l) e
    by false e = e

-- ---- counts

abbrev pub hidden_in : List Cell → ℕ
hidden_in [] = 0
hidden_in (Block h b bs ∷ cs) = suc (length bs + hidden_in cs)
hidden_in (One k d ∷ cs) = hidden_in cs

pub hidden_most : (cs : List Cell) → number None (cell_items cs) ≤ hidden_in cs
hidden_most [] = omega arith
hidden_most (Block h b bs ∷ cs) = omega (arith, hidden_most cs)
hidden_most (One k d ∷ cs) = hidden_most cs

pub none_hidden : (cs : List Cell) → number None (cell_items cs) ≡ 0 → hidden_in cs ≡ 0
none_hidden [] e = refl
none_hidden (Block h b bs ∷ cs) e = absurd (omega (arith, e))
none_hidden (One k d ∷ cs) e = none_hidden cs e

pub earlier_count : (cs : List Cell) → length (side_leaves is_earlier cs) ≡ (number (Some Both) (cell_items cs) + number (Some Gone) (cell_items cs)) + hidden_in cs
earlier_count [] = refl
earlier_count (Block h b bs ∷ cs) = omega (arith, length-append bs (side_leaves is_earlier cs), earlier_count cs)
earlier_count (One Both d ∷ cs) = omega (arith, earlier_count cs)
earlier_count (One Added d ∷ cs) = earlier_count cs
earlier_count (One Gone d ∷ cs) = omega (arith, earlier_count cs)

pub later_count : (cs : List Cell) → length (side_leaves is_later cs) ≡ (number (Some Both) (cell_items cs) + number (Some Added) (cell_items cs)) + hidden_in cs
later_count [] = refl
later_count (Block h b bs ∷ cs) = omega (arith, length-append bs (side_leaves is_later cs), later_count cs)
later_count (One Both d ∷ cs) = omega (arith, later_count cs)
later_count (One Added d ∷ cs) = omega (arith, later_count cs)
later_count (One Gone d ∷ cs) = later_count cs

pub equal_itself : (n : ℕ) → nat_eq n n ≡ true
equal_itself n = grind (arith, common_steps)

hides : (below hidden : ℕ) → hidden ≤ below → (hidden ≡ 0 → below ≡ 0) → may_hide below hidden ≡ true
hides below hidden most none = by (nat_eq hidden 0) refl
  where
    by : (z : Bool) → nat_eq hidden 0 ≡ z → (if z then nat_eq below 0 else nat_le hidden below) ≡ true
    by true e = ap (λ n. nat_eq n 0) (none (eqb-true hidden 0 e))
    by false e = le-leb hidden below most

pub left_hidden : (n shown hidden below : ℕ) → n ≡ shown + below → hidden ≤ below → (hidden ≡ 0 → below ≡ 0) → hidden_leaves n shown hidden ≡ Some below
left_hidden n shown hidden below e most none =
    ap (λ z. if z then None else if may_hide (n - shown) hidden then Some (n - shown) else None) (le-ltb n shown (omega (arith, e)))
    ∙ ap (λ m. if may_hide m hidden then Some m else None) rest
    ∙ ap (λ z. if z then Some below else None) (hides below hidden most none)
  where
    rest : n - shown ≡ below
    rest = omega (arith, e)

cells_agree : (cs : List Cell) (old new : List Text) → side_leaves is_earlier cs ≡ old → side_leaves is_later cs ≡ new
    → counts_agree (root old) (root new) (cell_items cs) ≡ true
cells_agree cs old new e f =
    (λ i. are_equal (left i) (right i)) ∙ equal_itself (hidden_in cs)
  where
    xs : List Part
    xs = cell_items cs

    left : hidden_leaves (length old) (number (Some Both) xs + number (Some Gone) xs) (number None xs) ≡ Some (hidden_in cs)
    left = left_hidden (length old) _ (number None xs) (hidden_in cs) (sym (ap length e) ∙ earlier_count cs) (hidden_most cs) (none_hidden cs)

    right : hidden_leaves (length new) (number (Some Both) xs + number (Some Added) xs) (number None xs) ≡ Some (hidden_in cs)
    right = left_hidden (length new) _ (number None xs) (hidden_in cs) (sym (ap length f) ∙ later_count cs) (hidden_most cs) (none_hidden cs)

-- ---- order

pub block_rest : (b : Text) (bs us : List Text) → AreRising (b ∷ bs ++ us) → AreRising us
block_rest b [] us h = rest_rising b us h
block_rest b (c ∷ bs) us h = block_rest c bs us h.1

pub both_true : (a b : Bool) → a ≡ true → b ≡ true → (a && b) ≡ true
both_true true b e f = f
both_true false b e f = absurd (cc)

pub cells_rise : (cs : List Cell) → AreRising (leaves_in cs) → all_beside rise (cell_items cs) ≡ true
cells_rise [] h = refl
cells_rise (Block g b bs ∷ []) h = refl
cells_rise (Block g b bs ∷ c ∷ cs) h = cells_rise (c ∷ cs) (block_rest b bs (leaves_in (c ∷ cs)) h)
cells_rise (One k d ∷ []) h = refl
cells_rise (One k d ∷ Block g b bs ∷ cs) h = cells_rise (Block g b bs ∷ cs) h.1
cells_rise (One k d ∷ One l e ∷ cs) h = both_true _ _ h.0 (cells_rise (One l e ∷ cs) h.1)

-- ---- what is made is accepted

pub same_itself : (x : Text) → is_text x x ≡ true
same_itself [] = refl
same_itself (a ∷ x) = both_true (nat_eq a a) (is_text x x) (equal_itself a) (same_itself x)

same_as : (x y : Text) → x ≡ y → is_text x y ≡ true
same_as x y e = ap (is_text x) (sym e) ∙ same_itself x

pub none_first : (o p : Option TreeFault) → o ≡ None → p ≡ None → option_or o p ≡ None
none_first o p e f = ap (λ x. option_or x p) e ∙ f

pub holds : (b : Bool) (f : TreeFault) → b ≡ true → fault_unless b f ≡ None
holds b f e = ap (λ z. fault_unless z f) e

module _ (ds : List Text) (ks : Kinds) (set : IsSet ds) (e : length ks ≡ length ds) where
  its_side_is : (on : Kind → Bool) (x : AreCelled ds ks) → side_leaves on x.cells ≡ side on ds ks
  its_side_is on x = sym (cells_side on x.cells) ∙ (λ i. side on (x.leaves i) (x.kinds i))

  pub passes : all_beside is_seen (items (made_parts (tree_of ds) ks)) ≡ true
      → tree_fault (root (side is_earlier ds ks)) (root (side is_later ds ks)) (made_parts (tree_of ds) ks) ≡ None
  passes seen =
      none_first (fault_unless (counts_agree a b ps) OtherCount) (sides_fault a b ps (option_map sides (read_all ps)))
      (holds (counts_agree a b ps) OtherCount counts)
      (ap (λ r. sides_fault a b ps (option_map sides r)) (made_read ds ks)
      ∙ none_first (roots_fault a b (sides t)) (order_fault ps (has_spare t)) roots order)
    where
      x : AreCelled ds ks
      x = set_celled ds ks set e

      ps : List Part
      ps = made_parts (tree_of ds) ks

      t : Option Pruned
      t = made_of (tree_of ds) ks

      a : Root
      a = root (side is_earlier ds ks)

      b : Root
      b = root (side is_later ds ks)

      counts : counts_agree a b ps ≡ true
      counts =
          (λ i. are_equal (hidden_leaves a.count (number_items (Some Both) ps i + number_items (Some Gone) ps i) (number_items None ps i))
          (hidden_leaves b.count (number_items (Some Both) ps i + number_items (Some Added) ps i) (number_items None ps i)))
          ∙ ap (counts_agree a b) x.its_items ∙ cells_agree x.cells (side is_earlier ds ks) (side is_later ds ks) (its_side_is is_earlier x) (its_side_is is_later x)

      roots : roots_fault a b (sides t) ≡ None
      roots =
          none_first _ _
          (holds _ OtherEarlierRoot (same_as _ _ (ap (root_hash a.count) (made_roots is_earlier ds ks set e))))
          (holds _ OtherLaterRoot (same_as _ _ (ap (root_hash b.count) (made_roots is_later ds ks set e))))

      order : order_fault ps (has_spare t) ≡ None
      order =
          none_first _ _
          (holds _ Order (ap (all_beside rise) x.its_items ∙ cells_rise x.cells (subst AreRising (sym x.leaves) (sorted_rising ds set.rising))))
          (none_first _ _ (holds _ NeighbourHidden seen) (holds _ NotNeeded (ap not x.spare)))
